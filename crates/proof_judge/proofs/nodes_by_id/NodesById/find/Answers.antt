use Rattle.std.proofs.Common.{◌≡◌, ◌<◌, Some, None, length, arith, ap, ◌∙◌}
use Rattle.road_map.specs.Places.{place_in}
use Rattle.proof_judge.specs.ItemWalks.{item_at}
use Rattle.proof_judge.proofs.PlaceLaws.{within_listed, found_listed, missing_listed}
use Rattle.proof_judge.proofs.nodes_by_id.NodesById.find.Goals as goal

pub returns-in-None : goal.returns-in-None
returns-in-None c =
    let none : None ≡ place_in c.self.inside.ids.value c.args.id = c.in-None.ensures ∙ ap (λ is. place_in is c.args.id) c.deref.ensures in
    missing_listed c.self.inside.nodes.now c.self.inside.indices.items c.self.inside.ids.value c.args.id c.self.invariant none ∙ ap (λ ns. item_at ns c.args.id) c.self.view_is

pub index-requires : goal.index-requires
index-requires c =
    let at : Some c.in-Some.place ≡ place_in c.self.inside.ids.value c.args.id = c.in-Some.ensures ∙ ap (λ is. place_in is c.args.id) c.deref.ensures in
    let lt : c.in-Some.place < length c.self.inside.indices.items = within_listed c.self.inside.nodes.now c.self.inside.indices.items c.self.inside.ids.value c.args.id c.in-Some.place c.self.invariant at in
    omega (arith, lt, c.self.inside.indices.ok.0)

pub returns-in-Some : goal.returns-in-Some
returns-in-Some c =
    let at : Some c.in-Some.place ≡ place_in c.self.inside.ids.value c.args.id = c.in-Some.ensures ∙ ap (λ is. place_in is c.args.id) c.deref.ensures in
    c.get.ensures
    ∙ (found_listed c.self.inside.nodes.now c.self.inside.indices.items c.self.inside.ids.value c.args.id c.in-Some.place c.index.result.now c.self.invariant at c.index.ensures ∙ ap (λ ns. item_at ns c.args.id) c.self.view_is)
