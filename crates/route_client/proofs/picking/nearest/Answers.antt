use Rattle.std.proofs.Common.{List, ℕ, ◌∙◌, ap, nat_eq}
use Rattle.std.specs.List.{filter, list_any}
use Rattle.proof_octets.specs.declared.marks.Mark.{Mark}
use Rattle.route_client.proofs.RankLaws.{picks}
use Rattle.route_client.proofs.picking.nearest.Goals as goal

pub returns : goal.returns
returns c =
    picks c.args.within.now c.args.ids.now c.in_ok-ids.ids.items c.in_ok-found.found.items c.rank-nodes.result.items c.args.most (record { nodes = c.from_vec.result; count = c.len-count.result }) c.requires c.in_ok-ids.ensures.same
    (c.in_ok-found.ensures ∙ ap (λ (s : List ℕ). filter (λ (m : Mark). list_any (nat_eq m.id) s) c.args.within.now) c.deref.ensures.value)
    c.rank-nodes.ensures.same c.rank-nodes.ensures.sorted (c.from_vec.ensures ∙ c.truncate.ensures.items) (c.len-count.ensures ∙ c.rank-nodes.result.ok.0)
