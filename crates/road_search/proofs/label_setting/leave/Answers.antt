use Rattle.std.proofs.Common.{◌≡◌, [], List, Some, true, false, sym, ◌∙◌, subst, ap, refl}
use Rattle.std.specs.Option.{option_copied}
use Rattle.road_map.specs.declared.arc.Arc.{Arc}
use Rattle.road_search.specs.Labelling.{IsOffered, passable}
use Rattle.road_search.proofs.Offering.{none_offered}
use Rattle.road_search.proofs.label_setting.leave.Goals as goal
use Rattle.road_search.proofs.label_setting.leave.Goals.{then-lets+in_ok-offer_arcs-in-Some, else-lets}

pub returns-after-lets-clause-offered : goal.returns-after-lets-clause-offered
returns-after-lets-clause-offered g c =
    let ways = g.G.Ground.ways c.args.ground.now in
    let before = g.T.Marks.mark c.args.marks.now in
    let entry : ways.arcs c.args.id ≡ Some c.in-Some.arcs.now = sym c.arcs.ensures ∙ ap option_copied c.in-Some.is in
    elim c.if-lets.branch [
      | then-lets+in_ok-offer_arcs-in-Some w ↦
          let lets : ways.lets c.args.id c.args.label.length ≡ true = sym c.lets.ensures ∙ w.if-lets.true in
          let all : passable ways c.args.id c.args.label.length ≡ c.in-Some.arcs.now = rw (lets, entry) refl in
          rw w.marks-is (subst (λ (l : List Arc). IsOffered l c.args.limit c.args.id c.args.label before (g.T.Marks.mark w.offer_arcs.new.marks)) (sym all) w.in_ok-offer_arcs-in-Some.ensures.offered)
      | else-lets w ↦
          let shut : ways.lets c.args.id c.args.label.length ≡ false = sym c.lets.ensures ∙ w.if-lets.false in
          let none : passable ways c.args.id c.args.label.length ≡ [] = rw shut refl in
          rw w.marks-is (subst (λ (l : List Arc). IsOffered l c.args.limit c.args.id c.args.label before before) (sym none) (none_offered c.args.limit c.args.id c.args.label before))
    ]
