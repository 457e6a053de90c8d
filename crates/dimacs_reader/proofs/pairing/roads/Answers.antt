use Rattle.std.proofs.Common.{◌≡◌, ap, ◌∙◌}
use Rattle.dimacs_reader.specs.declared.arc.Arc.{Arc}
use Rattle.dimacs_reader.proofs.RoadLaws.{none_yet, road_given, road_withheld}
use Rattle.dimacs_reader.proofs.pairing.roads.Goals as goal
use Rattle.dimacs_reader.proofs.pairing.roads.Goals.{then-arc+in_ok-push, else-arc}

abbrev no_arc : Arc
no_arc = record { from = 0; to = 0; length = 0 }

pub loop-arc-init : goal.loop-arc-init
loop-arc-init c = c.new-roads.ensures.items ∙ none_yet

pub loop-arc-preserved : goal.loop-arc-preserved
loop-arc-preserved c =
    elim c.if-arc.branch [
      | then-arc+in_ok-push w ↦ road_given c.args.arcs.now c.loop-arc.arc-index no_arc c.loop-arc.roads.items c.if-arc.roads.items w.road.result c.loop-arc-test.true w.if-arc.true c.loop-arc.invariant w.road.ensures (ap (λ v. v.items) w.roads-is ∙ w.in_ok-push.ensures.items)
      | else-arc w ↦ ap (λ v. v.items) w.roads-is ∙ road_withheld c.args.arcs.now c.loop-arc.arc-index no_arc c.loop-arc.roads.items c.loop-arc-test.true w.if-arc.false c.loop-arc.invariant
    ]
