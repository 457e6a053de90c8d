use Rattle.std.proofs.Common.{arith, ◌<◌, length}
use Rattle.std.proofs.lemmas.List.{take_more}
use Rattle.road_map.specs.declared.arc.Arc.{Arc}
use Rattle.road_search.proofs.Offering.{more_offered}
use Rattle.road_search.proofs.label_setting.offer_arcs.Goals as goal

pub loop-arc-preserved : goal.loop-arc-preserved
loop-arc-preserved g c =
    let d : Arc = record { to = 0; length = 0 } in
    let within : c.loop-arc.arc-index < length c.args.arcs.now = omega arith in
    record {
      front = c.in_ok-offer_arc.ensures.front;
      offered = rw (take_more c.args.arcs.now c.loop-arc.arc-index d within) (more_offered _ _ _ _ _ _ _ _ c.loop-arc.invariant.offered c.in_ok-offer_arc.ensures.offered);
    }
