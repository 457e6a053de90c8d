use Rattle.std.proofs.Common.{◌≤◌, List, length, map, arith, ap, sym, ◌∙◌, subst}
use Rattle.std.proofs.lemmas.Result.{err_from_is_err_and}
use Rattle.road_map.specs.declared.parts.Node.{Node}
use Rattle.road_map.specs.declared.parts.Road.{Road}
use Rattle.road_map.specs.Places.{AreRising}
use Rattle.road_map.specs.Rows.{named_arc}
use Rattle.road_map.specs.Steps.{AreSteps, StepFault}
use Rattle.road_map.specs.Walks.{ids}
use Rattle.road_map.proofs.RowLaws.{ids_of_rise, repeated_fault}
use Rattle.road_map.proofs.StepLaws.{ordered, every, step_fault, built}
use Rattle.road_map.proofs.chart.chart_of.Goals as goal

pub returns-in_err-order-clause-fault : goal.returns-in_err-order-clause-fault
returns-in_err-order-clause-fault c =
    let p = err_from_is_err_and c.from_residual.result c.from_residual.ensures.1 in
    rw (p.1, p.2) (repeated_fault c.args.parts.now c.as_slice.result.now c.in_err-order.field-0.0 c.as_slice.ensures c.requires c.in_err-order.ensures.fault)

pub rising_ids_of-requires : goal.rising_ids_of-requires
rising_ids_of-requires c =
    subst (λ (order : List Node). AreRising (ids order)) (sym c.as_slice-2.ensures.value) (ids_of_rise c.as_slice.result.now c.in_ok-order.order.items c.in_ok-order.ensures.by_id)

pub steps_of-requires-clause-nodes : goal.steps_of-requires-clause-nodes
steps_of-requires-clause-nodes c =
    let o = ordered c.args.parts.now c.as_slice.result.now c.in_ok-order.order.items c.as_slice.ensures c.requires c.in_ok-order.ensures.distinct c.in_ok-order.ensures.same c.in_ok-order.ensures.by_id in
    let most : length c.args.parts.now.nodes ≤ 65536 = c.requires.1 in
    omega (arith, ap length c.as_slice-3.ensures.value, every c.args.parts.now c.in_ok-order.order.items o, most)

pub returns-in_err-net-clause-fault : goal.returns-in_err-net-clause-fault
returns-in_err-net-clause-fault c =
    let p = err_from_is_err_and c.from_residual-in_err-net.result c.from_residual-in_err-net.ensures.1 in
    let o = ordered c.args.parts.now c.as_slice.result.now c.in_ok-order.order.items c.as_slice.ensures c.requires c.in_ok-order.ensures.distinct c.in_ok-order.ensures.same c.in_ok-order.ensures.by_id in
    rw (p.1, p.2) (step_fault c.args.parts.now c.in_ok-order.order.items o c.in_err-net.field-0.0
    (subst (λ (order : List Node). StepFault order c.args.parts.now.roads c.in_err-net.field-0.0) c.as_slice-3.ensures.value
    (subst (λ (roads : List Road). StepFault c.as_slice-3.result.now roads c.in_err-net.field-0.0) c.as_slice-4.ensures c.in_err-net.ensures.fault)))

pub returns-clause-chart : goal.returns-clause-chart
returns-clause-chart c =
    let o = ordered c.args.parts.now c.as_slice.result.now c.in_ok-order.order.items c.as_slice.ensures c.requires c.in_ok-order.ensures.distinct c.in_ok-order.ensures.same c.in_ok-order.ensures.by_id in
    rw c.in_ok-held.ensures.ok (built c.args.parts.now c.in_ok-order.order.items o c.in_ok-ids.ids c.in_ok-arcs.arcs c.in_ok-net.net
    (c.in_ok-ids.ensures ∙ ap ids c.as_slice-2.ensures.value)
    (c.in_ok-arcs.ensures ∙ ap (λ (order : List Node). map (map (named_arc order)) c.in_ok-net.net) c.as_slice-5.ensures.value)
    (subst (λ (order : List Node). AreSteps order c.args.parts.now.roads c.in_ok-net.net) c.as_slice-3.ensures.value
    (subst (λ (roads : List Road). AreSteps c.as_slice-3.result.now roads c.in_ok-net.net) c.as_slice-4.ensures c.in_ok-net.ensures.steps)))
