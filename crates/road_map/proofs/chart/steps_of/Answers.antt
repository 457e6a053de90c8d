use Rattle.std.proofs.Common.{◌≡◌, List, length, arith, inl, inr, ap, sym, ◌∙◌, subst}
use Rattle.std.proofs.lemmas.List.{length-map}
use Rattle.std.proofs.lemmas.Result.{err_from_is_err_and, IfErr-weaker}
use Rattle.road_map.specs.declared.parts.Node.{Node}
use Rattle.road_map.specs.declared.parts.Road.{Road}
use Rattle.road_map.specs.Chains.{EndBelow}
use Rattle.road_map.specs.Rows.{ArePlaced, JoinIdsBelow, FirstFaulty, FirstCrowded, ThinBelow, AreRows}
use Rattle.road_map.specs.Steps.{AreSteps, StepFault}
use Rattle.road_map.proofs.RowLaws.{ArePlaced-length, ends_below}
use Rattle.road_map.proofs.StepLaws.{both_ok}
use Rattle.road_map.proofs.chart.steps_of.Goals as goal

pub returns-in_err-placed-clause-fault : goal.returns-in_err-placed-clause-fault
returns-in_err-placed-clause-fault c =
    let p = err_from_is_err_and c.from_residual.result c.from_residual.ensures.1 in
    rw (p.1, p.2) (inl (subst (λ found. FirstFaulty found c.args.roads.now c.in_err-placed.field-0.0) c.requires.ids c.in_err-placed.ensures.fault))

pub chains_of-requires-clause-few : goal.chains_of-requires-clause-few
chains_of-requires-clause-few c = omega (arith, ap length c.as_slice.ensures.value, ArePlaced-length c.args.found.now c.args.roads.now c.in_ok-placed.placed.items c.in_ok-placed.ensures.placed, c.requires.few)

pub chains_of-requires-clause-ends : goal.chains_of-requires-clause-ends
chains_of-requires-clause-ends c =
    let all : length c.args.found.now ≡ length c.args.order.now = ap length c.requires.ids ∙ length-map c.args.order.now (λ (n : Node). n.id) in
    subst (λ (qs : List Road). EndBelow (length c.args.order.now) qs) (sym c.as_slice.ensures.value)
    (subst (λ count. EndBelow count c.in_ok-placed.placed.items) all (ends_below c.args.found.now c.args.roads.now c.in_ok-placed.placed.items c.in_ok-placed.ensures.placed))

pub net_of-requires-clause-few : goal.net_of-requires-clause-few
net_of-requires-clause-few c = omega (arith, ap length c.as_slice-2.ensures.value, ArePlaced-length c.args.found.now c.args.roads.now c.in_ok-placed.placed.items c.in_ok-placed.ensures.placed, c.requires.few)

pub returns-clause-steps : goal.returns-clause-steps
returns-clause-steps c =
    both_ok c.net_of.result (AreRows c.as_slice-2.result.now (length c.args.order.now)) (AreSteps c.args.order.now c.args.roads.now) (ThinBelow c.as_slice-2.result.now (length c.args.order.now)) (λ net rows thin. record {
      between = c.as_slice-2.result.now;
      placed = rw c.as_slice-2.ensures.value (subst (λ found. ArePlaced found c.args.roads.now c.in_ok-placed.placed.items) c.requires.ids c.in_ok-placed.ensures.placed);
      joined = subst (λ found. JoinIdsBelow found c.args.roads.now (length c.args.roads.now)) c.requires.ids c.in_ok-placed.ensures.joined;
      thin = thin;
      rows = rows;
    }) c.net_of.ensures.rows c.net_of.ensures.thin

pub returns-clause-fault : goal.returns-clause-fault
returns-clause-fault c =
    IfErr-weaker c.net_of.result (FirstCrowded c.as_slice-2.result.now c.args.order.now) (StepFault c.args.order.now c.args.roads.now) (λ e h. inr (
      c.as_slice-2.result.now,
      rw c.as_slice-2.ensures.value (subst (λ found. ArePlaced found c.args.roads.now c.in_ok-placed.placed.items) c.requires.ids c.in_ok-placed.ensures.placed),
      subst (λ found. JoinIdsBelow found c.args.roads.now (length c.args.roads.now)) c.requires.ids c.in_ok-placed.ensures.joined,
      h,
    )) c.net_of.ensures.fault
