use Rattle.std.proofs.Common.{◌≡◌, ℕ, ◌<◌, ◌+◌, ◌⊎◌, inl, inr, arith, subst, Some, take, slice_get, get_or}
use Rattle.std.proofs.lemmas.List.{take_more}
use Rattle.std.proofs.lemmas.Option.{get_or_from_slice_get, slice_get-get_or}
use Rattle.std.proofs.lemmas.Result.{err_from_is_err_and}
use Rattle.road_map.specs.declared.parts.Road.{Road}
use Rattle.road_map.specs.Rows.{JoinsIds}
use Rattle.road_map.proofs.RowLaws.{ArePlaced-snoc}
use Rattle.road_map.proofs.placing.placed_roads.Goals as goal

pub returns-in_err-road-clause-fault : goal.returns-in_err-road-clause-fault
returns-in_err-road-clause-fault c =
    let p = err_from_is_err_and c.from_residual-in_err-road.result c.from_residual-in_err-road.ensures.1 in
    let d : Road = record { a = 0; b = 0; length = 0 } in
    rw (p.1, p.2) (inr (
      c.loop-index.index,
      get_or c.args.roads.now c.loop-index.index d,
      c.loop-index.invariant.joined,
      slice_get-get_or c.args.roads.now c.loop-index.index d c.loop-index-test.true,
      c.in_err-road.ensures.fault,
    ))

last_or_before : (k i : ℕ) → k < i + 1 → (k < i) ⊎ (k ≡ i)
last_or_before k i lt = grind arith

pub loop-index-preserved : goal.loop-index-preserved
loop-index-preserved c =
    let d : Road = record { a = 0; b = 0; length = 0 } in
    let road : Road = get_or c.args.roads.now c.loop-index.index d in
    record {
      placed = rw (take_more c.args.roads.now c.loop-index.index d c.loop-index-test.true, c.in_ok-push.ensures.items)
          (ArePlaced-snoc c.args.ids.now (take c.loop-index.index c.args.roads.now) c.loop-index.placed.items road c.in_ok-road.road c.loop-index.invariant.placed c.in_ok-road.ensures.placed);
      joined = λ k r lt is. elim (last_or_before k c.loop-index.index lt) [
        | inl less ↦ c.loop-index.invariant.joined k r less is
        | inr here ↦
            let at : slice_get c.args.roads.now c.loop-index.index ≡ Some r = subst (λ i. slice_get c.args.roads.now i ≡ Some r) here is in
            subst (JoinsIds c.args.ids.now) (get_or_from_slice_get c.args.roads.now c.loop-index.index r d at) c.in_ok-road.ensures.joins
      ];
    }
