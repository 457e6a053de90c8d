use Rattle.std.proofs.Common.{◌≡◌, None, Some, inr, refl, sym, subst, ◌∙◌}
use Rattle.road_map.specs.Least.{IsLeast}
use Rattle.road_map.specs.Places.{AreRising}
use Rattle.proof_judge.specs.ById.{AsMany, IsTaken, AreIndices}
use Rattle.proof_judge.proofs.PlaceLaws.{rising, taken_twice}
use Rattle.proof_judge.proofs.nodes_by_id.NodesById.new.Goals as goal

pub are_few-requires : goal.are_few-requires
are_few-requires c =
    subst AreRising (sym c.as_slice-in-None.ensures.value)
    (rising c.in_ok-sorted.sorted.items c.in_ok-sorted.ensures.sorted (subst (λ is. IsLeast (IsTaken is) None) c.as_slice.ensures.value c.in-None.ensures))

pub new-requires : goal.new-requires
new-requires c = rising c.in_ok-sorted.sorted.items c.in_ok-sorted.ensures.sorted (subst (λ is. IsLeast (IsTaken is) None) c.as_slice.ensures.value c.in-None.ensures)

pub indices_of-requires-clause-rise : goal.indices_of-requires-clause-rise
indices_of-requires-clause-rise c =
    subst AreRising (sym c.in_ok-rising-in-None.ensures)
    (rising c.in_ok-sorted.sorted.items c.in_ok-sorted.ensures.sorted (subst (λ is. IsLeast (IsTaken is) None) c.as_slice.ensures.value c.in-None.ensures))

pub indices_of-requires-clause-as_many : goal.indices_of-requires-clause-as_many
indices_of-requires-clause-as_many c = subst (AsMany c.args.nodes.now) (sym c.in_ok-rising-in-None.ensures) c.in_ok-sorted.ensures.as_many

pub indices_of-requires-clause-distinct : goal.indices_of-requires-clause-distinct
indices_of-requires-clause-distinct c =
    taken_twice c.args.nodes.now c.in_ok-sorted.sorted.items None c.in_ok-sorted.ensures.as_many (subst (λ is. IsLeast (IsTaken is) None) c.as_slice.ensures.value c.in-None.ensures)

pub invariant_of-result : goal.invariant_of-result
invariant_of-result c =
    let none : IsLeast (IsTaken c.in_ok-sorted.sorted.items) None = subst (λ is. IsLeast (IsTaken is) None) c.as_slice.ensures.value c.in-None.ensures in
    let same : c.in_ok-ids-in-None.ids.value ≡ c.in_ok-sorted.sorted.items = c.in_ok-ids-in-None.ensures.ok ∙ c.in_ok-rising-in-None.ensures in
    record {
      rise = subst AreRising (sym same) (rising c.in_ok-sorted.sorted.items c.in_ok-sorted.ensures.sorted none);
      as_many = subst (AsMany c.args.nodes.now) (sym same) c.in_ok-sorted.ensures.as_many;
      distinct = taken_twice c.args.nodes.now c.in_ok-sorted.sorted.items None c.in_ok-sorted.ensures.as_many none;
      indices_of = subst (λ is. AreIndices c.args.nodes.now is c.in_ok-indices-in-None.indices.items) (sym c.in_ok-ids-in-None.ensures.ok) c.in_ok-indices-in-None.ensures;
    }

pub returns-in-None-clause-distinct : goal.returns-in-None-clause-distinct
returns-in-None-clause-distinct c =
    taken_twice c.args.nodes.now c.in_ok-sorted.sorted.items None c.in_ok-sorted.ensures.as_many (subst (λ is. IsLeast (IsTaken is) None) c.as_slice.ensures.value c.in-None.ensures)

pub returns-clause-fault : goal.returns-clause-fault
returns-clause-fault c =
    inr (
      c.in-Some.id,
      refl,
      taken_twice c.args.nodes.now c.in_ok-sorted.sorted.items (Some c.in-Some.id) c.in_ok-sorted.ensures.as_many
          (subst (λ is. IsLeast (IsTaken is) (Some c.in-Some.id)) c.as_slice.ensures.value c.in-Some.ensures),
    )
