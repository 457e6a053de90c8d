use Rattle.std.proofs.Common.{◌∙◌, sym, subst, ap, length}
use Rattle.std.proofs.lemmas.List.{length-map}
use Rattle.std.proofs.lemmas.List.Sorted.{IsNonDecreasingBy-from_sort, length_permutation}
use Rattle.road_leaf.specs.declared.leaf.NodeLeaf.{NodeLeaf}
use Rattle.proof_judge.specs.ById.{AsMany}
use Rattle.proof_judge.proofs.PlaceLaws.{as_many_mapped, as_many_sorted}
use Rattle.proof_judge.proofs.places.sorted_ids.Goals as goal

pub returns-clause-sorted : goal.returns-clause-sorted
returns-clause-sorted c = IsNonDecreasingBy-from_sort (λ i. i) _ c.sort_unstable.ensures.sorted

pub returns-clause-as_many : goal.returns-clause-as_many
returns-clause-as_many c = as_many_sorted c.args.nodes.now c.in_ok-ids.ids.items _ c.sort_unstable.ensures.permutation (subst (AsMany c.args.nodes.now) (sym c.in_ok-ids.ensures) (as_many_mapped c.args.nodes.now))

pub returns-clause-count : goal.returns-clause-count
returns-clause-count c = length_permutation c.in_ok-ids.ids.items _ c.sort_unstable.ensures.permutation ∙ (ap length c.in_ok-ids.ensures ∙ length-map c.args.nodes.now (λ (n : NodeLeaf). n.id))
