use Rattle.std.proofs.Common.{rules, ap, ◌∙◌}
use Rattle.std.proofs.lemmas.List.Sorted.{answers_always}
use Rattle.proof_judge.specs.ById.{named_in}
use Rattle.proof_judge.proofs.PairKeys.{ids_of, all_sorted, same_first}
use Rattle.proof_judge.proofs.pairs_by_id.sorted_copy.Goals as goal

pub returns : goal.returns
returns c = record {
  sorted = all_sorted _ (c.in_ok-sort_by_key.ensures.sorted ids_of (answers_always _ _ _ (λ f a r g h. search rules)));
  same_first = λ a b. same_first c.in_ok-copy.copy.items _ (c.in_ok-sort_by_key.ensures.stable ids_of (answers_always _ _ _ (λ f a r g h. search rules))) a b ∙ ap (λ ps. named_in ps a b) c.in_ok-copy.ensures.items;
}
