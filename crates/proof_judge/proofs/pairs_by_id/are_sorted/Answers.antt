use Rattle.std.proofs.Common.{rules}
use Rattle.std.proofs.lemmas.List.Sorted.{answers_always}
use Rattle.proof_judge.proofs.PairKeys.{in_order, tested_sorted}
use Rattle.proof_judge.proofs.pairs_by_id.are_sorted.Goals as goal

pub returns : goal.returns
returns c = λ is. tested_sorted c.args.pairs.now _ is (c.is_sorted_by.ensures.cases in_order (answers_always _ _ _ (λ f a r g h. search rules)))
