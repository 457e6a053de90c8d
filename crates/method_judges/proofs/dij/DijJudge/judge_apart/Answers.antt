use Rattle.std.proofs.Common.{true, sym, subst}
use Rattle.std.proofs.lemmas.Result.{err_from_is_err_and}
use Rattle.book_model.specs.Books.{Dij}
use Rattle.proof_judge.specs.ItemWalks.{item_at, any_ways}
use Rattle.proof_judge.specs.Apart.{WalkTests}
use Rattle.proof_judge.specs.SharedTests.{UnlessMemory, IsNarrow}
use Rattle.proof_judge.proofs.Tested.{judged_apart}
use Rattle.method_judges.proofs.dij.DijJudge.judge_apart.Goals as goal

pub returns-in_err-by_id : goal.returns-in_err-by_id
returns-in_err-by_id c = let p = err_from_is_err_and c.from_residual.result c.from_residual.ensures.1 in rw (p.1, p.2) (c.in_err-by_id.ensures.refused Dij c.args._numbers)

pub walk_tests-requires : goal.walk_tests-requires
walk_tests-requires c = subst (λ xs. IsNarrow (any_ways (item_at xs))) (sym c.in_ok-by_id.ensures.nodes) (c.are_narrow.ensures (λ _ _. true))

pub returns : goal.returns
returns c = judged_apart Dij c.args._numbers c.args.items.now c.args.query c.walk_tests.result c.in_ok-by_id.ensures.distinct c.in_ok-by_id.ensures.ends (subst (λ xs. UnlessMemory (WalkTests (any_ways (item_at xs)) c.args.query) c.walk_tests.result) c.in_ok-by_id.ensures.nodes c.walk_tests.ensures)
