use Rattle.std.proofs.Common.{subst}
use Rattle.std.proofs.lemmas.Result.{err_from_is_err_and}
use Rattle.book_model.specs.Books.{Dij}
use Rattle.proof_judge.specs.Judgement.{DijTests}
use Rattle.proof_judge.specs.SharedTests.{UnlessMemory}
use Rattle.proof_judge.proofs.Tested.{judged_by}
use Rattle.method_judges.proofs.dij.DijJudge.judge.Goals as goal

pub returns-in_err-by_id : goal.returns-in_err-by_id
returns-in_err-by_id c = let p = err_from_is_err_and c.from_residual.result c.from_residual.ensures.1 in rw (p.1, p.2) (c.in_err-by_id.ensures.refused Dij c.args._numbers)

pub returns : goal.returns
returns c = judged_by Dij c.args._numbers c.args.items.now c.args.query c.in_ok-by_id.length c.tests.result c.in_ok-by_id.ensures.distinct c.in_ok-by_id.ensures.length (subst (λ xs. UnlessMemory (DijTests xs c.args.query c.in_ok-by_id.length) c.tests.result) c.in_ok-by_id.ensures.nodes c.tests.ensures)
