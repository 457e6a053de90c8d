use Rattle.std.proofs.Common.{subst, sym}
use Rattle.std.proofs.lemmas.Result.{err_from_is_err_and}
use Rattle.book_model.specs.Books.{Ldm}
use Rattle.proof_judge.specs.Judgement.{LdmTests}
use Rattle.proof_judge.specs.SharedTests.{UnlessMemory, AreShort}
use Rattle.proof_judge.proofs.Tested.{judged_by}
use Rattle.method_judges.proofs.ldm.LdmJudge.judge.Goals as goal

pub returns-in_err-by_id : goal.returns-in_err-by_id
returns-in_err-by_id c = let p = err_from_is_err_and c.from_residual.result c.from_residual.ensures.1 in rw (p.1, p.2) (c.in_err-by_id.ensures.refused Ldm c.args.numbers)

pub returns : goal.returns
returns c = judged_by Ldm c.args.numbers c.args.items.now c.args.query c.in_ok-by_id.length c.tests.result c.in_ok-by_id.ensures.distinct c.in_ok-by_id.ensures.length (subst (λ xs. UnlessMemory (LdmTests c.args.numbers.first xs c.args.query c.in_ok-by_id.length) c.tests.result) c.in_ok-by_id.ensures.nodes c.tests.ensures)

pub tests-requires-clause-short : goal.tests-requires-clause-short
tests-requires-clause-short c = subst AreShort (sym c.in_ok-by_id.ensures.nodes) c.are_short.ensures
