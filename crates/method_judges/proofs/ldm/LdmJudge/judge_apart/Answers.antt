use Rattle.std.proofs.Common.{not, sym, subst}
use Rattle.std.proofs.lemmas.Result.{err_from_is_err_and}
use Rattle.book_model.specs.Books.{Ldm}
use Rattle.proof_judge.specs.ItemWalks.{item_at}
use Rattle.proof_judge.specs.Apart.{are_apart, open_ways, WalkTests}
use Rattle.proof_judge.specs.SharedTests.{UnlessMemory, IsNarrow}
use Rattle.proof_judge.proofs.Tested.{judged_apart}
use Rattle.method_judges.proofs.ldm.LdmJudge.judge_apart.Goals as goal

pub returns-in_err-by_id : goal.returns-in_err-by_id
returns-in_err-by_id c = let p = err_from_is_err_and c.from_residual.result c.from_residual.ensures.1 in rw (p.1, p.2) (c.in_err-by_id.ensures.refused Ldm c.args._numbers)

pub walk_tests-requires : goal.walk_tests-requires
walk_tests-requires c =
    let nodes = c.args.items.now.nodes in
    subst (λ xs. IsNarrow (open_ways (item_at xs) c.args.query.to)) (sym c.in_ok-by_id.ensures.nodes)
    (c.are_narrow.ensures (λ u _. not (are_apart (item_at nodes) (item_at nodes u) (item_at nodes c.args.query.to))))

pub returns : goal.returns
returns c = judged_apart Ldm c.args._numbers c.args.items.now c.args.query c.walk_tests.result c.in_ok-by_id.ensures.distinct c.in_ok-by_id.ensures.ends (subst (λ xs. UnlessMemory (WalkTests (open_ways (item_at xs) c.args.query.to) c.args.query) c.walk_tests.result) c.in_ok-by_id.ensures.nodes c.walk_tests.ensures)
