use Rattle.std.proofs.Common.{not, length, ◌≤◌, sym, subst}
use Rattle.std.proofs.lemmas.Result.{err_from_is_err_and}
use Rattle.book_model.specs.Books.{Hyp}
use Rattle.proof_judge.specs.ItemWalks.{item_at, inner_ways, marks}
use Rattle.proof_judge.specs.SharedTests.{IsNarrow}
use Rattle.proof_judge.proofs.Tested.{judged_apart}
use Rattle.method_judges.proofs.hyp.HypJudge.judge_apart.Goals as goal

pub returns-in_err-by_id : goal.returns-in_err-by_id
returns-in_err-by_id c = let p = err_from_is_err_and c.from_residual.result c.from_residual.ensures.1 in rw (p.1, p.2) (c.in_err-by_id.ensures.refused Hyp c.args._numbers)

pub inner_tests-requires-clause-narrow : goal.inner_tests-requires-clause-narrow
inner_tests-requires-clause-narrow c =
    let nodes = c.args.items.now.nodes in
    subst (λ xs. IsNarrow (inner_ways (item_at xs))) (sym c.in_ok-by_id.ensures.nodes) (c.are_narrow.ensures (λ id _. not (marks (item_at nodes id))))

pub inner_tests-requires-clause-few : goal.inner_tests-requires-clause-few
inner_tests-requires-clause-few c = subst (λ xs. length xs ≤ 65536) (sym c.in_ok-by_id.ensures.nodes) c.requires

pub returns : goal.returns
returns c = judged_apart Hyp c.args._numbers c.args.items.now c.args.query c.inner_tests.result c.in_ok-by_id.ensures.distinct c.in_ok-by_id.ensures.ends c.inner_tests.ensures
