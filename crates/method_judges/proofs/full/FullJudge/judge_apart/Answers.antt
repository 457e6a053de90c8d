use Rattle.std.proofs.Common.{◌≡◌, ap, ◌∙◌}
use Rattle.std.proofs.lemmas.Result.{err_from_is_err_and}
use Rattle.book_model.specs.Books.{Full}
use Rattle.proof_judge.specs.Apart.{ApartTests, joined_fault, by_fault}
use Rattle.proof_judge.proofs.Tested.{judged_apart, unless}
use Rattle.method_judges.proofs.full.FullJudge.judge_apart.Goals as goal

pub returns-in_err-_by_id : goal.returns-in_err-_by_id
returns-in_err-_by_id c = let p = err_from_is_err_and c.from_residual.result c.from_residual.ensures.1 in rw (p.1, p.2) (c.in_err-_by_id.ensures.refused Full c.args._numbers)

pub returns : goal.returns
returns c =
    let own : c.pair_tests.result ≡ by_fault (joined_fault c.args.items.now.pairs c.args.query.from c.args.query.to 0) = c.pair_tests.ensures ∙ ap (λ xs. by_fault (joined_fault xs c.args.query.from c.args.query.to 0)) c.as_slice.ensures in
    judged_apart Full c.args._numbers c.args.items.now c.args.query c.pair_tests.result c.in_ok-_by_id.ensures.distinct c.in_ok-_by_id.ensures.ends (unless (ApartTests Full c.args._numbers c.args.items.now c.args.query) c.pair_tests.result own)
