use Rattle.std.proofs.Common.{◌≡◌, ap, ◌∙◌}
use Rattle.std.proofs.lemmas.Result.{err_from_is_err_and}
use Rattle.book_model.specs.Books.{Full}
use Rattle.proof_judge.specs.Judgement.{OwnTests, full_judged}
use Rattle.proof_judge.proofs.Tested.{judged_by, unless}
use Rattle.method_judges.proofs.full.FullJudge.judge.Goals as goal

pub returns-in_err-_by_id : goal.returns-in_err-_by_id
returns-in_err-_by_id c = let p = err_from_is_err_and c.from_residual.result c.from_residual.ensures.1 in rw (p.1, p.2) (c.in_err-_by_id.ensures.refused Full c.args._numbers)

pub returns : goal.returns
returns c =
    let own : c.tests.result ≡ full_judged c.args.items.now.pairs c.args.query c.in_ok-_by_id.length = c.tests.ensures ∙ ap (λ xs. full_judged xs c.args.query c.in_ok-_by_id.length) c.as_slice.ensures in
    judged_by Full c.args._numbers c.args.items.now c.args.query c.in_ok-_by_id.length c.tests.result c.in_ok-_by_id.ensures.distinct c.in_ok-_by_id.ensures.length (unless (OwnTests Full c.args._numbers c.args.items.now c.args.query c.in_ok-_by_id.length) c.tests.result own)
