use Rattle.std.proofs.Common.{◌≡◌, Err}
use Rattle.std.proofs.lemmas.Result.{err_from_is_err_and}
use Rattle.route_client.proofs.NotAnswers.{answer_read, refused_at_once}
use Rattle.route_client.proofs.VerdictLaws.{passed_so, refused_so}
use Rattle.route_client.proofs.FewItems.{few_nodes}
use Rattle.route_client.proofs.earlier_tests.pass.Goals as goal

pub returns-clause-is : goal.returns-clause-is
returns-clause-is g c =
    passed_so g.H.Hasher.hash c.args.public.now c.args.chain.now c.args.octets.now c.args.least c.in_ok-answer.answer _ c.in_ok-answer.ensures.is c.in_ok-test_answer.ensures

pub returns-clause-few : goal.returns-clause-few
returns-clause-few g c = few_nodes g.H.Hasher.hash c.args.public.now c.args.chain.now c.args.least c.in_ok-answer.answer c.in_ok-answer.ensures.good c.in_ok-test_answer.ensures

pub returns-in_err-test_length-clause-is : goal.returns-in_err-test_length-clause-is
returns-in_err-test_length-clause-is g c =
    let p = err_from_is_err_and c.from_residual.result c.from_residual.ensures.1 in
    rw (p.1, p.2) c.in_err-test_length.ensures.refused

pub returns-in_err-test_length-clause-not_answer : goal.returns-in_err-test_length-clause-not_answer
returns-in_err-test_length-clause-not_answer g c kind not = absurd (c.in_err-test_length.ensures.answered kind not)

pub returns-in_err-answer-clause-not_answer : goal.returns-in_err-answer-clause-not_answer
returns-in_err-answer-clause-not_answer g c kind not =
    let p = err_from_is_err_and c.from_residual-in_err-answer.result c.from_residual-in_err-answer.ensures.1 in
    let same = refused_at_once c.args.octets.now kind c.in_err-answer.field-0.0 c.in_err-answer.ensures.is (λ short. c.in_err-answer.ensures.memory (cc (short)) kind) not in
    rw (p.1, p.2) (cc (same))

pub returns-in_err-test_answer-clause-not_answer : goal.returns-in_err-test_answer-clause-not_answer
returns-in_err-test_answer-clause-not_answer g c kind = answer_read c.args.octets.now kind c.in_ok-answer.answer _ c.in_ok-answer.ensures.is

pub returns-clause-not_answer : goal.returns-clause-not_answer
returns-clause-not_answer g c kind = answer_read c.args.octets.now kind c.in_ok-answer.answer _ c.in_ok-answer.ensures.is

pub returns-in_err-test_answer-clause-is : goal.returns-in_err-test_answer-clause-is
returns-in_err-test_answer-clause-is g c =
    let p = err_from_is_err_and c.from_residual-in_err-test_answer.result c.from_residual-in_err-test_answer.ensures.1 in
    rw (p.1, p.2) (refused_so g.H.Hasher.hash c.args.public.now c.args.chain.now c.args.octets.now c.args.least c.in_ok-answer.answer _ c.in_ok-answer.ensures.is c.in_err-test_answer.ensures)
