use Rattle.std.proofs.Common.{◌≡◌, Ok}
use Rattle.octet_text.specs.Format.{whole}
use Rattle.proof_octets.specs.declared.reply.Answer as answers
use Rattle.proof_octets.specs.Good.{IsGood}
use Rattle.proof_octets.specs.Replies.{reply, reply_of}
use Rattle.route_client.specs.Verdicts.{taken}
use Rattle.route_client.proofs.VerdictLaws.{refused, judged, spelled_of, of_same}
use Rattle.route_client.proofs.checking.check_answer.Goals as goal

pub returns-in-Err-clause-verdict : goal.returns-in-Err-clause-verdict
returns-in-Err-clause-verdict g c = refused g.H.Hasher.hash c.args.public.now c.args.chain.now c.args.reply.now c.args.query c.args.least c.in-Err.error c.in-Err.ensures.is

pub returns-in-Ok-clause-verdict : goal.returns-in-Ok-clause-verdict
returns-in-Ok-clause-verdict g c =
    judged g.H.Hasher.hash c.args.public.now c.args.chain.now c.args.reply.now c.args.query c.args.least (reply_of c.in-Ok.answer) (taken c.accept.result) c.in-Ok.ensures.is c.accept.ensures.verdict

pub returns-in-Ok-clause-spelled : goal.returns-in-Ok-clause-spelled
returns-in-Ok-clause-spelled g c =
    of_same (λ (a : answers.Answer). whole reply c.args.reply.now ≡ Ok (reply_of a)) c.in-Ok.answer c.accept.result
    (spelled_of g.H.Hasher.hash c.args.public.now c.args.chain.now c.args.reply.now c.args.least (reply_of c.in-Ok.answer) c.in-Ok.ensures.is) c.accept.ensures.same

pub returns-in-Ok-clause-good : goal.returns-in-Ok-clause-good
returns-in-Ok-clause-good g c = of_same IsGood c.in-Ok.answer c.accept.result c.in-Ok.ensures.good c.accept.ensures.same

pub returns-in-Ok-clause-not_answer : goal.returns-in-Ok-clause-not_answer
returns-in-Ok-clause-not_answer g c kind not = let e = c.in-Ok.ensures.not_answer kind not in absurd cc

pub returns-in-Err-clause-not_answer : goal.returns-in-Err-clause-not_answer
returns-in-Err-clause-not_answer g c kind not = let e = c.in-Err.ensures.not_answer kind not in cc
