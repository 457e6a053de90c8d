use Rattle.std.proofs.Common.{ℕ, List, Err, subst}
use Rattle.proof_octets.specs.Replies.{reply_of}
use Rattle.route_client.specs.Verdicts.{Checks}
use Rattle.route_client.proofs.VerdictLaws.{checks_judged, checks_refused}
use Rattle.route_client.proofs.checking.check_owned.Goals as goal

pub returns-in-Ok : goal.returns-in-Ok
returns-in-Ok g c =
    subst (λ (octets : List ℕ). Checks g.H.Hasher.hash c.args.public.now c.args.chain.now octets c.args.query c.args.least c.take.result) c.deref.ensures.value
    (checks_judged g.H.Hasher.hash c.args.public.now c.args.chain.now c.deref.result.now c.args.query c.args.least (reply_of c.in-Ok.answer) c.take.result c.in-Ok.ensures.is c.take.ensures
    (λ kind not. let e = c.in-Ok.ensures.not_answer kind not in absurd cc))

pub returns-in-Err : goal.returns-in-Err
returns-in-Err g c =
    subst (λ (octets : List ℕ). Checks g.H.Hasher.hash c.args.public.now c.args.chain.now octets c.args.query c.args.least (Err c.in-Err.error)) c.deref.ensures.value
    (checks_refused g.H.Hasher.hash c.args.public.now c.args.chain.now c.deref.result.now c.args.query c.args.least c.in-Err.error c.in-Err.ensures.is
    (λ kind not. let e = c.in-Err.ensures.not_answer kind not in cc))
