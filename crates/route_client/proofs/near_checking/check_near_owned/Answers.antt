use Rattle.std.proofs.Common.{ℕ, List, Err, subst}
use Rattle.route_client.specs.NearVerdicts.{ChecksNear}
use Rattle.route_client.proofs.NearVerdictLaws.{checks_walked, checks_refused}
use Rattle.route_client.proofs.near_checking.check_near_owned.Goals as goal

pub returns-in-Ok : goal.returns-in-Ok
returns-in-Ok g c =
    subst (λ (octets : List ℕ). ChecksNear g.H.Hasher.hash c.args.public.now c.args.chain.now octets c.args.query c.args.least c.take.result) c.deref.ensures.value
    (checks_walked g.H.Hasher.hash c.args.public.now c.args.chain.now c.deref.result.now c.args.query c.args.least c.in-Ok.reply c.take.result c.in-Ok.ensures.is c.take.ensures)

pub returns-in-Err : goal.returns-in-Err
returns-in-Err g c =
    subst (λ (octets : List ℕ). ChecksNear g.H.Hasher.hash c.args.public.now c.args.chain.now octets c.args.query c.args.least (Err c.in-Err.error)) c.deref.ensures.value
    (checks_refused g.H.Hasher.hash c.args.public.now c.args.chain.now c.deref.result.now c.args.query c.args.least c.in-Err.error c.in-Err.ensures.is c.in-Err.ensures.named)
