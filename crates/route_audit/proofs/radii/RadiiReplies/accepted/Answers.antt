use Rattle.proof_octets.proofs.NearFormat.{near_good}
use Rattle.route_audit.proofs.RadiusLemmas.{accepts_as}
use Rattle.route_audit.proofs.radii.RadiiReplies.accepted.Goals as goal

pub returns-in-Ok-clause-good : goal.returns-in-Ok-clause-good
returns-in-Ok-clause-good g c = near_good c.in-Ok.reply c.in-Ok.ensures.found.0

pub returns-in-Ok-clause-accepted : goal.returns-in-Ok-clause-accepted
returns-in-Ok-clause-accepted g c =
    let hash = g.H.Hasher.hash in
    let ok = c.in_ok-test_reply.ensures.accepted in
    (ok.0, accepts_as hash c.args.public.now c.args.chain.now c.args.octets.now c.args.query ok.0 c.in-Ok.reply ((c.near_verdict_laws.ensures.accepts hash c.args.public.now c.args.chain.now c.args.octets.now c.args.query 0 ok.0).1 ok.1) c.in-Ok.ensures.exact)
