use Rattle.std.proofs.Common.{subst}
use Rattle.route_client.specs.Verdicts.{UnlessMemory, IsVerdict}
use Rattle.route_audit.proofs.RouteLemmas.{accepts_as, spells_with, taken_of}
use Rattle.route_audit.proofs.routes.RoutesReplies.accepted.Goals as goal

pub returns-in-Ok-clause-accepted : goal.returns-in-Ok-clause-accepted
returns-in-Ok-clause-accepted g c =
    let hash = g.H.Hasher.hash in
    let a = c.in-Ok.checked.answer in
    let taken = taken_of a c.in-Ok.checked.length in
    let verdict = subst (UnlessMemory (IsVerdict hash c.args.public.now c.args.chain.now c.args.octets.now c.args.query 0)) taken.1 c.in-Ok.ensures.verdict in
    (taken.0, accepts_as hash c.args.public.now c.args.chain.now c.args.octets.now c.args.query taken.0 a ((c.verdict_laws.ensures.accepts hash c.args.public.now c.args.chain.now c.args.octets.now c.args.query 0 taken.0).1 verdict) (spells_with c.args.octets.now a.items.route a c.in-Ok.ensures.spelled))
