use Rattle.route_audit.proofs.RouteLemmas.{are_replies}
use Rattle.route_audit.proofs.routes.RoutesReplies.laws.Goals as goal

pub returns : goal.returns
returns c = are_replies c.verdict_laws.ensures.one (λ hash key links octets q least x h. (c.verdict_laws.ensures.accepts hash key links octets q least x).0 h)
