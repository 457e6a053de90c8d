use Rattle.route_audit.proofs.RadiusLemmas.{are_replies}
use Rattle.route_audit.proofs.radii.RadiiReplies.laws.Goals as goal

pub returns : goal.returns
returns c = are_replies c.near_verdict_laws.ensures.one (λ hash key links octets q least x h. (c.near_verdict_laws.ensures.accepts hash key links octets q least x).0 h)
