use Rattle.proof_octets.proofs.NearFormat.{near_good}
use Rattle.route_client.proofs.passing.read_reply.Goals as goal

pub returns-in-Ok-clause-good : goal.returns-in-Ok-clause-good
returns-in-Ok-clause-good c = near_good c.in-Ok.reply c.in-Ok.ensures.found.0
