use Rattle.proof_octets.proofs.NearFormat.{near_exact}
use Rattle.proof_octets.proofs.near_laws.near_format_laws.Goals as goal

pub returns : goal.returns
returns c = near_exact
