use Rattle.proof_octets.proofs.NearFormat.{near_good, near_fits}
use Rattle.proof_octets.proofs.near_laws.near_range_laws.Goals as goal

pub returns : goal.returns
returns c a = (near_good a, near_fits a)
