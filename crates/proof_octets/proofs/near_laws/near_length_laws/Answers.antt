use Rattle.proof_octets.proofs.NearFormat.{leaves_within}
use Rattle.proof_octets.proofs.near_laws.near_length_laws.Goals as goal

pub returns : goal.returns
returns c = leaves_within
