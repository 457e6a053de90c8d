use Rattle.near_proof.proofs.Honest.{one_of}
use Rattle.near_proof.proofs.NearHonest.{replies_accepted}
use Rattle.near_proof.proofs.laws.near_laws.Goals as goal

pub returns : goal.returns
returns c = replies_accepted (one_of c.server_laws.ensures) c.map_laws.ensures.distances
