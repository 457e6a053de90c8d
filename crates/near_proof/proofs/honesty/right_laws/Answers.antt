use Rattle.near_proof.proofs.Honest.{one_of}
use Rattle.near_proof.proofs.RightLemmas.{replies_right, reaches_right}
use Rattle.near_proof.proofs.honesty.right_laws.Goals as goal

pub returns-clause-routes : goal.returns-clause-routes
returns-clause-routes c = replies_right (one_of c.server_laws.ensures) (record {
  complete = c.method_laws.ensures.complete;
  gathered = c.method_laws.ensures.gathered;
  known = c.method_laws.ensures.known;
  complete_apart = c.method_laws.ensures.complete_apart;
  gathered_apart = c.method_laws.ensures.gathered_apart;
  known_apart = c.method_laws.ensures.known_apart;
}) c.honest_laws.ensures.accepted

pub returns-clause-radii : goal.returns-clause-radii
returns-clause-radii c = reaches_right (one_of c.server_laws.ensures) c.near_laws.ensures
