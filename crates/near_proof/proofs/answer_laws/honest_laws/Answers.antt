use Rattle.near_proof.proofs.Honest.{answers_accepted, unknown_told, one_of}
use Rattle.near_proof.proofs.answer_laws.honest_laws.Goals as goal

pub returns-clause-accepted : goal.returns-clause-accepted
returns-clause-accepted c = answers_accepted (one_of c.server_laws.ensures) (record {
  complete = c.method_laws.ensures.complete;
  gathered = c.method_laws.ensures.gathered;
  known = c.method_laws.ensures.known;
  complete_apart = c.method_laws.ensures.complete_apart;
  gathered_apart = c.method_laws.ensures.gathered_apart;
  known_apart = c.method_laws.ensures.known_apart;
})

pub returns-clause-unknown : goal.returns-clause-unknown
returns-clause-unknown c = unknown_told
