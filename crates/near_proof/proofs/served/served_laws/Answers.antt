use Rattle.near_proof.proofs.ServedLemmas.{answers_accepted, unknown_told}
use Rattle.near_proof.proofs.served.served_laws.Goals as goal

pub returns-clause-accepted : goal.returns-clause-accepted
returns-clause-accepted c = answers_accepted c.honest_laws.ensures.accepted

pub returns-clause-unknown : goal.returns-clause-unknown
returns-clause-unknown c = unknown_told c.honest_laws.ensures.unknown
