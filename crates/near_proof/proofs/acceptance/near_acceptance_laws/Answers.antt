use Rattle.near_proof.proofs.NearAccepted as laws
use Rattle.near_proof.proofs.acceptance.near_acceptance_laws.Goals as goal

pub returns-clause-lower : goal.returns-clause-lower
returns-clause-lower c = laws.lower

pub returns-clause-keys : goal.returns-clause-keys
returns-clause-keys c = laws.keys

pub returns-clause-one_form : goal.returns-clause-one_form
returns-clause-one_form c = laws.one_form

pub returns-clause-agree : goal.returns-clause-agree
returns-clause-agree c = laws.agree
