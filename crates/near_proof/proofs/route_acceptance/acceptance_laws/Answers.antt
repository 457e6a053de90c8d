use Rattle.near_proof.proofs.Accepted as laws
use Rattle.near_proof.proofs.route_acceptance.acceptance_laws.Goals as goal

pub returns-clause-lower : goal.returns-clause-lower
returns-clause-lower c = laws.lower

pub returns-clause-keys : goal.returns-clause-keys
returns-clause-keys c = laws.keys

pub returns-clause-one_query : goal.returns-clause-one_query
returns-clause-one_query c = laws.one_query

pub returns-clause-agree : goal.returns-clause-agree
returns-clause-agree c = laws.agree

pub returns-clause-no_links : goal.returns-clause-no_links
returns-clause-no_links c = laws.no_links c.length_laws.ensures.header
