use Rattle.route_client.proofs.NearVerdictLaws.{one_verdict, accepts_of, verdict_of}
use Rattle.route_client.proofs.near_laws.near_verdict_laws.Goals as goal

pub returns-clause-one : goal.returns-clause-one
returns-clause-one c = one_verdict

pub returns-clause-accepts : goal.returns-clause-accepts
returns-clause-accepts c hash key links octets q least x = (verdict_of hash key links octets q least x, accepts_of hash key links octets q least x)
