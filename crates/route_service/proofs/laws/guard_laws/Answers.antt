use Rattle.route_service.proofs.GuardLemmas.{guard_after, holds_signed}
use Rattle.route_service.proofs.laws.guard_laws.Goals as goal

pub returns-clause-same : goal.returns-clause-same
returns-clause-same c = λ hash sha state bodies. guard_after hash sha state bodies

pub returns-clause-signed : goal.returns-clause-signed
returns-clause-signed c = λ hash sha state bodies h. holds_signed hash sha state bodies h
