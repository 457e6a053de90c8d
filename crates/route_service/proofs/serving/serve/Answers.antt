use Rattle.route_service.proofs.Splits.{serves_input, told_input}
use Rattle.route_service.proofs.serving.serve.Goals as goal

pub returns-clause-input : goal.returns-clause-input
returns-clause-input g c = serves_input _ _ _ _ _ _ _ _ _ _ _ c.ranges.most.fits c.turns.ensures.serves

pub returns-clause-answers : goal.returns-clause-answers
returns-clause-answers g c =
    let t = c.turns.ensures.gave in
    record { octets = t.octets; gave = t.gave; is = told_input _ _ _ _ _ _ _ _ _ _ _ c.ranges.most.fits t.is }
