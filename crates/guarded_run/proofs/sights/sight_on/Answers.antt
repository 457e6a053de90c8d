use Rattle.std.proofs.Common.{◌∙◌}
use Rattle.guarded_run.proofs.GuardSteps.{some_sight}
use Rattle.guarded_run.proofs.sights.sight_on.Goals as goal

pub returns-in-Ok-sight_of-clause-sight : goal.returns-in-Ok-sight_of-clause-sight
returns-in-Ok-sight_of-clause-sight g c =
    some_sight g.D.Disk c.image_of.new.disk c.deref.result.now c.in-Ok-sight_of.found c.in-Ok-sight_of.ensures.told (λ x told. c.deref.ensures.value ∙ c.in-Ok.ensures.image x told)
