use Rattle.desk_sight.proofs.FreshSteps.{spent_fresh}
use Rattle.desk_sight.proofs.laws.spending_keeps_fresh.Goals as goal

pub returns : goal.returns
returns c = spent_fresh
