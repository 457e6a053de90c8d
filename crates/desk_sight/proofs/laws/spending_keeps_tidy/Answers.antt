use Rattle.desk_sight.proofs.TidySteps.{spent_tidy}
use Rattle.desk_sight.proofs.laws.spending_keeps_tidy.Goals as goal

pub returns : goal.returns
returns c what d i spends fresh tidy = spent_tidy what d i spends fresh tidy
