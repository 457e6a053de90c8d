use Rattle.desk_sight.proofs.TidySteps.{raised_tidy}
use Rattle.desk_sight.proofs.laws.raising_keeps_tidy.Goals as goal

pub returns : goal.returns
returns c key d i raises tidy = raised_tidy key d i raises tidy
