use Rattle.desk_sight.proofs.TidySteps.{fresh_tidy}
use Rattle.desk_sight.proofs.laws.fresh_images_are_tidy.Goals as goal

pub returns : goal.returns
returns c key image fresh = fresh_tidy key image fresh
