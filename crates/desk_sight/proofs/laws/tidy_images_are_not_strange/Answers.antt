use Rattle.desk_sight.proofs.TidySteps.{tidy_open}
use Rattle.desk_sight.proofs.laws.tidy_images_are_not_strange.Goals as goal

pub returns : goal.returns
returns c image tidy gate strange is = tidy_open image strange tidy gate is
