use Rattle.desk_sight.proofs.TidySteps.{text_tidy}
use Rattle.desk_sight.proofs.laws.signing_keeps_tidy.Goals as goal

pub returns : goal.returns
returns c slot text d i short free alone tidy = text_tidy slot text d i short free alone tidy
