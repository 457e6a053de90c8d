use Rattle.desk_sight.proofs.RestedSteps.{no_header}
use Rattle.desk_sight.proofs.laws.publish_signs_over_no_header.Goals as goal

pub returns : goal.returns
returns c public image sight fit slot free signed has = no_header public image sight fit slot free signed has
