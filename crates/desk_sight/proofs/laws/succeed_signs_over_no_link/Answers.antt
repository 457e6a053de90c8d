use Rattle.desk_sight.proofs.RestedSteps.{no_link}
use Rattle.desk_sight.proofs.laws.succeed_signs_over_no_link.Goals as goal

pub returns : goal.returns
returns c public image sight fit area current key waits = no_link public image sight fit area current key waits
