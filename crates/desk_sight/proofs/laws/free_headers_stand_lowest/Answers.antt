use Rattle.desk_sight.proofs.RestedSteps.{free_header}
use Rattle.desk_sight.proofs.laws.free_headers_stand_lowest.Goals as goal

pub returns : goal.returns
returns c image slot signed tidy current whole early shut has = free_header image slot signed tidy current whole early shut has
