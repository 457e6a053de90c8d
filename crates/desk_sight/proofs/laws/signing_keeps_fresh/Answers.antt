use Rattle.desk_sight.proofs.FreshSteps.{text_fresh}
use Rattle.desk_sight.proofs.laws.signing_keeps_fresh.Goals as goal

pub returns : goal.returns
returns c = text_fresh
