use Rattle.desk_sight.proofs.TidySteps.{fresh_linked}
use Rattle.desk_sight.proofs.laws.fresh_links_are_not_refused.Goals as goal

pub returns : goal.returns
returns c image fresh strange is = fresh_linked image strange fresh is
