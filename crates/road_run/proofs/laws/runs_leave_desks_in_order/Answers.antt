use Rattle.road_run.proofs.OrderLaws.{stays_in_order}
use Rattle.road_run.proofs.laws.runs_leave_desks_in_order.Goals as goal

pub returns : goal.returns
returns g c disk before states tidy fresh life counts =
    stays_in_order g.M.Mirror.octets g.M.Mirror.named g.M.Mirror.handed g.M.Mirror.puts g.M.Mirror.room g.D.Disk disk before states life counts fresh tidy
