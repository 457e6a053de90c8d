use Rattle.road_run.proofs.BehindLaws.{runs_over_none}
use Rattle.road_run.proofs.laws.runs_sign_over_none.Goals as goal

pub returns : goal.returns
returns g c old new run public =
    runs_over_none g.M.Mirror.octets g.M.Mirror.named g.M.Mirror.handed g.M.Mirror.puts g.M.Mirror.room g.D.Disk old new run public
