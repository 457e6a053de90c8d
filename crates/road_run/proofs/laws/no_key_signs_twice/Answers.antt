use Rattle.std.proofs.Common.{[]}
use Rattle.std.proofs.lemmas.List.Elements.{All-nil}
use Rattle.owner_commands.specs.Releases.{IsReleasedFrom}
use Rattle.road_run.proofs.LifeLaws.{none_twice}
use Rattle.road_run.proofs.laws.no_key_signs_twice.Goals as goal

pub returns : goal.returns
returns g c disk states told life =
    none_twice g.M.Mirror.octets g.M.Mirror.named g.M.Mirror.handed g.M.Mirror.puts g.M.Mirror.room g.D.Disk g.met.D.Disk.reads_image disk [] states life told (λ i now. All-nil (IsReleasedFrom i)) tt
