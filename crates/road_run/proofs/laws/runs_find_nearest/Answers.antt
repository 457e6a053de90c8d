use Rattle.road_io.specs.Moments.{still_told}
use Rattle.road_run.proofs.laws.runs_find_nearest.Goals as goal

pub returns : goal.returns
returns g c old new key publication reply q chain files before now outcome on_disk =
    c.nearest_headline.ensures (still_told g.D.Disk old new) new key publication reply q chain files before now outcome on_disk.2
