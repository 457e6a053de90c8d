use Rattle.desk_sight.proofs.LifeSteps.{stays_in_order}
use Rattle.desk_sight.proofs.laws.desks_stay_in_order.Goals as goal

pub returns : goal.returns
returns g c disk disks fresh tidy life = stays_in_order g.D.Disk disk disks life fresh tidy
