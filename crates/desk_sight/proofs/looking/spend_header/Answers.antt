use Rattle.std.proofs.Common.{refl}
use Rattle.road_io.specs.Disk.{Stays}
use Rattle.road_io.proofs.MomentLaws.{nothing}
use Rattle.key_desk.proofs.Spending.{spends_nothing}
use Rattle.desk_sight.proofs.looking.spend_header.Goals as goal

pub returns-in_default-clause-spends : goal.returns-in_default-clause-spends
returns-in_default-clause-spends g c = spends_nothing g.D.Disk c.args.disk.now c.args.disk.now (nothing g.D.Disk c.args.disk.now Stays (λ d now. refl))
