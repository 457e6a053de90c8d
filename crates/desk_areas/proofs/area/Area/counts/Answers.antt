use Rattle.std.proofs.Common.{length, arith, ap}
use Rattle.desk_areas.proofs.Pieces.{slots_few}
use Rattle.desk_areas.proofs.area.Area.counts.Goals as goal

pub returns-clause-few : goal.returns-clause-few
returns-clause-few c = omega (arith, slots_few c.self.inside.key.kind, c.self.invariant, ap length c.deref.ensures.value)
