use Rattle.std.proofs.Common.{arith}
use Rattle.desk_areas.proofs.Pieces.{slots_few}
use Rattle.key_desk.proofs.desk.Desk.place.Goals as goal

pub place_in-requires-clause-number : goal.place_in-requires-clause-number
place_in-requires-clause-number c = omega (arith, c.requires, slots_few c.args.self.now.key.kind)
