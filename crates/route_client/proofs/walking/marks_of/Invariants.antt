use Rattle.std.proofs.Common.{take}
use Rattle.route_client.specs.Reached.{AreMarked}
use Rattle.route_client.proofs.walking.marks_of.Given as goal

abbrev pub invariant-loop-id : goal.invariant-loop-id
invariant-loop-id l = AreMarked l.labels (take l.id-index l.ids) l.marks.items
