use Rattle.std.proofs.Common.{◌≡◌, take}
use Rattle.dimacs_reader.specs.Dimacs.{roads_of}
use Rattle.dimacs_reader.proofs.pairing.roads.Given as goal

abbrev pub invariant-loop-arc : goal.invariant-loop-arc
invariant-loop-arc l = l.roads.items ≡ roads_of (take l.arc-index l.arcs)
