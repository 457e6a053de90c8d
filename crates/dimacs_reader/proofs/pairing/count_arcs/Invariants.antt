use Rattle.std.proofs.Common.{◌≡◌, take, count_by, length}
use Rattle.dimacs_reader.specs.declared.arc.Arc.{Arc}
use Rattle.dimacs_reader.specs.Dimacs.{is_arc}
use Rattle.dimacs_reader.specs.Left.{left_of}
use Rattle.dimacs_reader.proofs.pairing.count_arcs.Given as goal

-- there is a number for each index, and the arcs so far are counted
abbrev pub invariant-loop-arc : goal.invariant-loop-arc
invariant-loop-arc l = record {
  long : length l.left.items ≡ length l.sorted;
  counts : (arc : Arc) → left_of l.sorted l.left.items arc ≡ count_by (is_arc arc) (take l.arc-index l.sorted);
}
