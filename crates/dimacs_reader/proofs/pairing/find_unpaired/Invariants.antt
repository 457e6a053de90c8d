use Rattle.std.proofs.Common.{◌≡◌, length}
use Rattle.dimacs_reader.specs.Left.{left_of}
use Rattle.dimacs_reader.proofs.PairLaws.{PairedTo}
use Rattle.dimacs_reader.proofs.pairing.find_unpaired.Given as goal

abbrev pub invariant-loop-index : goal.invariant-loop-index
invariant-loop-index l = record {
  long : length l.left.items ≡ length l.sorted;
  paired : PairedTo l.arcs l.index (left_of l.sorted l.left.items);
}
