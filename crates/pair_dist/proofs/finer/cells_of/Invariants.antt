use Rattle.std.proofs.Common.{◌≡◌, length}
use Rattle.pair_dist.proofs.finer.cells_of.Given as goal

abbrev pub invariant-loop-position : goal.invariant-loop-position
invariant-loop-position l = length l.cells.items ≡ l.position
