use Rattle.std.proofs.Common.{◌≡◌, ℕ, Some, length, slice_get}
use Rattle.pair_dist.proofs.table.numbers.Given as goal

abbrev pub invariant-loop-number : goal.invariant-loop-number
invariant-loop-number l = record {
  long : length l.found.items ≡ l.number;
  each : (i n : ℕ) → slice_get l.found.items i ≡ Some n → n ≡ i;
}
