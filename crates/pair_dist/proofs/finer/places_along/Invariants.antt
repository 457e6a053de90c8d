use Rattle.std.proofs.Common.{◌≡◌, ℕ, ◌<◌, Some, length, slice_get}
use Rattle.pair_dist.specs.Chains.{Begins}
use Rattle.pair_dist.proofs.finer.places_along.Given as goal

abbrev pub invariant-loop-position : goal.invariant-loop-position
invariant-loop-position l = record {
  front : Begins l.places l.finer.items;
  within : (i p : ℕ) → slice_get l.finer.items i ≡ Some p → p < length l.cells;
}
