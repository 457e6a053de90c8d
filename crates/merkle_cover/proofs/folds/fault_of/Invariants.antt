use Rattle.std.proofs.Common.{◌≡◌, ◌≤◌, drop}
use Rattle.merkle_cover.specs.Covers.{fault_from}
use Rattle.merkle_cover.proofs.folds.fault_of.Given as goal

abbrev pub invariant-loop-place : goal.invariant-loop-place
invariant-loop-place l = record {
  rest : fault_from l.leaves l.least l.index (drop l.place-index l.places) ≡ fault_from l.leaves 0 0 l.places;
  few : l.index ≤ l.least;
  least_in : l.least ≤ l.leaves;
}
