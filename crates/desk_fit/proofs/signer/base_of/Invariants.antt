use Rattle.std.proofs.Common.{◌≡◌, ◌*◌, ◌≤◌}
use Rattle.desk_areas.specs.Layout.{base_of}
use Rattle.desk_fit.proofs.signer.base_of.Given as goal

abbrev pub invariant-loop-before : goal.invariant-loop-before
invariant-loop-before l = record {
  base : l.base ≡ base_of l.image l._before;
  low : l.base ≤ 131136 * l._before;
}
