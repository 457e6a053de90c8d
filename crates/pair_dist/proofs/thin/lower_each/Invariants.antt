use Rattle.std.proofs.Common.{◌≡◌, ◌<◌, ◌+◌, ◌⊎◌, ℕ, Some, slice_get}
use Rattle.std.specs.List.{Contains}
use Rattle.road_map.specs.declared.arc.Arc.{Arc}
use Rattle.pair_dist.proofs.thin.lower_each.Given as goal

abbrev pub invariant-loop-second : goal.invariant-loop-second
invariant-loop-second l = (j v : ℕ) → slice_get l.lengths.items j ≡ Some v → (slice_get l.fn.lengths.items j ≡ Some v) ⊎ ((a : Arc) × Contains l.out a × (a.to ≡ j) × (0 < l.first.length) × (0 < a.length) × (v ≡ l.first.length + a.length))
