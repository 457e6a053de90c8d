use Rattle.std.proofs.Common.{◌≡◌, ℕ, List, map, vec_len}
use Rattle.std.specs.List.{All}
use Rattle.road_leaf.specs.Held.{extra_at, said, IsWithin}
use Rattle.road_leaf.proofs.node_leaves.pad.Given as goal

abbrev pub invariant-loop : goal.invariant-loop
invariant-loop l = record {
  same : (codes : List ℕ) (i : ℕ) → extra_at (map (said codes) l.notes.items) i ≡ extra_at (map (said codes) l.fn.notes.items) i;
  within : (long : ℕ) → All (IsWithin long) l.fn.notes.items → All (IsWithin long) l.notes.items;
  count : vec_len l.notes ≡ l.counter;
}
