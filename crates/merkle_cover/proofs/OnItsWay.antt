-- Invariants of a leaf's digest on its way up a tree that takes its texts one at a time.
use Rattle.std.specs.Prelude.{ℕ, ◌+◌, ◌<◌, ◌≤◌, ◌≡◌, List, Some, length, map, take, slice_get}
use Rattle.merkle_cover.specs.Shape.{top}
use Rattle.merkle_cover.specs.Trees.{digest}
use Rattle.merkle_cover.specs.Rising.{end_of, HoldsLevel}
use Rattle.merkle_cover.specs.declared.spots.Spot.{Spot}

-- The state on the way: at a position that the leaf completes, the levels below count one more text. The cover
-- counts it up to another level.
pub record IsOnItsWay (hash : List ℕ → List ℕ) (texts : List (List ℕ)) (n f m : ℕ)
    (waiting : List (List ℕ)) (spots : List Spot) (cover : List (List ℕ)) (level from place : ℕ)
    (d : List ℕ) : Type 0 where
  pub digest_is : d ≡ digest hash texts f level place
  pub below : (k : ℕ) → k < level → HoldsLevel hash texts f (m + 1) k waiting
  pub above : (k : ℕ) → level ≤ k → k < top n f → HoldsLevel hash texts f m k waiting
  pub made : cover ≡ map (λ (s : Spot). digest hash texts f s.level s.place)
      (take (length cover) spots)
  pub next : (s : Spot) → slice_get spots (length cover) ≡ Some s
      → (m < end_of n f s.level s.place) × (end_of n f s.level s.place ≡ m + 1 → from ≤ s.level)
