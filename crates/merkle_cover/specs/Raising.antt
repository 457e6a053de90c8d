-- The digest of a leaf on its way up a tree that takes its texts one at a time.
use Rattle.std.specs.Prelude.{ℕ, ◌+◌, ◌<◌, ◌≡◌, List, length}
use Rattle.merkle_cover.specs.Shape.{top}
use Rattle.merkle_cover.specs.Trees.{digest, root}
use Rattle.merkle_cover.specs.Spots.{spots_of}
use Rattle.merkle_cover.specs.Rising.{HoldsLevel, HoldsCover}
use Rattle.merkle_cover.specs.declared.spots.Spot.{Spot}

-- before the walk: the state after the first m texts
pub record CanRaise (hash : List ℕ → List ℕ) (texts : List (List ℕ)) (places : List ℕ) (n f m : ℕ)
    (waiting : List (List ℕ)) (spots : List Spot) (cover : List (List ℕ))
    (d : List ℕ) : Type 0 where
  pub count : length texts ≡ n
  pub leaf : d ≡ digest hash texts f 0 m
  pub spots_are : spots ≡ spots_of n f places
  pub levels : (k : ℕ) → k < top n f → HoldsLevel hash texts f m k waiting
  pub covers : HoldsCover hash texts f m spots cover

-- after the walk: the state after one more text
pub record IsRaised (hash : List ℕ → List ℕ) (texts : List (List ℕ)) (n f m : ℕ)
    (waiting : List (List ℕ)) (spots : List Spot) (cover : List (List ℕ))
    (d : List ℕ) : Type 0 where
  pub levels : (k : ℕ) → k < top n f → HoldsLevel hash texts f (m + 1) k waiting
  pub covers : HoldsCover hash texts f (m + 1) spots cover
  pub whole : m + 1 ≡ n → d ≡ root hash texts f
