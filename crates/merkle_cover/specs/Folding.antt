-- The walk over a tree's positions from left to right.
use Rattle.std.specs.Prelude.{ℕ, ◌≡◌, ◌+◌, ◌*◌, ◌^◌, ◌<◌, ◌≤◌, List, length, drop, slice_index, slice_index_or, []}
use Rattle.merkle_cover.specs.Shape.{places_at}
use Rattle.merkle_cover.specs.Covers.{IsRising, need, folded}

-- the positions before an index are below x; those at or after it are not
pub record SplitsAt (places : List ℕ) (x i : ℕ) : Type 0 where
  pub within : i ≤ length places
  pub before : (q : ℕ) → q < i → slice_index places q < x
  pub after : (q : ℕ) → i ≤ q → q < length places → x ≤ slice_index places q

-- the state of the walk before position p of level k
pub record CanWalk (n f : ℕ) (places : List ℕ) (k p w item : ℕ) : Type 0 where
  pub fan : 2 ≤ f
  pub fan_max : f ≤ 32
  pub leaves : n < 2 ^ 32
  pub rising : IsRising n places
  pub span : w ≡ f ^ k
  pub small : w < 2 ^ 37
  pub place : p * w < n
  pub items : SplitsAt places (p * w) item

-- the same, with the given texts and cover
pub record CanFold (n f : ℕ) (places : List ℕ) (given : List (List ℕ))
    (k p w item start : ℕ) : Type 0 where
  pub walk : CanWalk n f places k p w item
  pub texts : length given ≡ length places
  pub taken : start ≤ p * w

-- the digest recomputed at position p of level k, and the state of the walk after that
pub record IsFolded (hash : List ℕ → List ℕ) (n f : ℕ) (places : List ℕ)
    (texts cover : List (List ℕ)) (k p w start : ℕ) (d : List ℕ) (item end : ℕ) : Type 0 where
  pub digest : d ≡ folded hash n f places texts k p (drop start cover)
  pub taken : end ≡ start + need n f places k p
  pub items : SplitsAt places ((p + 1) * w) item
  pub few : end ≤ (p + 1) * w

-- the digest of position p of level k in a list of levels
abbrev pub digest_in : List (List (List ℕ)) → ℕ → ℕ → List ℕ
digest_in levels k p = slice_index_or (slice_index_or levels k []) p []

-- the levels up to k exist, each with all its positions
pub record HasLevels (n f : ℕ) (levels : List (List (List ℕ))) (k : ℕ) : Type 0 where
  pub levels_in : (j : ℕ) → j ≤ k → j < length levels
  pub sizes : (j : ℕ) → j ≤ k → length (slice_index_or levels j []) ≡ places_at n f j
