-- Arcs that two other arcs make redundant.
use Rattle.std.specs.Prelude.{◌≡◌, ℕ, ◌+◌, ◌<◌, ◌≤◌, ◌⊎◌, Option, Some, List, Contains, slice_get}
use Rattle.road_map.specs.declared.arc.Arc.{Arc}
use Rattle.road_search.specs.Passing.{IsLeastPassing}
use Rattle.road_search.specs.Nets.{net_ways}
use Rattle.pair_dist.specs.Chains.{too_long}

-- two arcs, each longer than 0, one of the row and one from its end, lead to j and together have length v
pub record Steps (rows : List (List Arc)) (row : List Arc) (j v : ℕ) : Type 0 where
  pub first : Arc
  pub out : List Arc
  pub second : Arc
  pub among : Contains row first
  pub entry : slice_get rows first.to ≡ Some out
  pub next : Contains out second
  pub leads : second.to ≡ j
  pub moves : 0 < first.length
  pub goes_on : 0 < second.length
  pub sums : v ≡ first.length + second.length

-- each length by number is that of two such arcs, or is longer than any
abbrev pub AreSteps : List (List Arc) → List Arc → List ℕ → Type 0
AreSteps rows row lengths = (j v : ℕ) → slice_get lengths j ≡ Some v → v < too_long →
    Steps rows row j v

-- a length by number is at most as long as the arc
abbrev pub IsNeedless : List ℕ → Arc → Type 0
IsNeedless lengths a = (v : ℕ) × (slice_get lengths a.to ≡ Some v) × (v < too_long) × (v ≤ a.length)

-- some arcs of a row; each missing arc is at least as long as two such arcs to its end
pub record IsThinned (rows : List (List Arc)) (row thin : List Arc) : Type 0 where
  pub among : (a : Arc) → Contains thin a → Contains row a
  pub rest : (a : Arc) → Contains row a → Contains thin a ⊎
      ((v : ℕ) × Steps rows row a.to v × (v ≤ a.length))

-- least lengths over the second rows equal least lengths over the first
abbrev pub Agrees : List (List Arc) → List (List Arc) → Type 0
Agrees rows thin = (i j : ℕ) (o : Option ℕ) → IsLeastPassing (net_ways thin) i too_long j o →
    IsLeastPassing (net_ways rows) i too_long j o
