-- Walks that stop at chosen positions, and the chain of arcs between these positions.
use Rattle.std.specs.Prelude.{◌≡◌, ◌≢◌, ℕ, ◌<◌, ◌≤◌, ◌==◌, ◌||◌, not, Bool, true, false, Option, Some, List, Contains, length, slice_get}
use Rattle.std.specs.Option.{unwrap_or}
use Rattle.road_map.specs.declared.arc.Arc.{Arc}
use Rattle.road_search.specs.Passing.{Ways, Reaches, IsLeastPassing}
use Rattle.road_search.specs.Nets.{net_ways}

-- a length that exceeds that of every walk
abbrev pub too_long : ℕ
too_long = 18446744073709551615

-- walks from position to position that continue from no wall except the start
abbrev pub walled_ways : List (List Arc) → List Bool → ℕ → Ways
walled_ways rows walls start = record {
  arcs = λ p. slice_get rows p;
  lets = λ p _. (p == start) || not (unwrap_or (slice_get walls p) false);
}

-- each wall is at one of the positions
abbrev pub AreWalls : List ℕ → List Bool → Type 0
AreWalls places walls = (p : ℕ) → unwrap_or (slice_get walls p) false ≡ true →
    (i : ℕ) × (slice_get places i ≡ Some p)

-- arcs from the position p, which is the i-th, to other positions by their numbers; each is as long as the shortest
-- walk that stops at walls, and there is one for each position to which such a walk leads
pub record IsLink (rows : List (List Arc)) (walls : List Bool) (places : List ℕ) (i p : ℕ)
    (row : List Arc) : Type 0 where
  pub walks : (a : Arc) → Contains row a → (q : ℕ) × (slice_get places a.to ≡ Some q) ×
      Reaches (walled_ways rows walls p) p too_long q a.length
  pub all : (j q d : ℕ) → j ≢ i → slice_get places j ≡ Some q →
      Reaches (walled_ways rows walls p) p too_long q d →
      (a : Arc) × Contains row a × (a.to ≡ j) × (a.length ≤ d)

-- for each position, given by its number, the arcs out of it
pub record IsChain (rows : List (List Arc)) (walls : List Bool) (places : List ℕ)
    (chain : List (List Arc)) : Type 0 where
  pub long : length chain ≡ length places
  pub each : (i p : ℕ) (row : List Arc) → slice_get places i ≡ Some p →
      slice_get chain i ≡ Some row → IsLink rows walls places i p row

-- least lengths over the chain, from number to number, equal the least lengths from position to position
abbrev pub Keeps : List (List Arc) → List ℕ → List (List Arc) → Type 0
Keeps rows places chain = (i j p q : ℕ) (o : Option ℕ) → slice_get places i ≡ Some p →
    slice_get places j ≡ Some q → IsLeastPassing (net_ways chain) i too_long j o →
    IsLeastPassing (net_ways rows) p too_long q o

-- the first positions come first among the others
abbrev pub Begins : List ℕ → List ℕ → Type 0
Begins places others = (i p : ℕ) → slice_get places i ≡ Some p → slice_get others i ≡ Some p

-- a search from the station of one id finds its distance at the station of another
pub record Measured (dist : ℕ → ℕ → Option ℕ) (w : Ways) (chosen stations : List ℕ) : Type 0 where
  pub long : length stations ≡ length chosen
  pub each : (i j a b p q : ℕ) (o : Option ℕ) → slice_get chosen i ≡ Some a →
      slice_get chosen j ≡ Some b → slice_get stations i ≡ Some p → slice_get stations j ≡ Some q →
      IsLeastPassing w p too_long q o → o ≡ dist a b

-- lengths that equal the distances at the stations of some ids
abbrev pub Finds : (ℕ → Option ℕ) → (ℕ → Option ℕ) → List ℕ → List ℕ → Type 0
Finds dist found chosen stations = (i b p : ℕ) → slice_get chosen i ≡ Some b →
    slice_get stations i ≡ Some p → found p ≡ dist b

-- the arcs out of the first positions
abbrev pub IsChainBelow : List (List Arc) → List Bool → List ℕ → ℕ → List (List Arc) → Type 0
IsChainBelow rows walls places n chain = (length chain ≡ n) × ((i p : ℕ) (row : List Arc) →
    slice_get places i ≡ Some p → slice_get chain i ≡ Some row → IsLink rows walls places i p row)

-- links from the position p, which is the i-th, to the positions with numbers below n
pub record IsLinkBelow (rows : List (List Arc)) (walls : List Bool) (places : List ℕ) (i p n : ℕ)
    (row : List Arc) : Type 0 where
  pub walks : (a : Arc) → Contains row a → (q : ℕ) × (slice_get places a.to ≡ Some q) ×
      Reaches (walled_ways rows walls p) p too_long q a.length
  pub all : (j q d : ℕ) → j < n → j ≢ i → slice_get places j ≡ Some q →
      Reaches (walled_ways rows walls p) p too_long q d →
      (a : Arc) × Contains row a × (a.to ≡ j) × (a.length ≤ d)
