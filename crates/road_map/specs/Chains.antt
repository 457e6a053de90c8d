-- Chains of roads that end at the same position.
use Rattle.std.specs.Prelude.{◌≡◌, ℕ, ◌+◌, ◌<◌, ◌≤◌, ◌⊎◌, Some, List, slice_get, length}
use Rattle.road_map.specs.declared.parts.Road.{Road}
use Rattle.road_map.specs.declared.chains.Next.{Next}

-- a road ends at u
abbrev pub EndsAt : Road → ℕ → Type 0
EndsAt r u = (r.a ≡ u) ⊎ (r.b ≡ u)

-- the next road that ends at u, at or after an index, is at this index; or no such road exists
pub record LeadsOn (roads : List Road) (u from next : ℕ) : Type 0 where
  pub order : from ≤ next
  pub within : next ≤ length roads
  pub passed : (k : ℕ) (r : Road) → from ≤ k → k < next → slice_get roads k ≡ Some r → ¬ EndsAt r u
  pub ends : (r : Road) → slice_get roads next ≡ Some r → EndsAt r u

-- the ends of roads are positions below a count
abbrev pub EndBelow : ℕ → List Road → Type 0
EndBelow count roads = (k : ℕ) (r : Road) → slice_get roads k ≡ Some r → (r.a < count) ×
    (r.b < count)

-- from an index on: the first road of each position, and the next ones at the ends of each road
pub record AreChained (roads : List Road) (from : ℕ) (first : List ℕ) (next : List Next) : Type 0 where
  pub long : length next ≡ length roads
  pub heads : (u h : ℕ) → slice_get first u ≡ Some h → LeadsOn roads u from h
  pub links : (k : ℕ) (r : Road) (n : Next) → from ≤ k → slice_get roads k ≡ Some r →
      slice_get next k ≡ Some n → LeadsOn roads r.a (k + 1) n.a × LeadsOn roads r.b (k + 1) n.b
