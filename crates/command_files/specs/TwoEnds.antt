-- The two ends of a query, in a map.
use Rattle.std.specs.Prelude.{◌≡◌, ◌≢◌, ℕ}
use Rattle.road_map.specs.Walks.{Knows, Joins}
use Rattle.road_map.specs.declared.parts.Parts.{Parts}

-- the first of the two ends that is not a node
pub record IsFirstUnknown (parts : Parts) (from to id : ℕ) : Type 0 where
  pub unknown : ¬ Knows parts id
  pub first : id ≢ from → (id ≡ to) × Knows parts from

-- two nodes that no walk joins
pub record AreApart (parts : Parts) (from to : ℕ) : Type 0 where
  pub start : Knows parts from
  pub end : Knows parts to
  pub apart : (length : ℕ) → ¬ Joins parts from to length

-- two nodes that some walk joins
pub record AreJoined (parts : Parts) (from to : ℕ) : Type 0 where
  pub end : Knows parts to
  pub length : ℕ
  pub walk : Joins parts from to length
