-- The nodes within a radius, each with its distance. Source: Papadias, Zhang, Mamoulis and Tao, VLDB 2003:
-- range search in a road network, by network distance.
use Rattle.std.specs.Prelude.{◌≡◌, ℕ, ◌≤◌, ◌↔◌, Some, List, Contains, map}
use Rattle.std.specs.List.Sorted.{IsStrictlySortedBy}
use Rattle.std.specs.Ordering.{nat_cmp}
use Rattle.road_map.specs.declared.parts.Parts.{Parts}
use Rattle.road_map.specs.Walks.{distance}
use Rattle.proof_octets.specs.declared.marks.Mark.{Mark}
use Rattle.proof_octets.specs.declared.query.NearQuery.{NearQuery}

-- the ids of marks, in order
abbrev pub marked_ids : List Mark → List ℕ
marked_ids marks = map (λ m. m.id) marks

-- exactly the marks that satisfy P, each once, by ascending id
pub record ListsMarks (P : Mark → Type 0) (marks : List Mark) : Type 0 where
  pub rising : IsStrictlySortedBy nat_cmp (marked_ids marks)
  pub same : (m : Mark) → Contains marks m ↔ P m

-- the distance of the id from the query's node is at most the radius
abbrev pub IsWithin : Parts → NearQuery → ℕ → Type 0
IsWithin parts q id = (d : ℕ) × (distance parts q.from id ≡ Some d) × (d ≤ q.radius)

-- a node within the radius, with its distance
pub record IsNear (parts : Parts) (q : NearQuery) (m : Mark) : Type 0 where
  pub distance_is : distance parts q.from m.id ≡ Some m.distance
  pub within : m.distance ≤ q.radius

-- exactly the nodes within the radius, each with its distance, by ascending id
abbrev pub AreWithin : Parts → NearQuery → List Mark → Type 0
AreWithin parts q marks = ListsMarks (IsNear parts q) marks
