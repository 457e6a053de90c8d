-- Directed walks along the arcs of a graph, and the distance between two of its nodes. Source: the 9th DIMACS
-- Implementation Challenge, Shortest Paths, 2006: paths in a directed graph and their lengths.
use Rattle.std.specs.Prelude.{◌≡◌, ℕ, ◌+◌, ◌≤◌, ◌↔◌, List, [], ◌∷◌, Contains, Option}
use Rattle.road_map.specs.declared.parts.Parts.{Parts}
use Rattle.road_map.specs.Least.{IsLeast}
use Rattle.road_map.specs.Walks.{Knows, IsDistance, distance}
use Rattle.dimacs_reader.specs.declared.arc.Arc.{Arc}
use Rattle.dimacs_reader.specs.declared.graph.Graph.{Graph}

-- each arc belongs to the graph and starts where the previous arc ends
abbrev pub Follows : List Arc → ℕ → List Arc → Type 0
Follows arcs u [] = Unit {0}
Follows arcs u (arc ∷ walk) = Contains arcs arc × (arc.from ≡ u) × Follows arcs arc.to walk

-- the node at which arcs from u end
abbrev pub end_of : ℕ → List Arc → ℕ
end_of u [] = u
end_of u (arc ∷ walk) = end_of arc.to walk

-- the sum of the lengths of all arcs
abbrev pub total : List Arc → ℕ
total [] = 0
total (arc ∷ walk) = arc.length + total walk

-- a directed walk of this length from node s to t
pub record Leads (graph : Graph) (s t d : ℕ) : Type 0 where
  pub walk : List Arc
  pub known : (1 ≤ s) × (s ≤ graph.nodes)
  pub follows : Follows graph.arcs s walk
  pub ends : end_of s walk ≡ t
  pub sums : total walk ≡ d

-- the length of a shortest directed walk from s to t, or none if no such walk exists
abbrev pub IsDirectedDistance : Graph → ℕ → ℕ → Option ℕ → Type 0
IsDirectedDistance graph s t d = IsLeast (Leads graph s t) d

-- the parts have the graph's nodes and its distances
pub record Agrees (graph : Graph) (parts : Parts) : Type 0 where
  pub known : (id : ℕ) → Knows parts id ↔ ((1 ≤ id) × (id ≤ graph.nodes))
  pub walks : (s t : ℕ) → IsDistance parts s t (distance parts s t)
  pub arcs : (s t : ℕ) → IsDirectedDistance graph s t (distance parts s t)
