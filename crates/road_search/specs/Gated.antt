-- Walks from position to position that a gate lets pass, and the same walks by id.
use Rattle.std.specs.Prelude.{◌≡◌, ℕ, Bool, List, slice_get}
use Rattle.road_map.specs.declared.arc.Arc.{Arc}
use Rattle.road_map.specs.declared.parts.Node.{Node}
use Rattle.road_map.specs.declared.parts.Parts.{Parts}
use Rattle.road_map.specs.Nets.{IsPlace}
use Rattle.road_search.specs.OverMap.{map_ways}
use Rattle.road_search.specs.Passing.{Ways}

-- walks from position to position; a walk may leave a position if the gate lets its length pass there
abbrev pub gated_net : List (List Arc) → (ℕ → ℕ → Bool) → Ways
gated_net rows gate = record { arcs = λ p. slice_get rows p; lets = gate }

-- rules for walks by id that have the map's arcs, and let pass at the id of a node what the gate lets pass at the
-- node's position
pub record IsGated (parts : Parts) (order : List Node) (gate : ℕ → ℕ → Bool) (w : Ways) : Type 0 where
  pub arcs : (id : ℕ) → w.arcs id ≡ (map_ways parts).arcs id
  pub lets : (id p length : ℕ) → IsPlace order id p → w.lets id length ≡ gate p length
