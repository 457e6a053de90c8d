-- A map's arcs by position.
use Rattle.std.specs.Prelude.{◌≡◌, ℕ, Some, List, [], ◌∷◌, length, slice_get}
use Rattle.road_map.specs.declared.arc.Arc.{Arc}
use Rattle.road_map.specs.declared.parts.Node.{Node}
use Rattle.road_map.specs.declared.parts.Parts.{Parts}
use Rattle.road_map.specs.ArcsOut.{arcs_out}

-- the node with this id is at this position
abbrev pub IsPlace : List Node → ℕ → ℕ → Type 0
IsPlace order id p = (n : Node) × (slice_get order p ≡ Some n) × (n.id ≡ id)

-- the same arcs, with the position of each end's node in place of its id
abbrev pub Placed : List Node → List Arc → List Arc → Type 0
Placed order [] [] = Unit {0}
Placed order (a ∷ arcs) (b ∷ bs) = (b.length ≡ a.length) × IsPlace order a.to b.to ×
    Placed order arcs bs
Placed order _ _ = ⊥

-- the arcs of each node, at its position
pub record IsNet (parts : Parts) (order : List Node) (rows : List (List Arc)) : Type 0 where
  pub long : length rows ≡ length order
  pub each : (p : ℕ) (n : Node) (row : List Arc) → slice_get order p ≡ Some n →
      slice_get rows p ≡ Some row → Placed order (arcs_out parts.roads n.id) row
