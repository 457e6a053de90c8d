-- The arcs that roads make between the nodes of an order, or the reason why they make none.
use Rattle.std.specs.Prelude.{◌⊎◌, List, length}
use Rattle.road_map.specs.declared.arc.Arc.{Arc}
use Rattle.road_map.specs.declared.parts.Node.{Node}
use Rattle.road_map.specs.declared.parts.Road.{Road}
use Rattle.road_map.specs.declared.error.MapError.{MapError}
use Rattle.road_map.specs.Rows.{ArePlaced, JoinIdsBelow, FirstFaulty, ThinBelow, FirstCrowded, AreRows}
use Rattle.road_map.specs.Walks.{ids}

-- all roads join two of the nodes, and none of the nodes has too many arcs
pub record AreSteps (order : List Node) (roads : List Road) (net : List (List Arc)) : Type 0 where
  pub between : List Road
  pub placed : ArePlaced (ids order) roads between
  pub joined : JoinIdsBelow (ids order) roads (length roads)
  pub thin : ThinBelow between (length order)
  pub rows : AreRows between (length order) net

-- the first faulty road, or the first node with too many arcs
abbrev pub StepFault : List Node → List Road → MapError → Type 0
StepFault order roads e = FirstFaulty (ids order) roads e ⊎ ((between : List Road) ×
    ArePlaced (ids order) roads between × JoinIdsBelow (ids order) roads (length roads) ×
    FirstCrowded between order e)
