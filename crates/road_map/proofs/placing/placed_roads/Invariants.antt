use Rattle.std.proofs.Common.{take}
use Rattle.road_map.specs.Rows.{ArePlaced, JoinIdsBelow}
use Rattle.road_map.proofs.placing.placed_roads.Given as goal

-- the roads so far are placed, and none of them is faulty
abbrev pub invariant-loop-index : goal.invariant-loop-index
invariant-loop-index l = record {
  placed : ArePlaced l.ids (take l.index l.roads) l.placed.items;
  joined : JoinIdsBelow l.ids l.roads l.index;
}
