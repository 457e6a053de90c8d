use Rattle.std.proofs.Common.{◌≡◌, ◌≤◌, ◌-◌, Some, length, slice_get, take}
use Rattle.road_map.specs.declared.parts.Road.{Road}
use Rattle.road_map.specs.Chains.{EndsAt}
use Rattle.road_map.specs.Rows.{row_at}
use Rattle.road_map.proofs.chains.gather.Given as goal

-- the roads before the index are gathered, and the road at the index ends at the position
abbrev pub invariant-loop-index : goal.invariant-loop-index
invariant-loop-index l = record {
  row : l.row.items ≡ row_at (take l.index l.roads) l.position;
  within : l.index ≤ length l.roads;
  ends : (r : Road) → slice_get l.roads l.index ≡ Some r → EndsAt r l.position;
}

abbrev pub decreases-loop-index : goal.decreases-loop-index
decreases-loop-index l = length l.roads - l.index
