use Rattle.std.proofs.Common.{◌≤◌, ◌*◌, length}
use Rattle.road_map.specs.Parted.{parted, AreEnds}
use Rattle.road_map.specs.Rows.{AreRows, ThinBelow}
use Rattle.road_map.proofs.net.net_of.Given as goal

-- the arcs of the positions so far
abbrev pub invariant-loop-position : goal.invariant-loop-position
invariant-loop-position l = record {
  ends : AreEnds 0 l.ends.items (length l.arcs.items);
  few : length l.arcs.items ≤ 255 * l.position;
  rows : AreRows l.roads l.position (parted 0 l.ends.items l.arcs.items);
  thin : ThinBelow l.roads l.position;
}
