use Rattle.std.proofs.Common.{◌≡◌, take, map}
use Rattle.road_map.specs.Rows.{named_arc}
use Rattle.road_map.proofs.net.all_named.Given as goal

-- the arcs so far
abbrev pub invariant-loop-arc : goal.invariant-loop-arc
invariant-loop-arc l = l.named.items ≡ map (named_arc l.order) (take l.arc-index l.arcs)
