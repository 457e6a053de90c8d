use Rattle.std.proofs.Common.{◌≡◌, map, take}
use Rattle.road_search.specs.Nets.{id_at}
use Rattle.road_search.proofs.positions.ids_at.Given as goal

-- the ids so far
abbrev pub invariant-loop-position : goal.invariant-loop-position
invariant-loop-position l = l.ids.items ≡ map (id_at l.map.order) (take l.position-index l.positions)
