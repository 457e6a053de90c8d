use Rattle.std.proofs.Common.{◌≡◌, take}
use Rattle.road_map.specs.Walks.{ids}
use Rattle.road_map.proofs.map.Map.ids.Given as goal

abbrev pub invariant-loop-position : goal.invariant-loop-position
invariant-loop-position l = l.rising.items ≡ take l.position (ids l.self.order)
