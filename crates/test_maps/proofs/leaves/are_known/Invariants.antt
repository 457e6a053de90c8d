use Rattle.std.proofs.Common.{ℕ, ◌<◌, get_or}
use Rattle.road_map.specs.Walks.{Knows}
use Rattle.test_maps.proofs.leaves.are_known.Given as goal

abbrev pub invariant-loop-id : goal.invariant-loop-id
invariant-loop-id l = (k : ℕ) → k < l.id-index → Knows l.map.parts (get_or l.ids k 0)
