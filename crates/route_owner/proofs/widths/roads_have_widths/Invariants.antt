use Rattle.std.proofs.Common.{ℕ, ◌<◌, get_or}
use Rattle.road_map.specs.declared.parts.Road.{Road}
use Rattle.proof_octets.specs.Good.{IsGoodRoad}
use Rattle.route_owner.proofs.widths.roads_have_widths.Given as goal

abbrev pub invariant-loop-road : goal.invariant-loop-road
invariant-loop-road l = (k : ℕ) (d : Road) → k < l.road-index → IsGoodRoad (get_or l.roads k d)
