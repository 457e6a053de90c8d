use Rattle.std.proofs.Common.{◌≡◌, length, take, slice_get, All}
use Rattle.std.specs.List.{filter_map}
use Rattle.road_leaf.specs.Leaves.{pair_leaf}
use Rattle.route_server.proofs.at_places.pairs_at.Given as goal

abbrev pub invariant-loop-place : goal.invariant-loop-place
invariant-loop-place l =
    (l.leaves.items ≡ filter_map (slice_get l.pairs) (take l.place-index l.places)) × (length l.leaves.items ≡ l.place-index) × All pair_leaf.Fits l.leaves.items
