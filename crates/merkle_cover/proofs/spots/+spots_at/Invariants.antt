use Rattle.std.proofs.Common.{◌≡◌, ◌-◌, ◌*◌, ◌++◌}
use Rattle.std.specs.List.{range_with_len, flat_map}
use Rattle.merkle_cover.specs.Spots.{spots_below}
use Rattle.merkle_cover.specs.Folding.{SplitsAt}
use Rattle.merkle_cover.proofs.spots.+spots_at.Given as goal

abbrev pub decreases-spots_at : goal.decreases-spots_at
decreases-spots_at l = l.level

abbrev pub invariant-loop-child : goal.invariant-loop-child
invariant-loop-child l = record {
  items_at : SplitsAt l.chosen.places.now (l.child * l.below) l.item;
  out_is : l.out.items ≡ l.fn.out.items ++ flat_map (spots_below l.chosen.leaves l.chosen.fan l.chosen.places.now (l.level - 1)) (range_with_len l.first (l.child - l.first));
}
