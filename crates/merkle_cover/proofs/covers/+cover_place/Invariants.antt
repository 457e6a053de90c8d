use Rattle.std.proofs.Common.{◌≡◌, ◌-◌, ◌*◌, ◌++◌}
use Rattle.std.specs.List.{range_with_len, flat_map}
use Rattle.merkle_cover.specs.Covers.{cover_below}
use Rattle.merkle_cover.specs.Folding.{SplitsAt, digest_in}
use Rattle.merkle_cover.proofs.covers.+cover_place.Given as goal

abbrev pub decreases-cover_place : goal.decreases-cover_place
decreases-cover_place l = l.level

abbrev pub invariant-loop-child : goal.invariant-loop-child
invariant-loop-child l = record {
  items_at : SplitsAt l.walk.places.now (l.child * l.below) l.item;
  out_is : l.out.items ≡ l.fn.out.items ++ flat_map (cover_below (digest_in l.walk.levels.now) l.walk.leaves l.walk.fan l.walk.places.now (l.level - 1)) (range_with_len l.first (l.child - l.first));
}
