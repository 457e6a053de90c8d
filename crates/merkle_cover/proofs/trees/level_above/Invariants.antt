use Rattle.std.proofs.Common.{◌≡◌, map}
use Rattle.std.specs.List.{range_with_len}
use Rattle.merkle_cover.specs.Trees.{group_digest}
use Rattle.merkle_cover.proofs.trees.level_above.Given as goal

abbrev pub invariant-loop-place : goal.invariant-loop-place
invariant-loop-place g l =
    l.digests.items ≡ map (group_digest g.H.Hasher.hash l.fan l.below) (range_with_len 0 l.place)
