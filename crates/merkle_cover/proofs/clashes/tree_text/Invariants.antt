use Rattle.std.proofs.Common.{◌≡◌, ◌-◌, ◌∷◌}
use Rattle.std.specs.List.{range_with_len, flat_map}
use Rattle.merkle_cover.specs.Trees.{digest}
use Rattle.merkle_cover.proofs.clashes.tree_text.Given as goal

abbrev pub invariant-loop-child : goal.invariant-loop-child
invariant-loop-child g l =
    l.text.items ≡ 1 ∷ flat_map (digest g.H.Hasher.hash l.leaves l.fan (l.level - 1)) (range_with_len l.first (l.child - l.first))
