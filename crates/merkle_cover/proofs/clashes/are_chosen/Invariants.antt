use Rattle.std.proofs.Common.{◌≡◌, ℕ, ◌<◌, [], get_or}
use Rattle.merkle_cover.proofs.clashes.are_chosen.Given as goal

-- the texts before the index are the leaves at their positions
abbrev pub invariant-loop-index : goal.invariant-loop-index
invariant-loop-index l = (q : ℕ) → q < l.index → get_or l.texts q [] ≡ get_or l.leaves (get_or l.places q 0) []
