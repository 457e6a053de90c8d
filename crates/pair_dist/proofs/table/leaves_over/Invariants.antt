use Rattle.std.proofs.Common.{◌≡◌, ◌++◌, drop}
use Rattle.road_map.specs.Walks.{distance}
use Rattle.book_model.specs.Pairs.{pairs_of}
use Rattle.pair_dist.proofs.table.leaves_over.Given as goal

-- the rows so far, and the table that is left
abbrev pub invariant-loop-i : goal.invariant-loop-i
invariant-loop-i g l = pairs_of (distance l.map.parts) l.chosen ≡ l.leaves.items ++ pairs_of (distance l.map.parts) (drop l.i l.chosen)
