use Rattle.std.proofs.Common.{◌<◌}
use Rattle.std.specs.List.{AllAdjacentBelow}
use Rattle.dimacs_reader.proofs.places.repeated_id.Given as goal

-- the ids so far ascend
abbrev pub invariant-loop-index : goal.invariant-loop-index
invariant-loop-index l = AllAdjacentBelow (λ x y. x.id < y.id) l.nodes l.index
