use Rattle.std.proofs.Common.{ℕ, ◌<◌, get_or}
use Rattle.road_leaf.specs.declared.leaf.NodeLeaf.{NodeLeaf}
use Rattle.proof_judge.proofs.LengthLaws.{FitAll}
use Rattle.proof_judge.proofs.lengths.are_short.Given as goal

abbrev pub invariant-loop-index : goal.invariant-loop-index
invariant-loop-index l = (k : ℕ) (d : NodeLeaf) → k < l.index → FitAll (get_or l.nodes k d).arcs
