use Rattle.std.proofs.Common.{ℕ, ◌<◌, ◌^◌, get_or}
use Rattle.road_map.specs.declared.arc.Arc.{Arc}
use Rattle.proof_judge.proofs.lengths.lengths_fit.Given as goal

abbrev pub invariant-loop-arc : goal.invariant-loop-arc
invariant-loop-arc l = (k : ℕ) (d : Arc) → k < l.arc-index → (get_or l.arcs k d).length < 2 ^ 32
