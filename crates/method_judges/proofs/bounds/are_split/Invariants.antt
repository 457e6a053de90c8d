use Rattle.std.proofs.Common.{◌≡◌, drop}
use Rattle.proof_judge.specs.Apart.{are_split}
use Rattle.method_judges.proofs.bounds.are_split.Given as goal

abbrev pub invariant-loop-i : goal.invariant-loop-i
invariant-loop-i l = are_split l.v l.t ≡ are_split (drop l.i l.v) (drop l.i l.t)
