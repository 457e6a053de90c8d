use Rattle.std.proofs.Common.{◌≡◌, max, drop}
use Rattle.method_judges.specs.Widest.{widest}
use Rattle.method_judges.proofs.bounds.widest_of.Given as goal

abbrev pub invariant-loop-i : goal.invariant-loop-i
invariant-loop-i l = widest l.v l.t ≡ max l.widest (widest (drop l.i l.v) (drop l.i l.t))
