use Rattle.std.proofs.Common.{◌≡◌, drop}
use Rattle.method_judges.specs.Scans.{scan}
use Rattle.method_judges.proofs.scan.first_fault.Given as goal

abbrev pub invariant-loop-border : goal.invariant-loop-border
invariant-loop-border g l = scan (g.F.Faults.fault_of l.faults) (g.F.Faults.limit l.faults) l.near l.far ≡ scan (g.F.Faults.fault_of l.faults) (g.F.Faults.limit l.faults) (drop l.border-index l.near) l.far
