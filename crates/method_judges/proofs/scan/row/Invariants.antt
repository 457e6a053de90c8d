use Rattle.std.proofs.Common.{◌≡◌, drop}
use Rattle.method_judges.specs.Scans.{scan_row}
use Rattle.method_judges.proofs.scan.row.Given as goal

abbrev pub invariant-loop-other : goal.invariant-loop-other
invariant-loop-other g l = scan_row (g.F.Faults.fault_of l.faults) (g.F.Faults.limit l.faults) l.border.0 l.border.1 l.far ≡ scan_row (g.F.Faults.fault_of l.faults) (g.F.Faults.limit l.faults) l.border.0 l.border.1 (drop l.other-index l.far)
