use Rattle.std.proofs.Common.{◌≡◌, ◌*◌, ◌≤◌, List, ℕ}
use Rattle.desk_areas.specs.Layout.{base_of}
use Rattle.desk_areas.specs.Reading.{IsLaidOut}
use Rattle.desk_areas.proofs.finding.base_of.Given as goal

abbrev pub invariant-loop-number : goal.invariant-loop-number
invariant-loop-number l = record {
  low : l.base ≤ 131136 * l.number;
  based : (c : List ℕ) → IsLaidOut l.areas c → l.base ≡ base_of c l.number;
}
