use Rattle.std.proofs.Common.{◌≡◌, ◌+◌, ◌≤◌, length}
use Rattle.dimacs_reader.specs.Told.{told_lines}
use Rattle.dimacs_reader.proofs.lines.next_line.Given as goal

abbrev pub decreases-loop-octets : goal.decreases-loop-octets
decreases-loop-octets l = length l.lines.rest.now

abbrev pub invariant-loop-octets : goal.invariant-loop-octets
invariant-loop-octets l = record {
  same : told_lines l.lines.passed l.lines.rest.now ≡ told_lines l.fn.lines.passed l.fn.lines.rest.now;
  fits : l.lines.passed + length l.lines.rest.now ≤ l.fn.lines.passed + length l.fn.lines.rest.now;
  shorter : length l.lines.rest.now ≤ length l.fn.lines.rest.now;
}
