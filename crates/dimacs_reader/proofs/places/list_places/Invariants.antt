use Rattle.std.proofs.Common.{◌≡◌, ◌+◌, ◌<◌, ◌^◌, length}
use Rattle.dimacs_reader.specs.Told.{told_lines}
use Rattle.dimacs_reader.specs.Dimacs.{place_of, each_of}
use Rattle.dimacs_reader.proofs.EachLaws.{onto}
use Rattle.dimacs_reader.proofs.places.list_places.Given as goal

abbrev pub invariant-loop-line : goal.invariant-loop-line
invariant-loop-line l = record {
  same : onto l.places.items (each_of (place_of l.nodes) (told_lines l.lines.passed l.lines.rest.now)) ≡ each_of (place_of l.nodes) (told_lines l.fn.lines.passed l.fn.lines.rest.now);
  fits : l.lines.passed + length l.lines.rest.now < 2 ^ 32;
}

abbrev pub decreases-loop-line : goal.decreases-loop-line
decreases-loop-line l = length l.lines.rest.now
