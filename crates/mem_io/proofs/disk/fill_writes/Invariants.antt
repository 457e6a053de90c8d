use Rattle.std.proofs.Common.{◌≡◌, ◌≤◌, length, vec_capacity}
use Rattle.mem_io.specs.Journal.{filled_at}
use Rattle.mem_io.proofs.disk.fill_writes.Given as goal

abbrev pub invariant-loop-i : goal.invariant-loop-i
invariant-loop-i l = record {
  filled : l.content.items ≡ filled_at l.fill l.base l.entries l.octets l.i;
  capacity : vec_capacity l.fn.content ≤ vec_capacity l.content;
  within : l.i ≤ length l.entries;
}
