use Rattle.std.proofs.Common.{◌≡◌, ◌≤◌, vec_capacity, replicate}
use Rattle.road_io.specs.Disk.{written}
use Rattle.mem_io.proofs.disk.fill_piece.Given as goal

abbrev pub invariant-loop-k : goal.invariant-loop-k
invariant-loop-k l = record {
  filled : l.content.items ≡ written l.p.at (replicate l.k l.fill) l.fn.content.items;
  capacity : vec_capacity l.fn.content ≤ vec_capacity l.content;
}
