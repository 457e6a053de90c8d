use Rattle.std.proofs.Common.{◌≡◌, ◌*◌, length, take}
use Rattle.std.specs.List.{range_with_len, flat_map}
use Rattle.lms_tree.specs.Signatures.{height_of, path_node}
use Rattle.lms_reduce.proofs.comparing.own_path.Given as goal

abbrev pub invariant-loop-level : goal.invariant-loop-level
invariant-loop-level l = record {
  size : length l.path ≡ 320;
  written : take (32 * l.level) l.path ≡ flat_map (path_node l.key.i l.key.seed (height_of l.key.kind) l.q) (range_with_len 0 l.level);
}
