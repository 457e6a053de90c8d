use Rattle.std.proofs.Common.{◌≡◌, ◌+◌, ◌*◌, ◌++◌, length, take}
use Rattle.std.specs.List.{range_with_len, flat_map}
use Rattle.lms_ots.specs.Chains.{prefix, ended_value}
use Rattle.lms_reduce.proofs.texts.shown_ends.Given as goal

abbrev pub invariant-loop-at : goal.invariant-loop-at
invariant-loop-at l = record {
  size : length l.text ≡ 1110;
  written : take (22 + 32 * l.at) l.text ≡ prefix l.i l.q 0x8080 ++ flat_map (ended_value l.i l.q l.digits l.ots) (range_with_len 0 l.at);
}
