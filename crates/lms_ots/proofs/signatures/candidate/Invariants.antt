use Rattle.std.proofs.Common.{◌++◌}
use Rattle.std.specs.List.{range_with_len, flat_map}
use Rattle.octet_text.specs.Sha.{HoldsText}
use Rattle.lms_ots.specs.Chains.{prefix, ended_value}
use Rattle.lms_ots.proofs.signatures.candidate.Given as goal

abbrev pub invariant-loop-at : goal.invariant-loop-at
invariant-loop-at l = HoldsText l.hasher (prefix l.i l.q 0x8080 ++ flat_map (ended_value l.i l.q l.digits l.ots) (range_with_len 0 l.at))
