use Rattle.std.proofs.Common.{◌≡◌, ◌+◌, ◌*◌, ◌++◌, take}
use Rattle.std.specs.List.{range_with_len, flat_map}
use Rattle.std.specs.Int.{w32, to_be_bytes}
use Rattle.lms_ots.specs.Chains.{shown_value, randomiser_of}
use Rattle.lms_ots.proofs.signatures.sign_ots.Given as goal

abbrev pub invariant-loop-at : goal.invariant-loop-at
invariant-loop-at l =
    take (36 + 32 * l.at) l.out ≡ to_be_bytes w32 4 ++ randomiser_of l.i l.q l.seed ++ flat_map (shown_value l.i l.q l.seed l.digits) (range_with_len 0 l.at)
