use Rattle.std.proofs.Common.{◌≡◌, ℕ, ◌+◌, ◌*◌, ◌<◌, get_or, take, drop}
use Rattle.lms_ots.specs.Chains.{chain_of, secret_of}
use Rattle.lms_reduce.proofs.comparing.compare_chains.Given as goal

abbrev pub invariant-loop-at : goal.invariant-loop-at
invariant-loop-at l =
    (b : ℕ) → b < l.at → take 32 (drop (36 + 32 * b) l.ots) ≡ chain_of l.i l.q b 0 (get_or l.digits b 0) (secret_of l.i l.q l.seed b)
