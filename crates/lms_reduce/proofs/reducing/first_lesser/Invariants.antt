use Rattle.std.proofs.Common.{ℕ, ◌<◌, ◌≤◌, get_or}
use Rattle.lms_reduce.proofs.reducing.first_lesser.Given as goal

abbrev pub invariant-loop-at : goal.invariant-loop-at
invariant-loop-at l = (b : ℕ) → b < l.at → get_or l.others b 0 ≤ get_or l.digits b 0
