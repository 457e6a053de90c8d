use Rattle.std.proofs.Common.{◌<◌, ℕ}
use Rattle.desk_look.specs.Looks.{IsKeyFrom}
use Rattle.desk_look.specs.Forgeries.{link_at}
use Rattle.desk_look.proofs.keys.first_stray.Given as goal

-- each link so far leads to a later key
abbrev pub invariant-loop-number : goal.invariant-loop-number
invariant-loop-number l = (n : ℕ) → n < l.number → IsKeyFrom l.desk 1 (link_at l.chain n).key
