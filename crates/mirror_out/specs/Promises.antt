-- The number of calls before the next one that is planned to fail.
use Rattle.std.specs.Prelude.{ℕ, ◌-◌, ◌^◌, min, nat_lt, List, [], ◌∷◌, if◌then◌else◌}

-- the number of calls, from one on, before the next planned failure, or all calls that a u64 can still count
abbrev pub puts_before : List ℕ → ℕ → ℕ
puts_before [] call = 2 ^ 64 - 1 - call
puts_before (fails ∷ others) call =
    if nat_lt fails call then puts_before others call else min (fails - call)
    (puts_before others call)
