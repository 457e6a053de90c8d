-- Bounds on memory that is reserved in advance, in terms of the octets at hand.
use Rattle.std.specs.Prelude.{ℕ, ◌+◌, ◌*◌, ◌<◌, ◌≤◌}
use Rattle.std.specs.Mem.{type_size}
use denote.RattleType.{RattleType}

-- each S takes at least one octet, and a T takes at most 16 octets for each octet of an S
pub record IsBorneOut (T S : RattleType) : Type 0 where
  pub some : 0 < type_size S
  pub most : type_size T ≤ 16 * type_size S

-- `count` Ts take at most 1,024 octets for each octet that the Ss take, plus 1,024 octets
abbrev pub AreBorneOut : RattleType → ℕ → RattleType → ℕ → Type 0
AreBorneOut T count S at_hand = count * type_size T ≤ 1024 * (at_hand * type_size S) + 1024
