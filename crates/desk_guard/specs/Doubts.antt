-- Why the version of a signed map is doubtful, given the greatest version that the desk signed before, and the last
-- one.
use Rattle.std.specs.Prelude.{◌≡◌, ℕ, ◌+◌, ◌^◌, ◌<◌, ◌≤◌}
use Rattle.std.specs.declared.option.Option.{Option}
use Rattle.std.specs.declared.option.Option.TheVariants.{Some}
use Rattle.desk_guard.specs.declared.doubt.Doubt.{Doubt}
use Rattle.desk_guard.specs.declared.doubt.Doubt.TheVariants.{NotRisen, RisenFar}

-- the version is not higher than this one, the greatest; or it exceeds this one, the last, by more than 2^32
abbrev pub IsDoubt : ℕ → Option ℕ → Option ℕ → Doubt → Type 0
IsDoubt version greatest last (NotRisen before) = (greatest ≡ Some before) × (version ≤ before)
IsDoubt version greatest last (RisenFar before) = (last ≡ Some before) ×
    (before + 2 ^ 32 < version)
