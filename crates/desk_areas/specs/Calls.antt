-- The number of calls to the disk. A call asks for the length, reads, writes or syncs. A call that fails counts
-- too.
use Rattle.std.specs.Prelude.{ℕ, ◌+◌, ◌-◌, ◌^◌, ◌≤◌, Bool, true, false, List, length}
use Rattle.std.specs.List.{count_by}
use Rattle.road_io.specs.Causes.{RoseBy}
use Rattle.desk_areas.specs.declared.area.Count.{Count}
use Rattle.desk_areas.specs.declared.area.Count.TheVariants

-- this many calls were made: the count rose by this number, or to its greatest value
abbrev pub Called : ℕ → ℕ → ℕ → Type 0
Called n before now = before ≤ 2 ^ 64 - 1 → RoseBy n before now

-- at most this many calls were made
abbrev pub CalledUpTo : ℕ → ℕ → ℕ → Type 0
CalledUpTo most before now = now ≤ before + most

-- whether a slot counts as spent
abbrev pub is_spent : Count → Bool
is_spent TheVariants.Spent = true
is_spent count = false

-- the number of calls that read an area with slots in these states: one for its key block, one for the gate of each
-- slot, and one for the text of each spent slot
abbrev pub area_calls : List Count → ℕ
area_calls counts = 1 + length counts + count_by is_spent counts

-- a bound on that number, since an area has at most 1,024 slots
abbrev pub most_area_calls : ℕ
most_area_calls = 2049
