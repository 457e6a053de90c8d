-- Why a desk's file was not opened or a call of its disk failed, by the calls of the system, the latest first.
use Rattle.std.specs.Prelude.{◌≡◌, ◌+◌, ◌==◌, ◌||◌, ◌<◌, ℕ, List, [], ◌∷◌, Bool, true, false, length, slice_index, IsSome}
use Rattle.std.specs.declared.option.Option.{Option}
use Rattle.std.specs.declared.option.Option.TheVariants.{None, Some}
use Rattle.outside.specs.Called.{Note, Refuses, count_of, was_missing}
use Rattle.desk_disk.specs.declared.state.NotOpened.{NotOpened}
use Rattle.desk_disk.specs.declared.state.NotOpened.TheVariants.{Failed, Unsafe}
use Rattle.desk_disk.specs.declared.state.State.{State}
use Rattle.desk_disk.specs.declared.state.State.TheVariants.{Absent, Own, Seen}
use Rattle.desk_disk.specs.declared.unsafe_desk.Unsafe as reasons
use Rattle.desk_disk.specs.States.{is_read_only}

-- a desk is absent only if the system said so
abbrev pub is_absent_so : List ℕ → State → List Note → Bool
is_absent_so name Absent calls = was_missing name calls
is_absent_so name state calls = true

-- ---- failures

-- the last call was a look at a name, or at the open file
abbrev pub ends_in_look : List Note → Bool
ends_in_look [] = false
ends_in_look (call ∷ before) = slice_index call.0 1 == 0 || slice_index call.0 1 == 14

-- a call was made, and the last one was a look
pub record Looked (before now : List Note) : Type 0 where
  pub made : length before < length now
  pub look : ends_in_look now ≡ true

-- a file was not opened since the last call was refused, or since a look at it shows that it is not safe
abbrev pub IsNotOpenedFor : NotOpened → List Note → List Note → Type 0
IsNotOpenedFor (Failed e) before now = Refuses before now
IsNotOpenedFor (Unsafe why) before now = Looked before now

-- the last call was refused, or it was a look, which shows that the file is not safe
abbrev pub EndsIn : Option reasons.Unsafe → List Note → Type 0
EndsIn why [] = ⊥
EndsIn why (call ∷ before) =
    slice_index call.0 0 ≡ 0 → (ends_in_look (call ∷ before) ≡ true) × IsSome why

-- a call of the disk failed since the last call of the system was refused, or since a look shows that the file is not safe
pub record FailsFor (why : Option reasons.Unsafe) (before now : List Note) : Type 0 where
  pub made : length before < length now
  pub ends : EndsIn why now

-- a write fails for such a reason, unless a command that only reads has opened the file
abbrev pub FailsToWrite : State → Option reasons.Unsafe → List Note → List Note → Type 0
FailsToWrite state why before now = is_read_only state ≡ false → FailsFor why before now

-- why the file is not safe is kept
abbrev pub IsKeptFor : NotOpened → Option reasons.Unsafe → Type 0
IsKeptFor (Failed e) kept = Unit {0}
IsKeptFor (Unsafe why) kept = kept ≡ Some why

-- ---- what is told of the mode

-- whether others could read the file until it was opened
abbrev pub was_open : State → Bool
was_open (Seen was_readable) = was_readable
was_open state = false

-- others were denied access once more exactly if this is told
abbrev pub TellsShut : Bool → List Note → List Note → Type 0
TellsShut true before now = count_of 15 now ≡ count_of 15 before + 1
TellsShut false before now = count_of 15 now ≡ count_of 15 before

-- the fault of the mode with which a command that only reads has opened the file
abbrev pub fault_in : State → Option reasons.Unsafe
fault_in (Own fault) = fault
fault_in state = None
