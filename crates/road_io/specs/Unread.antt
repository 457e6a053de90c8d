-- Why a file could not be read, and what the reason implies about the file.
use Rattle.std.specs.Prelude.{◌≡◌, ◌≢◌, ℕ, ◌<◌, List, [], ◌∷◌, length, slice_index, IsSome, IsSomeAnd}
use Rattle.std.specs.declared.option.Option.{Option}
use Rattle.std.specs.declared.option.Option.TheVariants.{None, Some}
use Rattle.std.specs.declared.result.Result.{Result}
use Rattle.std.specs.declared.result.Result.TheVariants.{Ok, Err}
use Rattle.std.specs.declared.vec.Vec.{Vec}
use Rattle.std.specs.declared.alloc.Global.{Global}
use Rattle.std.specs.IoError.{error_kind}
use Rattle.std.specs.declared.io.Error.{Error}
use Rattle.std.specs.declared.io.ErrorKind.TheVariants as kinds
use Rattle.road_io.specs.declared.library.LoadError.{LoadError}
use Rattle.road_io.specs.declared.library.LoadError.TheVariants as load
use Rattle.road_io.specs.declared.file_library.Unread.{Unread}
use Rattle.road_io.specs.declared.file_library.Unread.TheVariants.{Missing, Refused, TooLong, Memory}
use Rattle.road_io.specs.Shelves.{Note}

-- what a read of at most this many octets implies about the file under the name
abbrev pub HasRead : Option (List ℕ) → ℕ → Result (Vec ℕ Global) Unread → Type 0
HasRead file most (Ok octets) = file ≡ Some octets.items
HasRead file most (Err (Missing e)) = file ≡ None
HasRead file most (Err TooLong) = IsSomeAnd file (λ octets. most < length octets)
HasRead file most (Err why) = Unit {0}

-- the system refused the file for a reason other than that it is missing
abbrev pub IsRefused : Unread → Type 0
IsRefused (Refused e) = Unit {0}
IsRefused why = ⊥

-- the record of a file that was not opened: that it is missing, if the system says so, or refused for another reason
abbrev pub NotesRefusal : Unread → List ℕ → List Note → List Note → Type 0
NotesRefusal (Missing e) name before now = (error_kind e ≡ kinds.NotFound) ×
    (now ≡ (1 ∷ 0 ∷ [], name) ∷ before)
NotesRefusal (Refused e) name before now = (error_kind e ≢ kinds.NotFound) ×
    (now ≡ (4 ∷ 0 ∷ [], name) ∷ before)
NotesRefusal why name before now = ⊥

-- a file is missing only if the system says so
abbrev pub HasReason : Unread → Type 0
HasReason (Missing e) = error_kind e ≡ kinds.NotFound
HasReason why = Unit {0}

-- the system gave a reason exactly if the file is missing or the library failed
abbrev pub TellsReason : Result (Vec ℕ Global) LoadError → Option Error → Type 0
TellsReason (Err load.Missing) reason = IsSomeAnd reason (λ e. error_kind e ≡ kinds.NotFound)
TellsReason (Err load.Failed) reason = IsSome reason
TellsReason answer reason = reason ≡ None

-- ---- the calls of the system: 0 an opening, 1 a read

-- the last call was an opening, and was answered that no file has the name
abbrev pub EndsMissing : List Note → Type 0
EndsMissing [] = ⊥
EndsMissing (call ∷ before) = (slice_index call.0 1 ≡ 0) × (slice_index call.0 0 ≡ 1)

-- the last call was refused: a read, or an opening for another reason than that no file has the name
abbrev pub EndsFailed : List Note → Type 0
EndsFailed [] = ⊥
EndsFailed (call ∷ before) = (slice_index call.0 0 ≢ 0) ×
    (slice_index call.0 1 ≡ 0 → slice_index call.0 0 ≡ 4)

-- a file is missing, or could not be read, only by the last call's answer
abbrev pub IsUnreadBy : Unread → List Note → Type 0
IsUnreadBy (Missing e) calls = EndsMissing calls
IsUnreadBy (Refused e) calls = EndsFailed calls
IsUnreadBy why calls = Unit {0}

abbrev pub IsUnloadedBy : LoadError → List Note → Type 0
IsUnloadedBy load.Missing calls = EndsMissing calls
IsUnloadedBy load.Failed calls = EndsFailed calls
IsUnloadedBy why calls = Unit {0}

-- ---- what a load makes of a file

-- 0 whole, 1 missing, 2 too long, 3 no memory for it, 4 failed
abbrev pub outcome_of : Result (Vec ℕ Global) Unread → ℕ
outcome_of (Ok octets) = 0
outcome_of (Err (Missing e)) = 1
outcome_of (Err TooLong) = 2
outcome_of (Err (Memory none)) = 3
outcome_of (Err (Refused e)) = 4
