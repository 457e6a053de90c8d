-- Calls of the system, the latest first, each with how it was answered, its code, and a name or octets.
use Rattle.std.specs.Prelude.{◌≡◌, ◌≢◌, ◌==◌, ◌&&◌, ◌||◌, not, Bool, true, false, ℕ, suc, List, [], ◌∷◌, length, ◌<◌, slice_index, if◌then◌else◌, OnOk, IfErr, OnErr}
use Rattle.std.specs.declared.result.Result.{Result}
use Rattle.std.specs.declared.io.Error.{Error}
use Rattle.std.specs.declared.io.ErrorKind.TheVariants.{NotFound}
use Rattle.std.specs.IoError.{error_kind}
use Rattle.std.specs.Str.{bytes_eq}

-- numbers and octets, as recorded
abbrev pub Note : Type 0
Note = List ℕ × List ℕ

-- one call was made, and answered so: 0 done, 1 that no file has the name, 4 refused for another reason
pub record Called {T : Type 0} (code : ℕ) (bytes : List ℕ) (answer : Result T Error)
    (before now : List Note) : Type 0 where
  pub how : ℕ
  pub is : now ≡ (how ∷ code ∷ [], bytes) ∷ before
  pub done : OnOk answer (how ≡ 0)
  pub missing : IfErr answer (λ e. error_kind e ≡ NotFound → how ≡ 1)
  pub refused : IfErr answer (λ e. error_kind e ≢ NotFound → how ≡ 4)
  pub failed : OnErr answer (how ≢ 0)

-- one call was made, whatever its answer
abbrev pub Adds : ℕ → List ℕ → List Note → List Note → Type 0
Adds code bytes before now = (how : ℕ) × (now ≡ (how ∷ code ∷ [], bytes) ∷ before)

-- the last call was not done
abbrev pub EndsRefused : List Note → Type 0
EndsRefused [] = ⊥
EndsRefused (call ∷ before) = slice_index call.0 0 ≢ 0

-- at least one call was made, and the last was not done
pub record Refuses (before now : List Note) : Type 0 where
  pub made : length before < length now
  pub ends : EndsRefused now

-- the number of calls with a code
abbrev pub count_of : ℕ → List Note → ℕ
count_of code [] = 0
count_of code (call ∷ before) =
    if slice_index call.0 1 == code then suc (count_of code before) else count_of code before

-- how often a disk's file was created, and how often it was synced
abbrev pub creations : List Note → ℕ
creations = count_of 5

abbrev pub syncs : List Note → ℕ
syncs = count_of 13

-- ---- the order of calls

-- the last call was a look at this name, without following a link
abbrev pub is_behind_look : List ℕ → List Note → Bool
is_behind_look name [] = false
is_behind_look name (call ∷ before) = slice_index call.0 1 == 0 && bytes_eq call.1 name

-- each opening of an existing file to write it was made directly behind a look at its name
abbrev pub looks_first : List Note → Bool
looks_first [] = true
looks_first (call ∷ before) =
    (not (slice_index call.0 1 == 4) || is_behind_look call.1 before) && looks_first before

-- the system once answered, as the file of this name was to be opened, that no file has the name
abbrev pub was_missing : List ℕ → List Note → Bool
was_missing name [] = false
was_missing name (call ∷ before) =
    (slice_index call.0 0 == 1 && slice_index call.0 1 == 4 && bytes_eq call.1 name) ||
    was_missing name before
