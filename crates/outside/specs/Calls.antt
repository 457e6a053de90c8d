-- The effect of a system call on a file, in terms of what the file states: its position, the octets that reads
-- return from there on, and the octets that it has taken. Real files state none of this; a proof for all files
-- covers them too.
use Rattle.std.specs.Prelude.{◌≡◌, ℕ, List, [], ◌∷◌, Some, IfSome}
use Rattle.std.specs.declared.option.Option.{Option}
use Rattle.std.specs.declared.result.Result.{Result}
use Rattle.std.specs.declared.result.Result.TheVariants.{Ok, Err}
use Rattle.std.specs.Io.KnownBytes.{Appends, Consumes}

-- the file was at an offset, and gave these octets from there on
pub record ReadsAt {F : Type 0} (position : F → Option ℕ) (left : F → Option (List ℕ)) (at : ℕ)
    (octets : List ℕ) (old new : F) : Type 0 where
  pub there : F
  pub stood : IfSome (position old) (λ _. position there ≡ Some at)
  pub gave : Consumes (left there) (left new) octets

-- the file was at an offset, and took these octets there
pub record WritesAt {F : Type 0} (position : F → Option ℕ) (taken : F → Option (List ℕ)) (at : ℕ)
    (octets : List ℕ) (old new : F) : Type 0 where
  pub there : F
  pub stood : IfSome (position old) (λ _. position there ≡ Some at)
  pub took : Appends (taken there) (taken new) octets

-- ---- notes of calls to a disk

-- a write, by its answer: an offset and the octets
abbrev pub noted_write : {T E : Type 0} → Result T E → ℕ → List ℕ → List ℕ × List ℕ
noted_write (Ok done) at octets = (2 ∷ at ∷ [], octets)
noted_write (Err failed) at octets = (3 ∷ at ∷ [], octets)

-- a sync, by its answer
abbrev pub noted_sync : {T E : Type 0} → Result T E → List ℕ × List ℕ
noted_sync (Ok done) = (4 ∷ [], [])
noted_sync (Err failed) = (5 ∷ [], [])
