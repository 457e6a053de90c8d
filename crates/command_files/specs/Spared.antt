-- No failure is hidden: a failure of an outside object ends the work at once, with the error of that object.
use Rattle.std.specs.Prelude.{◌≡◌, ◌≢◌, ℕ}
use Rattle.std.specs.declared.result.Result.{Result}
use Rattle.std.specs.declared.result.Result.TheVariants.{Ok, Err}
use Rattle.command_files.specs.declared.fault.Fault.{Fault}
use Rattle.command_files.specs.declared.fault.Fault.TheVariants.{Missing, TooLong, Library}

-- the errors of a library that may have failed; a library that does not state its files may also have failed when
-- it reports a file as missing or too long
abbrev pub IsOfLibrary : Fault → Type 0
IsOfLibrary Missing = Unit {0}
IsOfLibrary TooLong = Unit {0}
IsOfLibrary Library = Unit {0}
IsOfLibrary fault = ⊥

-- the result is such an error
abbrev pub BlamesLibrary : {T : Type 0} → Result T Fault → Type 0
BlamesLibrary (Ok value) = ⊥
BlamesLibrary (Err fault) = IsOfLibrary fault

-- every result except these errors leaves the library's failure count unchanged
abbrev pub SparesLibrary : {T : Type 0} → Result T Fault → ℕ → ℕ → Type 0
SparesLibrary result before now = ¬ BlamesLibrary result → now ≡ before

-- every result except this fault leaves the failure count of the fault's object unchanged
abbrev pub SparesBut : {T : Type 0} → Fault → Result T Fault → ℕ → ℕ → Type 0
SparesBut fault result before now = result ≢ Err fault → now ≡ before
