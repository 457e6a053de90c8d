-- The library in memory.
use Rattle.std.specs.Prelude.{◌≡◌, ◌+◌, ◌-◌, ◌^◌, ℕ, List, find, min, Contains}
use Rattle.std.specs.String.{string_bytes}
use Rattle.std.specs.Str.{bytes_eq}
use Rattle.std.specs.Option.{option_map}
use Rattle.std.specs.declared.option.Option.TheVariants.{None}
use Rattle.road_io.specs.Contents.{Folder}
use Rattle.mem_io.specs.declared.library.MemLibrary.{MemLibrary}

-- its files: under each name the last one that was stored
abbrev pub files_of : MemLibrary → Folder
files_of library name =
    option_map (λ file. file.octets.items)
    (find (λ file. bytes_eq (string_bytes file.name) name) library.files.items)

-- the next load is planned to fail
abbrev pub IsPlannedLoad : MemLibrary → Type 0
IsPlannedLoad library = Contains library.fails.items library.calls

-- a load was counted, and the plan is unchanged
pub record CountsLoad (old new : MemLibrary) : Type 0 where
  pub counted : new.calls ≡ min (old.calls + 1) (2 ^ 64 - 1)
  pub plan : new.fails.items ≡ old.fails.items

-- no load was counted and none has failed, and the plan is unchanged
pub record HasSamePlan (old new : MemLibrary) : Type 0 where
  pub plan : new.fails.items ≡ old.fails.items
  pub calls : new.calls ≡ old.calls
  pub faults : new.faults ≡ old.faults

-- it has no file, has not been called and has not failed
pub record IsNewLibrary (fails : List ℕ) (library : MemLibrary) : Type 0 where
  pub empty : (name : List ℕ) → files_of library name ≡ None
  pub plan : library.fails.items ≡ fails
  pub uncalled : library.calls ≡ 0
  pub faultless : library.faults ≡ 0
