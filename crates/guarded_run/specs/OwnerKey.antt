-- What the file `owner.key` holds, and the owner's first key.
use Rattle.std.specs.Prelude.{◌≡◌, ◌≢◌, ◌↔◌, ℕ, Bool, true, false, List, [], ◌∷◌, take, IsSomeAnd}
use Rattle.std.specs.declared.option.Option.{Option}
use Rattle.std.specs.declared.option.Option.TheVariants.{None, Some}
use Rattle.std.specs.Result.{result_ok}
use Rattle.hex.specs.Hex.{decode_sized}
use Rattle.outside.specs.Looks.{seen_as}
use Rattle.outside.specs.declared.look.Look.{Look}
use Rattle.road_io.specs.Contents.{RefusesFile}
use Rattle.guarded_run.specs.declared.owner_key.KeyFile.{KeyFile}
use Rattle.guarded_run.specs.declared.owner_key.KeyFile.TheVariants.{Unused, Absent, Special, Unread, NoKey, Key}

-- the key that the first 112 hex digits of a text encode
abbrev pub key_in : List ℕ → Option (List ℕ)
key_in text = result_ok (decode_sized (take 112 text) 56)

-- the state of the file, by the octets that it has, if it exists; of a file that is not regular nothing is loaded
abbrev pub IsKnown : Option (List ℕ) → KeyFile → Type 0
IsKnown file Unused = ⊥
IsKnown file Absent = file ≡ None
IsKnown file Special = Unit {0}
IsKnown file (Unread why) = RefusesFile file 4096 why
IsKnown file NoKey = IsSomeAnd file (λ text. key_in text ≡ None)
IsKnown file (Key public) = IsSomeAnd file (λ text. key_in text ≡ Some public)

-- the answers of the system are one look at the file to which this name leads, and it is not regular
abbrev pub ShowsSpecial : List ℕ → List (List ℕ × List ℕ) → Type 0
ShowsSpecial name answers = (file : Look) × (answers ≡ (seen_as 4 file, name) ∷ []) × (file.kind ≢ 0o10)

-- the state tells of a file that is not regular exactly if the system shows one
abbrev pub TellsSpecial : List ℕ → List (List ℕ × List ℕ) → KeyFile → Type 0
TellsSpecial name answers known = (known ≡ Special) ↔ ShowsSpecial name answers

-- whether the file exists, and holds no key that can be read
abbrev pub is_broken : KeyFile → Bool
is_broken Special = true
is_broken (Unread why) = true
is_broken NoKey = true
is_broken file = false

-- the owner's first key, if the file begins with a key
abbrev pub key_known : KeyFile → Option (List ℕ)
key_known (Key public) = Some public
key_known file = None
