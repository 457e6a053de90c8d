-- The output of `key`, and its effect on the owner's disk.
use Rattle.std.specs.Prelude.{◌≡◌, ◌≢◌, ◌⊎◌, ℕ, List, [], ◌++◌, codes, OnOk, IfSome, IfErr}
use Rattle.std.specs.declared.option.Option.{Option}
use Rattle.std.specs.declared.result.Result.{Result}
use Rattle.std.specs.declared.result.Result.TheVariants.{Ok, Err}
use Rattle.std.specs.Option.{ForSome}
use Rattle.hex.specs.Hex.{encode_lower}
use Rattle.road_io.specs.declared.disk.Disk.{Ghosts}
use Rattle.road_io.specs.Disk.{Stays, Turns}
use Rattle.road_io.specs.Moments.{EachImage, AtEachMoment, still_told}
use Rattle.road_io.specs.Contents.{Folder}
use Rattle.lms_tree.specs.Signatures.{public_key}
use Rattle.desk_areas.specs.Keys.{key_from}
use Rattle.desk_areas.specs.Blank.{IsBlank, IsFresh}
use Rattle.desk_areas.specs.Layout.{IsOpen}
use Rattle.command_files.specs.HexFiles.{secret_at}
use Rattle.command_files.specs.Endings.{Ending, EndsReading}
use Rattle.command_files.specs.declared.fault.Fault.{Fault}
use Rattle.command_files.specs.declared.fault.Fault.TheVariants.{Held}
use Rattle.command_files.specs.declared.ended.Conclusion.{Conclusion}
use Rattle.command_files.specs.declared.ended.Conclusion.TheVariants.{Done}
use Rattle.owner_commands.specs.Names.{HasDistinctNames}
use Rattle.owner_commands.specs.Signing.{StaysRefused}

-- the public key of a secret and a type, in lower-case hex, and a line end
abbrev pub key_line : ℕ → List ℕ → List ℕ
key_line kind secret = encode_lower (public_key (key_from kind secret)) ++ codes "\n"

-- `key` with a secret: the line of the public key if the disk holds no key, else a refusal
abbrev pub EndsKey : Option (List ℕ) → ℕ → List ℕ → Ending
EndsKey content kind secret (Ok Done) text = ForSome content (λ c. IsOpen c → ⊥) ×
    (text ≡ key_line kind secret)
EndsKey content kind secret (Err Held) text = ForSome content IsOpen × (text ≡ [])
EndsKey content kind secret outcome text = ⊥

-- the same over the hex file of a secret
abbrev pub ends_key : Option (List ℕ) → List ℕ → ℕ → Folder → Ending
ends_key content secret kind folder = EndsReading (secret_at folder secret) (EndsKey content kind)

-- The key of the file's secret is in every image: the gate is open, the block is that of the secret and the
-- type, and no slot is spent. If no file is known, it is the key of some secret.
pub record MakesKey {D : Type 0} (g : Ghosts D) (disk : D) (files : Option Folder)
    (name : List ℕ) (kind : ℕ) : Type 0 where
  pub secret : List ℕ
  pub of_file : IfSome files (λ folder. secret_at folder name ≡ Ok secret)
  pub blank : EachImage g disk (IsBlank (key_from kind secret))
  pub names : EachImage g disk HasDistinctNames

-- from some moment on, each image has a closed gate, or the whole block of the file's secret and no spent slot;
-- before that moment each image is one from the entry
pub record MakesByFile {D : Type 0} (g : Ghosts D) (old new : D) (files : Option Folder)
    (name : List ℕ) (kind : ℕ) : Type 0 where
  pub secret : List ℕ
  pub of_file : IfSome files (λ folder. secret_at folder name ≡ Ok secret)
  pub turns : Turns g.clock g.image_at old new (IsFresh (key_from kind secret))

-- A key is made if the disk holds none, and nothing changes if it holds one. Only the key of the file's
-- secret is ever made, and a refusal changes no image.
pub record KeepsKey {D : Type 0} (g : Ghosts D) (old new : D) (files : Option Folder)
    (secret : List ℕ) (kind : ℕ) (outcome : Result Conclusion Fault) : Type 0 where
  pub made : OnOk outcome (MakesKey g new files secret kind)
  pub held : ForSome (g.content old) IsOpen → AtEachMoment g old new Stays
  pub kept : ForSome (still_told g old new) (λ c. IsOpen c → outcome ≢ Ok Done)
  pub moments : AtEachMoment g old new Stays ⊎ MakesByFile g old new files secret kind
  pub untouched : IfErr outcome (StaysRefused g old new)
