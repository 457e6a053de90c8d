-- The output of `succeed`, and its effect on the owner's disk.
use Rattle.std.specs.Prelude.{◌≡◌, ◌⊎◌, ℕ, List, [], take, IfSome, IfErr}
use Rattle.std.specs.declared.option.Option.{Option}
use Rattle.std.specs.declared.result.Result.{Result}
use Rattle.std.specs.declared.result.Result.TheVariants.{Ok, Err}
use Rattle.std.specs.Option.{ForSome}
use Rattle.road_io.specs.declared.disk.Disk.{Ghosts}
use Rattle.road_io.specs.Disk.{Stays}
use Rattle.road_io.specs.Moments.{EachImage, AtEachMoment}
use Rattle.road_io.specs.Contents.{Folder}
use Rattle.lms_tree.specs.Signatures.{KeyOf, public_key}
use Rattle.lms_tree.specs.Links.{link_text}
use Rattle.desk_areas.specs.Calls.{CalledUpTo}
use Rattle.desk_areas.specs.Keys.{key_from}
use Rattle.desk_areas.specs.Layout.{base_of}
use Rattle.key_desk.specs.Stands.{SameKeys}
use Rattle.key_desk.specs.Succession.{IsUnspent, RaisesNext, SignsLink, Refuses}
use Rattle.key_desk.specs.declared.succeed.SucceedError.{SucceedError}
use Rattle.key_desk.specs.declared.succeed.SucceedError.TheVariants as why
use Rattle.command_desks.specs.Opening.{IsKeyOn}
use Rattle.command_files.specs.HexFiles.{secret_at}
use Rattle.command_files.specs.Endings.{Ending, EndsReading}
use Rattle.command_files.specs.declared.fault.Fault.{Fault}
use Rattle.command_files.specs.declared.fault.Fault.TheVariants.{Disk, Memory, NoKey, BadBlock, TooManyKeys, NoSuccession, SameSecret}
use Rattle.command_files.specs.declared.ended.Conclusion.{Conclusion}
use Rattle.command_files.specs.declared.ended.Conclusion.TheVariants.{Done}
use Rattle.owner_commands.specs.Calls.{most_succeed_calls}
use Rattle.owner_commands.specs.OwnerKey.{key_line}
use Rattle.owner_commands.specs.Signing.{OnWriting, StaysRefused}
use Rattle.owner_commands.specs.StandingKeys.{FollowsByFile}

-- the fault of a refused succession
abbrev pub fault_of : SucceedError → Fault
fault_of why.NoKey = NoKey
fault_of why.BadBlock = BadBlock
fault_of why.TooManyKeys = TooManyKeys
fault_of why.NoSuccession = NoSuccession
fault_of why.SameSecret = SameSecret
fault_of why.DiskFault = Disk
fault_of (why.Memory none) = Memory none

-- `succeed` with a secret: the line of the new public key if there is no reason to refuse it, else the first
-- refusal
abbrev pub EndsSuccession : Option (List ℕ) → ℕ → List ℕ → Ending
EndsSuccession content kind secret outcome text =
    ((outcome ≡ Ok Done) × ForSome content
    (λ c. (e : SucceedError) → Refuses c (take 16 secret) e → ⊥) ×
    (text ≡ key_line kind secret))
    ⊎ ((e : SucceedError) × (outcome ≡ Err (fault_of e)) ×
    ForSome content (λ c. Refuses c (take 16 secret) e) × (text ≡ []))

-- the same over the hex file of a secret
abbrev pub ends_succession : Option (List ℕ) → List ℕ → ℕ → Folder → Ending
ends_succession content secret kind folder = EndsReading (secret_at folder secret)
    (EndsSuccession content kind)

-- the last open area has this key; all its octets except the key's type and secret are zero, so no slot of it is
-- spent
pub record IsNextKey (key : KeyOf) (image : List ℕ) : Type 0 where
  pub on_disk : IsKeyOn image key
  pub unspent : IsUnspent key (base_of image on_disk.area) image

-- The same in every image, with the key of the file's secret and the type. If no file is known, it is the
-- key of some secret.
pub record MakesNext {D : Type 0} (g : Ghosts D) (disk : D) (files : Option Folder)
    (name : List ℕ) (kind : ℕ) : Type 0 where
  pub secret : List ℕ
  pub of_file : IfSome files (λ folder. secret_at folder name ≡ Ok secret)
  pub unspent : EachImage g disk (IsNextKey (key_from kind secret))

-- at each moment the images are those at the entry, or the last slot of the current area has also signed the link
-- to the key of the file's secret; only that slot and the octets after its area change
pub record LinksFile {D : Type 0} (g : Ghosts D) (old new : D) (files : Option Folder)
    (name : List ℕ) (kind : ℕ) : Type 0 where
  pub secret : List ℕ
  pub of_file : IfSome files (λ folder. secret_at folder name ≡ Ok secret)
  pub each : AtEachMoment g old new
      (λ d i. (i ≡ d) ⊎ SignsLink (link_text (public_key (key_from kind secret))) d i)
  pub raises : AtEachMoment g old new (λ d i. (i ≡ d) ⊎ RaisesNext (key_from kind secret) d i)

-- A key is added if no refusal applies, and no image changes except by the link to it. The keys of the open areas
-- remain. If a line may have been written, no slot of the new key is spent, and the key follows another key, which
-- has signed its link text. A refusal changes no image. There are at most this many calls to the disk.
pub record AddsKey {D : Type 0} (g : Ghosts D) (old new : D) (files : Option Folder) (name : List ℕ)
    (kind : ℕ) (outcome : Result Conclusion Fault) : Type 0 where
  pub made : OnWriting outcome (MakesNext g new files name kind)
  pub links : AtEachMoment g old new Stays ⊎ LinksFile g old new files name kind
  pub keys : AtEachMoment g old new SameKeys
  pub follows : OnWriting outcome (FollowsByFile g new files name kind)
  pub untouched : IfErr outcome (StaysRefused g old new)
  pub few : CalledUpTo most_succeed_calls (g.calls old) (g.calls new)
