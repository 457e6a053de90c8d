-- How each command ends, given its files, and the guarantees of a run.
use Rattle.std.specs.Prelude.{◌≡◌, ◌≢◌, ◌⊎◌, ◌↔◌, ℕ, List, IfSome, IfNone}
use Rattle.std.specs.declared.option.Option.{Option}
use Rattle.std.specs.declared.option.Option.TheVariants.{None, Some}
use Rattle.std.specs.declared.result.Result.{Result}
use Rattle.std.specs.declared.result.Result.TheVariants.{Ok, Err}
use Rattle.std.specs.Io.KnownBytes.{Keeps}
use Rattle.road_io.specs.declared.disk.Disk.{Ghosts}
use Rattle.road_io.specs.Causes.{Rose}
use Rattle.road_io.specs.Contents.{Folder}
use Rattle.road_io.specs.Disk.{Stays}
use Rattle.road_io.specs.Moments.{AtEachMoment, still_told}
use Rattle.key_desk.specs.Stands.{KeepsStanding}
use Rattle.road_command.specs.Requests.{Request}
use Rattle.command_files.specs.Endings.{Ending, Promises}
use Rattle.command_files.specs.declared.fault.Fault.{Fault}
use Rattle.command_files.specs.declared.fault.Fault.TheVariants.{Words, MirrorLost}
use Rattle.command_files.specs.declared.ended.Conclusion.{Conclusion}
use Rattle.command_files.specs.declared.ended.Conclusion.TheVariants.{Done}
use Rattle.owner_commands.specs.Signing.{SealsWhatItMirrors, SpreadSealed}
use Rattle.road_run.specs.Forms.{Uses, ArgumentsAlone, FilesAlone, DiskAlone, FilesAndDisk, FilesAndSource, ToMirrors, LeavesMirrors, HandsPublication, form_of}

-- The outcomes that the files and the disk's contents allow for a command, and the text that it then writes. Under
-- `serve` the result also depends on the source's input, which `ServesFrames` covers.
abbrev pub Ends : Option (List ℕ) → Request → Folder → Ending
Ends content request folder = (form_of request).ends content folder

-- a folder without a file
abbrev pub no_files : Folder
no_files name = None

-- the files on which a command that uses these objects depends
abbrev pub files_over : Uses → Option Folder → Option Folder
files_over ArgumentsAlone files = Some no_files
files_over DiskAlone files = Some no_files
files_over uses files = files

-- The files on which a command depends, if its library states them. A command that loads no file ends in the same
-- way over every library, even one that states nothing, as over one without files.
abbrev pub files_for : Request → Option Folder → Option Folder
files_for request files = files_over (form_of request).uses files

-- the faults that a command reports to its client by a text
abbrev pub TellsClient : Request → Fault → Type 0
TellsClient request = (form_of request).tells

-- the effect of a command on the owner's disk, and what the command then reports about it
abbrev pub OnDisk : {D : Type 0} → Ghosts D → D → D → Request → Option Folder → Option (List ℕ) →
    Option (List ℕ) → Result Conclusion Fault → Type 0
OnDisk {D} g old new request files taken_before taken_now outcome =
    (form_of request).on_disk D g old new files taken_before taken_now outcome

-- M is a mirror; octets, label, handed, puts and room give its contents, its label, the number of pieces it
-- was handed, and its promises
module _ {M : Type 0} (octets : M → Option (List ℕ)) (label handed puts room : M → ℕ) where
  -- the mirrors are unchanged, or were handed the sealed publication
  abbrev pub Hands : {D : Type 0} → Ghosts D → D → D → ToMirrors → Option (List ℕ) →
      Option (List ℕ) → List M → List M → Result Conclusion Fault → Type 0
  Hands g before now LeavesMirrors taken_before taken_now old kept outcome = kept ≡ old
  Hands g before now HandsPublication taken_before taken_now old kept outcome =
      SealsWhatItMirrors octets label handed puts room g before now taken_before taken_now old kept
      outcome

  -- the effect of a command on the mirrors; only `publish` changes them
  abbrev pub OnMirrors : {D : Type 0} → Ghosts D → D → D → Option Request → Option (List ℕ) →
      Option (List ℕ) → List M → List M → Result Conclusion Fault → Type 0
  OnMirrors g before now None taken_before taken_now old kept outcome = kept ≡ old
  OnMirrors g before now (Some request) taken_before taken_now old kept outcome =
      Hands g before now (form_of request).to_mirrors taken_before taken_now old kept outcome

  -- the sink and the mirrors are unchanged, or the octets that they took belong to the sealed publication
  abbrev pub HandsSealed : {D : Type 0} → Ghosts D → D → D → ToMirrors → Option (List ℕ) →
      Option (List ℕ) → List M → List M → Result Conclusion Fault → Type 0
  HandsSealed g before now LeavesMirrors taken_before taken_now old kept outcome = Unit {0}
  HandsSealed g before now HandsPublication taken_before taken_now old kept outcome =
      (Keeps taken_before taken_now × (kept ≡ old)) ⊎
      SpreadSealed octets label handed puts room g before now taken_before taken_now old kept
      outcome

  -- Nothing is written before the slot is synced. After `publish`, the sink and the mirrors are unchanged, or the
  -- octets that they took belong to one publication, whose header is in its slot in every image of the disk.
  abbrev pub WritesBehindSync : {D : Type 0} → Ghosts D → D → D → Option Request →
      Option (List ℕ) → Option (List ℕ) → List M → List M → Result Conclusion Fault → Type 0
  WritesBehindSync g before now None taken_before taken_now old kept outcome = Unit {0}
  WritesBehindSync g before now (Some request) taken_before taken_now old kept outcome =
      HandsSealed g before now (form_of request).to_mirrors taken_before taken_now old kept outcome

-- The objects that a command with these uses leaves unchanged. Each of library, source and disk states that one
-- object is unchanged.
abbrev pub LeavesBeside : Uses → (library source disk : Type 0) → Type 0
LeavesBeside ArgumentsAlone library source disk = library × source × disk
LeavesBeside FilesAlone library source disk = source × disk
LeavesBeside DiskAlone library source disk = library × source
LeavesBeside FilesAndDisk library source disk = source
LeavesBeside (FilesAndSource named) library source disk = disk

-- The objects that a command does not use are unchanged; arguments that fit no command use nothing. Each of
-- library, source, sink and disk states that one object is unchanged.
abbrev pub LeavesUnused : Option Request → (library source sink disk : Type 0) → Type 0
LeavesUnused None library source sink disk = library × source × sink × disk
LeavesUnused (Some request) library source sink disk =
    LeavesBeside (form_of request).uses library source disk

-- arguments that fit no command leave everything unchanged
pub record LeavesAll {D : Type 0} (g : Ghosts D) (old new : D)
    (taken_before taken_now : Option (List ℕ)) : Type 0 where
  pub silent : Keeps taken_before taken_now
  pub disk : AtEachMoment g old new Stays

-- the guarantees of a run, by the command that its arguments request
pub record RunPromises {D : Type 0} (g : Ghosts D) (old new : D) (asked : Option Request)
    (files : Option Folder) (library_before library_now : ℕ)
    (taken_before taken_now : Option (List ℕ)) (sink_before sink_now : ℕ)
    (outcome : Result Conclusion Fault) : Type 0 where
  pub words : (outcome ≡ Err Words) ↔ (asked ≡ None)
  pub nothing : IfNone asked (LeavesAll g old new taken_before taken_now)
  pub command : IfSome asked (λ request.
      Promises (Ends (still_told g old new) request) (TellsClient request)
      (Rose (g.faults old) (g.faults new)) (files_for request files) library_before library_now
      taken_before taken_now sink_before sink_now outcome)
  pub on_disk : IfSome asked (λ request.
      OnDisk g old new request files taken_before taken_now outcome)
  pub stands : KeepsStanding g old new

-- what must be known about the disk so that the result of a command with these uses is exact
abbrev pub IsToldOver : Uses → Option (List ℕ) → Type 0
IsToldOver DiskAlone content = content ≢ None
IsToldOver FilesAndDisk content = content ≢ None
IsToldOver (FilesAndSource named) content = ⊥
IsToldOver uses content = Unit {0}

-- What must be known about the disk so that a result is exact: its contents, for a command that uses the disk. The
-- files and the disk do not determine the result of `serve`.
abbrev pub IsTold : Request → Option (List ℕ) → Type 0
IsTold request content = IsToldOver (form_of request).uses content

-- How the work ended, apart from the mirrors: it was also done if a mirror was lost.
abbrev pub but_for_mirrors : Result Conclusion Fault → Result Conclusion Fault
but_for_mirrors (Err MirrorLost) = Ok Done
but_for_mirrors outcome = outcome
