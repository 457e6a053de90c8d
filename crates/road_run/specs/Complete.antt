-- When a run does its work: no outside object fails, and nothing in the files, on the disk or in the source
-- prevents it.
use Rattle.std.specs.Prelude.{◌≡◌, ◌≢◌, ◌⊎◌, ℕ, List, Contains}
use Rattle.std.specs.declared.option.Option.{Option}
use Rattle.std.specs.declared.option.Option.TheVariants.{None, Some}
use Rattle.std.specs.declared.result.Result.{Result}
use Rattle.std.specs.declared.result.Result.TheVariants.{Ok, Err}
use Rattle.std.specs.Io.KnownBytes.{Appends}
use Rattle.road_io.specs.declared.disk.Disk.{Ghosts}
use Rattle.road_io.specs.Causes.{Rose}
use Rattle.road_io.specs.Contents.{Folder}
use Rattle.mirror_out.specs.Mirrors.{PromisedLess}
use Rattle.publication_out.specs.Sent.{pieces_in}
use Rattle.proof_octets.specs.declared.publication.Publication.{Publication}
use Rattle.proof_octets.specs.Publications.{publication_text}
use Rattle.owner_commands.specs.Signing.{StandsOnDisk}
use Rattle.route_service.specs.Inputs.{split}
use Rattle.road_command.specs.Requests.{Request, Prove}
use Rattle.command_books.specs.Installing.{IsInstallable}
use Rattle.command_files.specs.Reading.{publication_at}
use Rattle.near_proof.specs.Honest.{AreKnown}
use Rattle.command_files.specs.Endings.{Ending, NoEnd}
use Rattle.command_files.specs.Outcomes.{status_of}
use Rattle.command_files.specs.declared.fault.Fault.{Fault}
use Rattle.command_files.specs.declared.fault.Fault.TheVariants.{Library}
use Rattle.command_files.specs.declared.ended.Conclusion.{Conclusion}
use Rattle.server_commands.specs.Guarding.{ServeFiles}
use Rattle.server_commands.specs.Serving.{ends_serving, most_octets, most_frames}
use Rattle.road_run.specs.Forms.{Uses, FilesAndSource, ToMirrors, LeavesMirrors, HandsPublication, form_of}
use Rattle.road_run.specs.Commands.{Ends, IsToldOver}
use Rattle.road_run.specs.Accepting.{IsTaken, WritesAccepted}

-- The sink and the disk did not fail, and the run does not end with a failure of the library. Its library may have
-- counted a file that is missing or too long as a failure: a run ends with that file's own fault.
pub record NoneElseFailed (outcome : Result Conclusion Fault)
    (sink_before sink_now disk_before disk_now : ℕ) : Type 0 where
  pub library_gave : outcome ≢ Err Library
  pub sink_stays : ¬ Rose sink_before sink_now
  pub disk_stays : ¬ Rose disk_before disk_now

-- the outcomes of `serve` that the files of a service and the rest of the source require
abbrev pub ServesLeft : Option (List ℕ) → ServeFiles → Folder → Ending
ServesLeft (Some text) named folder = ends_serving named (split most_octets most_frames text) folder
ServesLeft None named folder = NoEnd

-- the same for a command with these uses, whose result the files and the disk alone determine
abbrev pub CallsOver : Uses → Option (List ℕ) → Folder → Ending → Ending
CallsOver (FilesAndSource named) left folder alone = ServesLeft left named folder
CallsOver uses left folder alone = alone

-- the outcomes that the files, the disk and the rest of the source require
abbrev pub CallsFor : Option (List ℕ) → Option (List ℕ) → Request → Folder → Ending
CallsFor content left request folder = CallsOver (form_of request).uses left folder
    (Ends content request folder)

-- everything on which the result of a command with these uses depends is known
abbrev pub AreToldOver : Uses → Option (List ℕ) → Option (List ℕ) → Type 0
AreToldOver (FilesAndSource named) content left = left ≢ None
AreToldOver uses content left = IsToldOver uses content

-- everything on which a result depends is known: under `serve` the rest of the source, and under other commands the
-- disk's contents, if they use the disk
abbrev pub AreTold : Option (List ℕ) → Option (List ℕ) → Request → Type 0
AreTold content left request = AreToldOver (form_of request).uses content left

-- the statuses of what prevents the work: a file (3), no remaining one-time key (8), a desk that does not open or
-- takes no key (12), too many frames (13)
abbrev pub Hinders : ℕ → Type 0
Hinders status = (status ≡ 3) ⊎ (status ≡ 8) ⊎ (status ≡ 12) ⊎ (status ≡ 13)

-- no condition for such a status holds
abbrev pub IsUnhindered : Ending → Type 0
IsUnhindered Ends = (outcome : Result Conclusion Fault) (text : List ℕ) → Ends outcome text →
    ¬ Hinders (status_of outcome)

-- the statuses of work that was done (0, 1, 10, 11 and 14), and of out of memory (9)
abbrev pub Answers : ℕ → Type 0
Answers status = (status ≡ 0) ⊎ (status ≡ 1) ⊎ (status ≡ 10) ⊎ (status ≡ 11) ⊎ (status ≡ 14) ⊎
    (status ≡ 9)

-- No mirror had promised fewer puts or octets than the publication handed to it needs. This is the publication
-- whose header is on the disk, and whose octets the sink took.
abbrev pub PromisedFor : {M D : Type 0} → (M → ℕ) → (M → ℕ) → Ghosts D → D → D → ToMirrors →
    Option (List ℕ) → Option (List ℕ) → List M → Type 0
PromisedFor puts room g old new LeavesMirrors taken_before taken_now mirrors = Unit {0}
PromisedFor {M} puts room g old new HandsPublication taken_before taken_now mirrors =
    (p : Publication) → StandsOnDisk g old new p →
    Appends taken_before taken_now (publication_text p) → (m : M) → Contains mirrors m →
    ¬ PromisedLess (pieces_in (publication_text p)) (publication_text p) (puts m) (room m)

-- Under `publish` the mirrors had promised enough. Other commands require nothing of mirrors.
abbrev pub PromisedEnough : {M D : Type 0} → (M → ℕ) → (M → ℕ) → Ghosts D → D → D → Request →
    Option (List ℕ) → Option (List ℕ) → List M → Type 0
PromisedEnough puts room g old new request taken_before taken_now mirrors =
    PromisedFor puts room g old new (form_of request).to_mirrors taken_before taken_now mirrors

-- if nothing prevents the work and the mirrors promised enough, the work is done, or memory runs out
abbrev pub IsComplete : Ending → Type 0 → Result Conclusion Fault → Type 0
IsComplete Ends Enough outcome = IsUnhindered Ends → Enough → Answers (status_of outcome)

-- over a publication file whose header matches its map and settings, `prove` writes octets that are accepted, if
-- both ends are nodes, unless memory runs out or an outside object fails
abbrev pub ProvesKnown : Request → Option Folder → Option (List ℕ) → Option (List ℕ) →
    Result Conclusion Fault → Type 0
ProvesKnown (Prove file q) (Some folder) old new outcome = (p : Publication) →
    publication_at folder file ≡ Ok p → IsInstallable p → AreKnown p.parts q →
    WritesAccepted (IsTaken p q) old new outcome
ProvesKnown request files old new outcome = Unit {0}
