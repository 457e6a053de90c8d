-- The requirements of a run for each command. A command is one clause of `form_of`, and each requirement is one
-- field.
use Rattle.std.specs.Prelude.{ℕ, List, [], ◌∷◌, IfErr}
use Rattle.std.specs.declared.option.Option.{Option}
use Rattle.std.specs.declared.result.Result.{Result}
use Rattle.road_io.specs.declared.disk.Disk.{Ghosts}
use Rattle.road_io.specs.Contents.{Folder}
use Rattle.road_io.specs.Disk.{Stays}
use Rattle.road_io.specs.Moments.{AtEachMoment, still_told}
use Rattle.desk_areas.specs.Calls.{CalledUpTo}
use Rattle.book_model.specs.declared.settings.Settings.{Settings}
use Rattle.road_command.specs.Requests.{Request, Route, Root, Dimacs, Key, Succeed, Links, Desk, Publish, Prove, Serve, ServeSigned, Check, Audit, Survey, Reach, CheckReach, AuditReach, Reduce}
use Rattle.command_files.specs.Endings.{Ending, TellsNone}
use Rattle.command_files.specs.Asking.{if_named}
use Rattle.command_files.specs.declared.fault.Fault.{Fault}
use Rattle.command_files.specs.declared.ended.Conclusion.{Conclusion}
use Rattle.client_commands.specs.Checking.{ends_check}
use Rattle.client_commands.specs.NearChecking.{ends_check_reach}
use Rattle.map_commands.specs.RouteLine.{ends_route}
use Rattle.map_commands.specs.RootLine.{ends_root}
use Rattle.map_commands.specs.DimacsFiles.{ends_dimacs}
use Rattle.server_commands.specs.Proving.{TellsEnds, ends_prove}
use Rattle.server_commands.specs.NearReaching.{ends_reach}
use Rattle.server_commands.specs.Guarding.{ServeFiles, guarded, unguarded}
use Rattle.server_commands.specs.Serving.{TellsFrames, ends_serve}
use Rattle.owner_commands.specs.Calls.{most_publish_calls}
use Rattle.owner_commands.specs.OwnerKey.{KeepsKey, ends_key}
use Rattle.owner_commands.specs.NextKey.{AddsKey, ends_succession}
use Rattle.owner_commands.specs.ChainLine.{EndsLinks}
use Rattle.owner_commands.specs.OwnerDesk.{EndsDesk}
use Rattle.owner_commands.specs.StandingKeys.{ChainsWhatItWrites}
use Rattle.owner_commands.specs.Publishing.{TellsLost, ends_publish}
use Rattle.owner_commands.specs.Signing.{SealsWhatItWrites, SignsAtMostOne, StaysRefused}
use Rattle.audit_commands.specs.Auditing.{ends_audit}
use Rattle.audit_commands.specs.Headline.{ClashIn, IsBrought, WritesFindings, AuditsAccepted}
use Rattle.audit_commands.specs.Reducing.{ends_reduce}
use Rattle.audit_commands.specs.Unreleased.{WritesReduced}
use Rattle.route_audit.specs.Kinds.{ReplyKind}
use Rattle.route_audit.specs.Routes.{routes}
use Rattle.route_audit.specs.Radii.{radii}
use Rattle.route_survey.specs.Surveying.{EndsSurvey}
use Rattle.road_line.specs.WithinLine.{refused_near_line}
use Rattle.road_line.specs.VerdictLine.{refused_line}

-- the objects that a command uses besides its arguments and the sink; only `serve` uses the source, for a
-- service over these files
pub data Uses : Type 0 where
  ArgumentsAlone : Uses
  FilesAlone : Uses
  DiskAlone : Uses
  FilesAndDisk : Uses
  FilesAndSource : ServeFiles → Uses

-- whether a command hands anything to the mirrors, and what it hands
pub data ToMirrors : Type 0 where
  LeavesMirrors : ToMirrors
  HandsPublication : ToMirrors

-- The effect of a command on the owner's disk, and what the command then reports about it. Both are given by the
-- disk before and after, the files, the octets that the sink had taken before and after, and the outcome.
abbrev pub DiskPromise : Type 1
DiskPromise = (D : Type 0) → Ghosts D → D → D → Option Folder → Option (List ℕ) → Option (List ℕ) →
    Result Conclusion Fault → Type 0

-- A command, by a run's requirements for it. Its result depends on the files and, if known, on the disk's contents;
-- under `serve` also on the source's input, which `ServesFrames` covers.
pub record Form : Type 1 where
  -- the objects that it uses besides its arguments and the sink
  pub uses : Uses
  -- the names of files in its arguments, in their order, without the owner's disk
  pub names : List (List ℕ)
  -- the outcomes that the disk's contents and the files allow, and the text of each
  pub ends : Option (List ℕ) → Folder → Ending
  -- the faults that it reports to its client by a text
  pub tells : Fault → Type 0
  -- its effect on the owner's disk
  pub on_disk : DiskPromise
  -- what it hands to the mirrors
  pub to_mirrors : ToMirrors

-- ---- the effects of commands on the owner's disk

-- no image changes
abbrev pub disk_stays : DiskPromise
disk_stays D g old new files taken_before taken_now outcome = AtEachMoment g old new Stays

-- `key` makes a key if there is none
abbrev pub makes_key : List ℕ → ℕ → DiskPromise
makes_key secret kind D g old new files taken_before taken_now outcome = KeepsKey g old new files
    secret kind outcome

-- `succeed` adds the next key
abbrev pub adds_key : List ℕ → ℕ → DiskPromise
adds_key secret kind D g old new files taken_before taken_now outcome = AddsKey g old new files
    secret kind outcome

-- `links` writes the chain that is on the disk
abbrev pub chains_keys : DiskPromise
chains_keys D g old new files taken_before taken_now outcome = AtEachMoment g old new Stays ×
    ChainsWhatItWrites g new taken_before taken_now outcome

-- `publish` signs at most one header, and writes the publication that it sealed
abbrev pub seals_header : List ℕ → Settings → DiskPromise
seals_header roads settings D g old new files taken_before taken_now outcome =
    SealsWhatItWrites g old new taken_before taken_now outcome ×
    SignsAtMostOne g old new files roads settings × IfErr outcome (StaysRefused g old new) ×
    CalledUpTo most_publish_calls (g.calls old) (g.calls new)

-- `reduce` writes a collision, or a value that the disk never released
abbrev pub reduces_text : List ℕ → List ℕ → DiskPromise
reduces_text text signature D g old new files taken_before taken_now outcome =
    AtEachMoment g old new Stays ×
    WritesReduced g new files text signature taken_before taken_now outcome

-- an audit of a reply of this kind finds the support of its line, and the headline holds: the accepted result is
-- true, or there is evidence
abbrev pub audits_reply : {Q A X E : Type 0} → ReplyKind Q A X E → List ℕ → List ℕ → List ℕ → Q →
    Option (List ℕ) → DiskPromise
audits_reply kind key publication reply q chain D g old new files taken_before taken_now outcome =
    AtEachMoment g old new Stays ×
    WritesFindings g new (IsBrought kind) (ClashIn kind) key publication reply chain files
    taken_before taken_now outcome ×
    AuditsAccepted kind g (still_told g old new) new key publication reply q chain files
    taken_before taken_now outcome

-- ---- the common kinds

-- a command that uses only its arguments and writes to the sink
abbrev pub over_arguments : Ending → Form
over_arguments ends = record {
  uses = ArgumentsAlone;
  names = [];
  ends = λ content folder. ends;
  tells = TellsNone;
  on_disk = disk_stays;
  to_mirrors = LeavesMirrors;
}

-- a command over files with these names
abbrev pub over_files : List (List ℕ) → (Folder → Ending) → Form
over_files names ends = record {
  uses = FilesAlone;
  names = names;
  ends = λ content. ends;
  tells = TellsNone;
  on_disk = disk_stays;
  to_mirrors = LeavesMirrors;
}

-- a command over the owner's disk
abbrev pub over_disk : (Option (List ℕ) → Ending) → DiskPromise → Form
over_disk ends on_disk = record {
  uses = DiskAlone;
  names = [];
  ends = λ content folder. ends content;
  tells = TellsNone;
  on_disk = on_disk;
  to_mirrors = LeavesMirrors;
}

-- a command over files with these names and the owner's disk
abbrev pub over_files_and_disk : List (List ℕ) → (Option (List ℕ) → Folder → Ending) →
    DiskPromise → Form
over_files_and_disk names ends on_disk = record {
  uses = FilesAndDisk;
  names = names;
  ends = ends;
  tells = TellsNone;
  on_disk = on_disk;
  to_mirrors = LeavesMirrors;
}

-- a service over files with these names, which answers the frames of the source
abbrev pub over_source : ServeFiles → List (List ℕ) → Form
over_source named names = record {
  uses = FilesAndSource named;
  names = names;
  ends = λ content. ends_serve named;
  tells = TellsFrames;
  on_disk = disk_stays;
  to_mirrors = LeavesMirrors;
}

-- ---- each command

abbrev pub form_of : Request → Form
form_of (Route roads from to) = over_files (roads ∷ []) (ends_route roads from to)
form_of (Root roads fan) = over_files (roads ∷ []) (ends_root roads fan)
form_of (Dimacs graph places) = over_files (graph ∷ places ∷ []) (ends_dimacs graph places)
form_of (Key secret kind) =
    over_files_and_disk (secret ∷ []) (λ content. ends_key content secret kind)
    (makes_key secret kind)
form_of (Succeed secret kind) =
    over_files_and_disk (secret ∷ []) (λ content. ends_succession content secret kind)
    (adds_key secret kind)
form_of Links = over_disk EndsLinks chains_keys
form_of Desk = over_disk EndsDesk disk_stays
form_of (Publish roads settings) =
    record (over_files_and_disk (roads ∷ []) (λ content. ends_publish content roads settings)
    (seals_header roads settings)) { tells = TellsLost; to_mirrors = HandsPublication }
form_of (Prove publication q) =
    record (over_files (publication ∷ []) (ends_prove publication q)) { tells = TellsEnds }
form_of (Serve publication) = over_source (unguarded publication) (publication ∷ [])
form_of (ServeSigned publication key chain) =
    over_source (guarded publication key chain) (publication ∷ key ∷ if_named chain)
form_of (Check key reply q least chain) =
    over_files (key ∷ reply ∷ if_named chain) (ends_check key reply q least chain)
form_of (Audit key publication reply q chain) =
    over_files_and_disk (key ∷ publication ∷ reply ∷ if_named chain)
    (λ content. ends_audit routes refused_line content key publication reply q chain)
    (audits_reply routes key publication reply q chain)
form_of (Survey width seed method queries) =
    over_arguments (EndsSurvey width seed method queries)
form_of (Reach publication q) = over_files (publication ∷ []) (ends_reach publication q)
form_of (CheckReach key reply q least chain) =
    over_files (key ∷ reply ∷ if_named chain) (ends_check_reach key reply q least chain)
form_of (AuditReach key publication reply q chain) =
    over_files_and_disk (key ∷ publication ∷ reply ∷ if_named chain)
    (λ content. ends_audit radii refused_near_line content key publication reply q chain)
    (audits_reply radii key publication reply q chain)
form_of (Reduce key text signature) =
    over_files_and_disk (key ∷ text ∷ signature ∷ [])
    (λ content. ends_reduce content key text signature) (reduces_text text signature)
