-- The guard in the files of a service, and whether the first publication passes its tests.
use Rattle.std.specs.Prelude.{◌≡◌, ◌≢◌, ◌≤◌, ℕ, List, length, IfSome}
use Rattle.std.specs.declared.option.Option.{Option}
use Rattle.std.specs.declared.option.Option.TheVariants.{None, Some}
use Rattle.std.specs.declared.result.Result.{Result}
use Rattle.std.specs.declared.result.Result.TheVariants.{Ok, Err}
use Rattle.road_io.specs.Contents.{Folder}
use Rattle.lms_tree.specs.declared.links.Link.{Link}
use Rattle.proof_octets.specs.declared.publication.Publication.{Publication}
use Rattle.route_client.specs.declared.errors.CheckError.{CheckError}
use Rattle.route_client.specs.Verdicts.{header_tested}
use Rattle.road_line.specs.VerdictLine.{refused_line}
use Rattle.route_service.specs.declared.guard.Guard.{Guard}
use Rattle.route_service.specs.declared.guard.Guard.TheVariants.{Open, Signed}
use Rattle.command_files.specs.Reading.{publication_at, chain_at}
use Rattle.command_files.specs.HexFiles.{public_key_at}
use Rattle.command_files.specs.Endings.{Ending}
use Rattle.command_files.specs.declared.fault.Fault.{Fault}
use Rattle.command_files.specs.declared.ended.Conclusion.TheVariants.{Refused}

-- the names of a service's files: the first publication's and, if the service is guarded, the public key's and, if
-- given, the chain's
pub record ServeFiles : Type 0 where
  pub publication : List ℕ
  pub guard : Option (List ℕ × Option (List ℕ))

abbrev pub unguarded : List ℕ → ServeFiles
unguarded publication = record { publication = publication; guard = None }

abbrev pub guarded : List ℕ → List ℕ → Option (List ℕ) → ServeFiles
guarded publication key chain = record { publication = publication; guard = Some (key, chain) }

-- the key is read before the chain
abbrev pub signed_of : Result (List ℕ) Fault → Result (List Link) Fault → Result Guard Fault
signed_of (Ok key) (Ok links) = Ok (Signed key links)
signed_of (Ok key) (Err fault) = Err fault
signed_of (Err fault) links = Err fault

-- the guard in the files with these names
abbrev pub guard_at : Folder → Option (List ℕ × Option (List ℕ)) → Result Guard Fault
guard_at folder None = Ok Open
guard_at folder (Some names) = signed_of (public_key_at folder names.0) (chain_at folder names.1)

-- the files with these names hold this publication and this guard
abbrev pub Holds : ServeFiles → Guard → Publication → Folder → Type 0
Holds files guard p folder =
    (publication_at folder files.publication ≡ Ok p) × (guard_at folder files.guard ≡ Ok guard)

-- the guard is open exactly if no public key is given
abbrev pub IsAsNamed : Option (List ℕ × Option (List ℕ)) → Guard → Type 0
IsAsNamed names Open = names ≡ None
IsAsNamed names (Signed key links) = names ≢ None

-- this holds for any files with these contents, if a library states its files
abbrev pub OverFiles : Guard → Publication → (Option Folder → ServeFiles → Type 0) → Type 0
OverFiles guard p Q = (files : Option Folder) (named : ServeFiles) → IsAsNamed named.guard guard →
    IfSome files (Holds named guard p) → Q files named

-- the client's tests of a header, whatever its version: each link of the chain is signed, and the header is signed
-- along the chain
abbrev pub tested : Guard → Publication → Result (Unit {0}) CheckError
tested Open p = Ok tt
tested (Signed key links) p = header_tested key links 0 p.header p.signature

-- if the tests pass, the rest of the command follows; otherwise the result is the line that `check` would write for
-- the first test that fails
abbrev pub EndsTesting : Result (Unit {0}) CheckError → Ending → Ending
EndsTesting (Ok passed) Next outcome text = Next outcome text
EndsTesting (Err why) Next outcome text = (outcome ≡ Ok Refused) × (text ≡ refused_line why)

-- that line, or none if all tests pass
abbrev pub refusal_line : Result (Unit {0}) CheckError → Option (List ℕ)
refusal_line (Ok passed) = None
refusal_line (Err why) = Some (refused_line why)

-- its chain is at most as long as a client allows
abbrev pub IsFollowed : Guard → Type 0
IsFollowed Open = Unit {0}
IsFollowed (Signed key links) = length links ≤ 7
