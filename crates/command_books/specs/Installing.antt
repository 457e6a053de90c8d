-- How a command ends if it builds a book, and if it cannot build one.
use Rattle.std.specs.Prelude.{◌≡◌, ◌≢◌, ◌⊎◌, ℕ, List, []}
use Rattle.std.specs.declared.result.Result.{Result}
use Rattle.std.specs.declared.result.Result.TheVariants.{Ok, Err}
use Rattle.sha2.specs.Sha256.{sha256}
use Rattle.road_map.specs.declared.parts.Parts.{Parts}
use Rattle.book_model.specs.declared.settings.Settings.{Settings}
use Rattle.proof_octets.specs.declared.header.Header.{Header}
use Rattle.proof_octets.specs.declared.publication.Publication.{Publication}
use Rattle.route_server.specs.Headers.{HasHeader, Makes}
use Rattle.route_server.specs.declared.errors.BuildError.{BuildError}
use Rattle.route_server.specs.declared.errors.BuildError.TheVariants as build
use Rattle.command_files.specs.Endings.{Ending}
use Rattle.command_files.specs.declared.fault.Fault.{Fault}
use Rattle.command_files.specs.declared.fault.Fault.TheVariants.{Map, Plan, HeaderWrong, Memory}
use Rattle.command_files.specs.declared.ended.Conclusion.{Conclusion}

-- the reason why there is no book, as the fault of a run
abbrev pub fault_of_build : BuildError → Fault
fault_of_build (build.Map e) = Map e
fault_of_build (build.Plan e) = Plan e
fault_of_build (build.Memory none) = Memory none

-- the results that follow a header, or the first reason why there is no header
abbrev pub AfterBuild : (Header → Ending) → Result Header BuildError → Ending
AfterBuild Next (Ok h) outcome text = Next h outcome text
AfterBuild Next (Err (build.Memory _)) outcome text = ⊥
AfterBuild Next (Err e) outcome text = (outcome ≡ Err (fault_of_build e)) × (text ≡ [])

-- parts and settings have a header, and the rest of the command follows; or they have none, for the first reason
-- that applies
pub record EndsBuilding (parts : Parts) (s : Settings) (Next : Header → Ending)
    (outcome : Result Conclusion Fault) (text : List ℕ) : Type 0 where
  pub made : Result Header BuildError
  pub makes : Makes sha256 sha256 parts s made
  pub follows : AfterBuild Next made outcome text

-- the header is the publication's, and the rest of the command follows; or it is another one
abbrev pub IfInstalled : Publication → Ending → Header → Ending
IfInstalled p Next h outcome text =
    ((h ≡ p.header) × Next outcome text) ⊎
    ((h ≢ p.header) × (outcome ≡ Err HeaderWrong) × (text ≡ []))

-- a publication is installed, and the rest of the command follows; or the first reason why it is not installed
abbrev pub EndsInstalling : Publication → Ending → Ending
EndsInstalling p Next = EndsBuilding p.parts p.settings (IfInstalled p Next)

-- the publication's header is that of the book of its parts and settings
abbrev pub IsInstallable : Publication → Type 0
IsInstallable p = HasHeader sha256 sha256 p.parts p.settings p.header
