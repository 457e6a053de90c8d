-- Why a publication was not installed.
use Rattle.std.proofs.Common.{◌≡◌, ◌≢◌, inl, inr, ℕ, List, [], refl}
use Rattle.std.specs.declared.result.Result.{Result}
use Rattle.std.specs.declared.result.Result.TheVariants.{Ok, Err}
use Rattle.sha2.specs.Sha256.{sha256}
use Rattle.road_map.specs.declared.parts.Parts.{Parts}
use Rattle.book_model.specs.declared.settings.Settings.{Settings}
use Rattle.proof_octets.specs.declared.header.Header.{Header}
use Rattle.proof_octets.specs.declared.publication.Publication.{Publication}
use Rattle.route_server.specs.Headers.{HasHeader, Makes}
use Rattle.route_server.specs.declared.errors.BuildError.{BuildError}
use Rattle.route_server.specs.declared.errors.BuildError.TheVariants as build
use Rattle.command_files.specs.Endings.{Ending, WhyNot, NoEnd}
use Rattle.command_files.specs.declared.fault.Fault.{Fault}
use Rattle.command_files.specs.declared.fault.Fault.TheVariants.{HeaderWrong}
use Rattle.command_files.specs.declared.ended.Conclusion.{Conclusion}
use Rattle.command_books.specs.Installing.{fault_of_build, AfterBuild, EndsBuilding, IfInstalled, EndsInstalling, IsInstallable}

-- parts and settings without a header
pub no_book : (DiskFailed : Type 0) (parts : Parts) (s : Settings) (Next : Header → Ending) (e : BuildError) → Makes sha256 sha256 parts s (Err e) → WhyNot DiskFailed (EndsBuilding parts s Next) (fault_of_build e)
no_book DiskFailed parts s Next (build.Map e) h = record { made = Err (build.Map e); makes = h; follows = (refl, refl) }
no_book DiskFailed parts s Next (build.Plan e) h = record { made = Err (build.Plan e); makes = h; follows = (refl, refl) }
no_book DiskFailed parts s Next (build.Memory _) h = tt

-- a header that is not the publication's
pub wrong_header : (p : Publication) (Next : Ending) (h : Header) → HasHeader sha256 sha256 p.parts p.settings h → h ≢ p.header → EndsInstalling p Next (Err HeaderWrong) []
wrong_header p Next h has other = record { made = Ok h; makes = has; follows = inr (other, refl, refl) }

-- after an install
pub installed : (p : Publication) (Next : Ending) (o : Result Conclusion Fault) (text : List ℕ) → IsInstallable p → Next o text → EndsInstalling p Next o text
installed p Next o text is h = record { made = Ok p.header; makes = is; follows = inl (refl, h) }

-- if a publication is not installed, the command ends, whatever would follow
pub not_installed : (p : Publication) (Next : Ending) (o : Result Conclusion Fault) (text : List ℕ) → EndsInstalling p NoEnd o text → EndsInstalling p Next o text
not_installed p Next o text h = record { made = h.made; makes = h.makes; follows = after h.made h.follows }
  where
    after : (m : Result Header BuildError) → AfterBuild (IfInstalled p NoEnd) m o text → AfterBuild (IfInstalled p Next) m o text
    after (Ok x) (inl k) = absurd k.1
    after (Ok x) (inr k) = inr k
    after (Err (build.Map e)) k = k
    after (Err (build.Plan e)) k = k
    after (Err (build.Memory _)) k = absurd k
