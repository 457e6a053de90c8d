-- Runs over small objects, as `RunsOver` states them of a library, a source, a sink, a disk and one mirror.
use Rattle.std.proofs.Common.{◌≡◌, ◌≢◌, ℕ, List, [], ◌∷◌, arith}
use Rattle.std.specs.declared.option.Option.{Option}
use Rattle.std.specs.declared.result.Result.{Result}
use Rattle.std.specs.declared.result.Result.TheVariants.{Err}
use Rattle.road_io.specs.Causes.{Rose}
use Rattle.road_io.specs.Contents.{Folder}
use Rattle.road_command.specs.Requests.{Request}
use Rattle.command_files.specs.declared.fault.Fault.{Fault}
use Rattle.command_files.specs.declared.fault.Fault.TheVariants.{Library}
use Rattle.command_files.specs.declared.ended.Conclusion.{Conclusion}
use Rattle.command_files.specs.Exact.{NoneFailed}
use Rattle.road_run.specs.Complete.{NoneElseFailed}
use Rattle.road_run.specs.Runs.{RunsOver}
use Rattle.road_run.proofs.WorkedObjects.{Shelf, shelf, Tap, tap, Page, page, Film, film, still, mirror}

abbrev pub Outcome : Type 0
Outcome = Result Conclusion Fault

-- a library before a load, and after a load of the file with this name
abbrev pub unasked : Folder → Shelf
unasked folder = record { files = folder; asked = []; faults = 0 }

abbrev pub asked_for : Folder → List ℕ → Shelf
asked_for folder name = record { files = folder; asked = name ∷ []; faults = 0 }

abbrev pub a : List ℕ
a = 97 ∷ []

abbrev pub b : List ℕ
b = 98 ∷ []

abbrev pub input : Tap
input = record { left = 7 ∷ []; given = []; faults = 0 }

abbrev pub blank : Page
blank = record { taken = []; faults = 0 }

abbrev pub disk : Film
disk = still []

-- a run with these arguments over these objects, with one mirror
abbrev pub Over : Option Request → Folder → Shelf → Tap → Page → Film → List ℕ → ℕ → Outcome → Type 0
Over asked folder l s k d ms exit o = RunsOver shelf tap page film mirror asked (unasked folder) l input s blank k disk d (4 ∷ []) ms exit o

-- a list with one entry is not empty
pub no_octet : (x : ℕ) → x ∷ [] ≡ [] → ⊥
no_octet x e = cc

pub none_failed : NoneFailed 0 0 0 0 0 0
none_failed = record { library_stays = λ rose. omega (arith, rose); sink_stays = λ rose. omega (arith, rose); disk_stays = λ rose. omega (arith, rose) }

pub none_else_failed : (o : Outcome) → o ≢ Err Library → NoneElseFailed o 0 0 0 0
none_else_failed o gave = record { library_gave = gave; sink_stays = λ rose. omega (arith, rose); disk_stays = λ rose. omega (arith, rose) }

pub none_rose : Rose 0 0 → ⊥
none_rose rose = omega (arith, rose)
