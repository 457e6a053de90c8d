-- The input and output of `dimacs`.
use Rattle.std.specs.Prelude.{◌≡◌, List, ℕ}
use Rattle.std.specs.declared.result.Result.{Result}
use Rattle.std.specs.declared.result.Result.TheVariants.{Ok, Err}
use Rattle.road_io.specs.Contents.{Folder}
use Rattle.road_map.specs.declared.parts.Parts.{Parts}
use Rattle.road_reader.specs.RoadText.{printed_roads}
use Rattle.dimacs_reader.specs.Dimacs.{dimacs_of}
use Rattle.dimacs_reader.specs.declared.error.DimacsError.{DimacsError}
use Rattle.command_files.specs.Reading.{octets_at}
use Rattle.command_files.specs.Endings.{Ending, EndsReading}
use Rattle.command_files.specs.declared.fault.Fault.{Fault}
use Rattle.command_files.specs.declared.fault.Fault.TheVariants.{Dimacs}
use Rattle.command_files.specs.declared.ended.Conclusion.TheVariants.{Done}

abbrev pub as_dimacs : Result Parts DimacsError → Result Parts Fault
as_dimacs (Ok parts) = Ok parts
as_dimacs (Err fault) = Err (Dimacs fault)

abbrev pub dimacs_in : Result (List ℕ) Fault → Result (List ℕ) Fault → Result Parts Fault
dimacs_in (Ok graph) (Ok places) = as_dimacs (dimacs_of graph places)
dimacs_in (Ok graph) (Err fault) = Err fault
dimacs_in (Err fault) places = Err fault

-- the parts of the graph and its coordinates in the files with these names; both files are loaded before either is
-- read
abbrev pub dimacs_at : Folder → List ℕ → List ℕ → Result Parts Fault
dimacs_at folder graph places = dimacs_in (octets_at folder graph) (octets_at folder places)

-- `dimacs` over the parts of a graph and its coordinates: their printed road file
abbrev pub EndsDimacs : Parts → Ending
EndsDimacs parts (Ok Done) text = text ≡ printed_roads parts
EndsDimacs parts outcome text = ⊥

-- the same over the files with these names
abbrev pub ends_dimacs : List ℕ → List ℕ → Folder → Ending
ends_dimacs graph places folder = EndsReading (dimacs_at folder graph places) EndsDimacs
