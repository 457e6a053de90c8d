-- How `route`, `root` and `dimacs` end, by their files.
use Rattle.std.proofs.Common.{◌≡◌, ℕ, List, [], refl, IfSome}
use Rattle.std.specs.declared.option.Option.{Option}
use Rattle.std.specs.declared.result.Result.{Result}
use Rattle.std.specs.declared.result.Result.TheVariants.{Ok, Err}
use Rattle.road_io.specs.Contents.{Folder}
use Rattle.road_map.specs.Maps.{IsMap}
use Rattle.road_map.specs.declared.parts.Parts.{Parts}
use Rattle.road_reader.specs.RoadText.{printed_roads}
use Rattle.command_files.specs.Reading.{parts_at}
use Rattle.command_files.specs.Endings.{Ending, EndsReading, Promises, TellsNone, NoDisk, WhyNot, Writes}
use Rattle.command_files.specs.declared.fault.Fault.{Fault}
use Rattle.command_files.specs.declared.fault.Fault.TheVariants.{Memory, UnknownNode, NoRoute}
use Rattle.command_files.specs.declared.ended.Conclusion.{Conclusion}
use Rattle.command_files.specs.declared.ended.Conclusion.TheVariants.{Done}
use Rattle.command_files.proofs.Written.{CallsFor, over, reads, refused, written_done}
use Rattle.map_commands.specs.RouteLine.{IsRouteLine, GivesLine, EndsRoute, ends_route}
use Rattle.map_commands.specs.RootLine.{IsRootLine, EndsRoot, ends_root}
use Rattle.map_commands.specs.DimacsFiles.{dimacs_at, EndsDimacs, ends_dimacs}

-- an end that follows parts that make a map
abbrev pub OverMap : Parts → (Parts → Ending) → Ending
OverMap parts Ends o text = IsMap parts → Ends parts o text

-- the reason why there is no line
why_none : (parts : Parts) (from to : ℕ) (f : Fault) → GivesLine parts from to (Err f) → WhyNot NoDisk (OverMap parts (EndsRoute from to)) f
why_none parts from to (Memory _) h = tt
why_none parts from to (UnknownNode id) h = λ is. (is, h, refl)
why_none parts from to NoRoute h = λ is. (is, h, refl)
why_none parts from to f h = absurd h

module _ (files : Option Folder) (name : List ℕ) (parts : Parts) (read : IfSome files (λ folder. (parts_at folder name ≡ Ok parts) × IsMap parts)) (l l' k k' : ℕ) (old : Option (List ℕ)) where
  -- what the road file requires
  calls : (Ends : Parts → Ending) (o : Result Conclusion Fault) (text : List ℕ) → OverMap parts Ends o text → CallsFor (λ folder. EndsReading (parts_at folder name) Ends) files o text
  calls Ends o text h =
      over files (λ folder. (parts_at folder name ≡ Ok parts) × IsMap parts) (λ folder. EndsReading (parts_at folder name) Ends o text)
      (λ folder is. reads (parts_at folder name) parts Ends o text is.0 (h is.1)) read

  -- an end that is not a node, or two ends that no walk joins
  pub route_refused : (from to : ℕ) (f : Fault) → GivesLine parts from to (Err f) → Promises (ends_route name from to) TellsNone NoDisk files l l' old old k k' (Err f)
  route_refused from to f h =
      refused (ends_route name from to) TellsNone NoDisk files l l' k k' old (OverMap parts (EndsRoute from to)) (calls (EndsRoute from to)) f (why_none parts from to f h)

  -- the line of a route
  pub route_told : (from to : ℕ) (new : Option (List ℕ)) (o : Result Conclusion Fault) (text line : List ℕ) → text ≡ line → IsRouteLine parts from to line
      → Writes (Ok Done) text old new k k' o → Promises (ends_route name from to) TellsNone NoDisk files l l' old new k k' o
  route_told from to new o text line same is w =
      written_done (ends_route name from to) TellsNone NoDisk files l l' k k' old (OverMap parts (EndsRoute from to)) (calls (EndsRoute from to)) new Done o text line same (λ map. (map, is)) w

  -- the line of a root
  pub root_told : (fan : ℕ) (new : Option (List ℕ)) (o : Result Conclusion Fault) (text line : List ℕ) → text ≡ line → IsRootLine parts fan line
      → Writes (Ok Done) text old new k k' o → Promises (ends_root name fan) TellsNone NoDisk files l l' old new k k' o
  root_told fan new o text line same is w =
      written_done (ends_root name fan) TellsNone NoDisk files l l' k k' old (OverMap parts (EndsRoot fan)) (calls (EndsRoot fan)) new Done o text line same (λ map. (map, is)) w

-- the road file of a graph and its coordinates
pub dimacs_told : (files : Option Folder) (graph places : List ℕ) (parts : Parts) → IfSome files (λ folder. dimacs_at folder graph places ≡ Ok parts) → (l l' k k' : ℕ) (old new : Option (List ℕ)) (o : Result Conclusion Fault) (text line : List ℕ)
    → text ≡ line → line ≡ printed_roads parts → Writes (Ok Done) text old new k k' o → Promises (ends_dimacs graph places) TellsNone NoDisk files l l' old new k k' o
dimacs_told files graph places parts read l l' k k' old new o text line same is w =
    written_done (ends_dimacs graph places) TellsNone NoDisk files l l' k k' old (EndsDimacs parts) calls new Done o text line same is w
  where
    calls : (o : Result Conclusion Fault) (text : List ℕ) → EndsDimacs parts o text → CallsFor (ends_dimacs graph places) files o text
    calls o text h =
        over files (λ folder. dimacs_at folder graph places ≡ Ok parts) (λ folder. ends_dimacs graph places folder o text)
        (λ folder is. reads (dimacs_at folder graph places) parts EndsDimacs o text is h) read
