-- The output of `route`.
use Rattle.std.specs.Prelude.{◌≡◌, ℕ, List, []}
use Rattle.std.specs.declared.result.Result.{Result}
use Rattle.std.specs.declared.result.Result.TheVariants.{Ok, Err}
use Rattle.std.specs.declared.vec.Vec.{Vec}
use Rattle.std.specs.declared.alloc.Global.{Global}
use Rattle.road_io.specs.Contents.{Folder}
use Rattle.road_map.specs.Maps.{IsMap}
use Rattle.road_map.specs.Routes.{IsShortest}
use Rattle.road_map.specs.declared.parts.Parts.{Parts}
use Rattle.road_line.specs.RouteLine.{route_line}
use Rattle.command_files.specs.Reading.{parts_at, IsMapFault}
use Rattle.command_files.specs.TwoEnds.{IsFirstUnknown, AreApart}
use Rattle.command_files.specs.Endings.{Ending, EndsReading}
use Rattle.command_files.specs.declared.fault.Fault.{Fault}
use Rattle.command_files.specs.declared.fault.Fault.TheVariants.{Map, Memory, UnknownNode, NoRoute}
use Rattle.command_files.specs.declared.ended.Conclusion.TheVariants.{Done}

-- the line of some shortest route between two nodes, and its length
pub record IsRouteLine (parts : Parts) (from to : ℕ) (text : List ℕ) : Type 0 where
  pub route : List ℕ
  pub length : ℕ
  pub shortest : IsShortest parts from to route length
  pub line : text ≡ route_line length route

-- `route` over the parts of a file: the line of a shortest route, or the reason why there is none
abbrev pub EndsRoute : ℕ → ℕ → Parts → Ending
EndsRoute from to parts (Ok Done) text = IsMap parts × IsRouteLine parts from to text
EndsRoute from to parts (Err (Map fault)) text = IsMapFault parts fault × (text ≡ [])
EndsRoute from to parts (Err (UnknownNode id)) text = IsMap parts ×
    IsFirstUnknown parts from to id × (text ≡ [])
EndsRoute from to parts (Err NoRoute) text = IsMap parts × AreApart parts from to × (text ≡ [])
EndsRoute from to parts outcome text = ⊥

-- the same over the road file with this name
abbrev pub ends_route : List ℕ → ℕ → ℕ → Folder → Ending
ends_route roads from to folder = EndsReading (parts_at folder roads) (EndsRoute from to)

-- the value of a function that makes the line over a map
abbrev pub GivesLine : Parts → ℕ → ℕ → Result (Vec ℕ Global) Fault → Type 0
GivesLine parts from to (Ok text) = IsRouteLine parts from to text.items
GivesLine parts from to (Err (UnknownNode id)) = IsFirstUnknown parts from to id
GivesLine parts from to (Err NoRoute) = AreApart parts from to
GivesLine parts from to (Err (Memory _)) = Unit {0}
GivesLine parts from to (Err fault) = ⊥
