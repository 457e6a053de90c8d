-- Which command lines ask for mirrors.
use Rattle.std.specs.declared.option.Option.{Option}
use Rattle.std.specs.declared.option.Option.TheVariants.{Some}
use Rattle.road_command.specs.Requests.{Request, Publish}

-- the words request `publish`
abbrev pub IsPublish : Option Request → Type 0
IsPublish (Some (Publish roads settings)) = Unit {0}
IsPublish asked = ⊥
