-- The names of files in arguments.
use Rattle.std.specs.Prelude.{ℕ, List, []}
use Rattle.std.specs.declared.option.Option.{Option}
use Rattle.std.specs.declared.option.Option.TheVariants.{None, Some}
use Rattle.road_command.specs.Requests.{Request}
use Rattle.road_run.specs.Forms.{form_of}

-- the names of files in arguments, in their order, without the owner's disk
abbrev pub files_named : Option Request → List (List ℕ)
files_named None = []
files_named (Some request) = (form_of request).names
