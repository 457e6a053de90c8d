-- The line of a route.
use Rattle.std.specs.Prelude.{ℕ, List, ◌∷◌, ◌++◌, codes}
use Rattle.std.specs.Fmt.{decimal}
use Rattle.std.specs.List.{flat_map}

-- an id after a space
abbrev pub spaced : ℕ → List ℕ
spaced id = 32 ∷ decimal id

-- the line of a route: its length, a colon, each id after a space, and a line end
abbrev pub route_line : ℕ → List ℕ → List ℕ
route_line length route = decimal length ++ codes ":" ++ flat_map spaced route ++ codes "\n"
