-- The generator of grids. Source: this program's profile. The numbers are those of the C standard's example
-- implementation of `rand`.
use Rattle.std.specs.Prelude.{ℕ, zero, suc, ◌+◌, ◌*◌, ◌/◌, ◌%◌, pos, nat_lt, List, [], ◌∷◌, ◌++◌, map, if◌then◌else◌}
use Rattle.std.specs.List.{flat_map, range_with_len}
use Rattle.road_map.specs.declared.parts.Node.{Node}
use Rattle.road_map.specs.declared.parts.Road.{Road}
use Rattle.road_map.specs.declared.parts.Parts.{Parts}
use Rattle.road_map.specs.Walks.{Knows, Joins}

-- the first state of a seed
abbrev pub first_state : ℕ → ℕ
first_state seed = seed % 2147483648

abbrev pub next_state : ℕ → ℕ
next_state state = (state * 1103515245 + 12345) % 2147483648

-- the random number at a state
abbrev pub drawn : ℕ → ℕ
drawn state = state / 65536

-- the state after this many draws
abbrev pub after_draws : ℕ → ℕ → ℕ
after_draws state zero = state
after_draws state (suc n) = after_draws (next_state state) n

-- the node at an index, row by row
abbrev pub grid_node : ℕ → ℕ → Node
grid_node width index = record { id = index + 1; x = pos (index % width); y = pos (index / width) }

-- the ends of the road to the right neighbour, if that node exists
abbrev pub right_of : ℕ → ℕ → List (ℕ × ℕ)
right_of width index = if nat_lt (index % width + 1) width then (index + 1, index + 2) ∷ [] else []

-- the ends of the road to the node below, if that node exists
abbrev pub below_of : ℕ → ℕ → List (ℕ × ℕ)
below_of width index = if nat_lt (index / width + 1) width then
    (index + 1, index + 1 + width) ∷ [] else []

abbrev pub ends_of : ℕ → ℕ → List (ℕ × ℕ)
ends_of width index = right_of width index ++ below_of width index

-- roads with random lengths from 1 to 1000, drawn one after another
abbrev pub with_lengths : ℕ → List (ℕ × ℕ) → List Road
with_lengths state [] = []
with_lengths state (ends ∷ rest) =
    record { a = ends.0; b = ends.1; length = 1 + drawn (next_state state) % 1000 } ∷ with_lengths
    (next_state state) rest

-- a square grid of this width
unfoldable pub grid_of : ℕ → ℕ → Parts
grid_of width seed = record {
  nodes = map (grid_node width) (range_with_len 0 (width * width));
  roads = with_lengths (first_state seed)
      (flat_map (ends_of width) (range_with_len 0 (width * width)));
}

-- a walk joins any two nodes
abbrev pub IsConnected : Parts → Type 0
IsConnected parts = (s t : ℕ) → Knows parts s → Knows parts t → (d : ℕ) × Joins parts s t d
