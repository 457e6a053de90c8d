-- The queries of a survey, and the settings of its publication. Source: this program's profile.
use Rattle.std.specs.Prelude.{ℕ, zero, suc, ◌+◌, ◌*◌, ◌%◌, ◌==◌, if◌then◌else◌, List, [], ◌∷◌}
use Rattle.road_reader.specs.Grid.{first_state, next_state, after_draws, drawn}
use Rattle.book_model.specs.declared.items.Query.{Query}
use Rattle.book_model.specs.declared.settings.Settings.{Settings}

-- an id from 1 to a count, given by the next two random numbers
abbrev pub id_drawn : ℕ → ℕ → ℕ
id_drawn state count = 1 + (drawn (next_state state) * 32768 + drawn
    (next_state (next_state state))) % count

-- the next query among ids from 1 to a count
abbrev pub query_drawn : ℕ → ℕ → Query
query_drawn state count = record {
  from = id_drawn state count;
  to = id_drawn (next_state (next_state state)) count;
}

-- this many queries, from a state of the generator on
abbrev pub queries_drawn : ℕ → ℕ → ℕ → List Query
queries_drawn count state zero = []
queries_drawn count state (suc n) = query_drawn state count ∷ queries_drawn count
    (after_draws state 4) n

-- the queries of a survey over a grid of this width, from the random numbers that follow those of the grid
unfoldable pub survey_queries : ℕ → ℕ → ℕ → List Query
survey_queries width seed n = queries_drawn (width * width) (first_state (seed + 1)) n

-- the three parameters of a method: 4 landmarks, codes of 12 bits and a threshold of 2 under LDM (3); 2 columns and
-- 2 rows of cells under HYP (4); else none
abbrev pub parameters_of : ℕ → ℕ × ℕ × ℕ
parameters_of method = if method == 3 then (4, 12, 2) else if method == 4 then (2, 2, 0) else
    (0, 0, 0)

-- the settings of a survey of a method: version 1, the order along Hilbert's curve, and trees of fan-out 4
abbrev pub survey_settings : ℕ → ℕ → Settings
survey_settings method seed = record {
  method = method;
  version = 1;
  order = 3;
  seed = seed;
  fan = 4;
  p1 = (parameters_of method).0;
  p2 = (parameters_of method).1;
  p3 = (parameters_of method).2;
}
