-- The number of calls to the disk that a desk makes. A call asks for the length, reads, writes or syncs. A call
-- that fails counts too.
use Rattle.std.specs.Prelude.{ℕ, ◌+◌, List}
use Rattle.std.specs.List.{sum_by}
use Rattle.desk_areas.specs.Area.{AreaView}
use Rattle.desk_areas.specs.Calls.{area_calls}
use Rattle.key_desk.specs.declared.desk.Desk.{Desk}

-- the number of calls that read some areas
abbrev pub areas_calls : List AreaView → ℕ
areas_calls areas = sum_by (λ area. area_calls area.counts) areas

-- the number of calls that open a desk: a sync, the length, the first gate, and the calls that read its areas
abbrev pub opening_calls : Desk → ℕ
opening_calls desk = 3 + areas_calls desk.earlier + area_calls desk.counts

-- a bound on that number, since there are at most eight areas
abbrev pub most_opening_calls : ℕ
most_opening_calls = 16395

-- The number of calls that open a desk and add the next key, from the areas before the new one. Opening does not
-- read the text of the slot that later holds the link. Four writes follow, each with a sync: the zeros of the new
-- area, its block, the link text, and the gate of the link text.
abbrev pub succession_calls : List AreaView → ℕ
succession_calls earlier = 2 + areas_calls earlier + 8

-- a bound on that number
abbrev pub most_succession_calls : ℕ
most_succession_calls = 16403
