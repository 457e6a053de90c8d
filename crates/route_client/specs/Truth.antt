-- What a client accepts, and what this implies for a map. Source: Yiu, Lin and Mouratidis, ICDE 2010: an accepted
-- path is a shortest one. An accepted reply may also state that no route exists; that is this program's profile.
use Rattle.std.specs.Prelude.{ℕ}
use Rattle.road_map.specs.declared.parts.Parts.{Parts}
use Rattle.road_map.specs.Walks.{Knows, Joins}
use Rattle.road_map.specs.Routes.{IsShortest}
use Rattle.book_model.specs.declared.items.Query.{Query}
use Rattle.route_client.specs.declared.accepted.Checked.{Checked}
use Rattle.route_client.specs.declared.accepted.Checked.TheVariants.{Route, Apart}

-- the result is true of a map: the route is a shortest one, or both ends are nodes and no walk joins them
abbrev pub HoldsIn : Parts → Query → Checked → Type 0
HoldsIn parts q (Route x) = IsShortest parts q.from q.to x.route x.length
HoldsIn parts q (Apart version header) = Knows parts q.from × Knows parts q.to ×
    ((d : ℕ) → ¬ Joins parts q.from q.to d)
