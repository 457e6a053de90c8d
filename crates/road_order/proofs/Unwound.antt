-- Where a depth-first tour leads from some branches.
use Rattle.std.specs.Prelude.{ℕ, ◌-◌, List, [], ◌∷◌}
use Rattle.std.specs.List.{fold}
use Rattle.road_map.specs.Maps.{Charted}
use Rattle.book_model.specs.Orders.{dive, neighbours}
use Rattle.road_order.specs.Tours.{left_of}
use Rattle.road_order.specs.declared.depth.Branch.{Branch}

-- the ids visited after all of these branches are finished, the latest branch first; the first of them may go this
-- deep
abbrev pub unwound : Charted → ℕ → List Branch → List ℕ → List ℕ
unwound map deep [] found = found
unwound map deep (branch ∷ branches) found = fold (dive (neighbours map.parts.roads) deep)
    (unwound map (deep - 1) branches found) (left_of map branch)
