use Rattle.std.proofs.Common.{◌≢◌, ◌<◌, ℕ}
use Rattle.desk_areas.specs.Area.{area_in}
use Rattle.desk_areas.proofs.reading.has_name.Given as goal

abbrev pub invariant-loop-area : goal.invariant-loop-area
invariant-loop-area l = (a : ℕ) → a < l.area-index → (area_in l.areas a).key.i ≢ l.name
