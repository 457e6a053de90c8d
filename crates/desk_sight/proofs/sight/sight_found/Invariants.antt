use Rattle.std.proofs.Common.{◌≡◌, ℕ, ◌*◌, ◌<◌, ◌≤◌}
use Rattle.desk_areas.specs.Layout.{base_of}
use Rattle.desk_sight.specs.Areas.{IsReached}
use Rattle.desk_sight.specs.Sights.{IsTold, IsUntold}
use Rattle.desk_sight.proofs.sight.sight_found.Given as goal

abbrev pub invariant-loop-area : goal.invariant-loop-area
invariant-loop-area l = record {
  reached : l.area < 8 → IsReached l.image l.area;
  untold : l.area ≡ 8 → IsUntold l.image;
  base : l.base ≡ base_of l.image l.area;
  low : l.base ≤ 131136 * l.area;
  told : IsTold l.image l.area l.told;
}
