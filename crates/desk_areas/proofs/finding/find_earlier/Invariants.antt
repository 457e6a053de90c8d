use Rattle.std.proofs.Common.{◌≡◌, ◌*◌, ◌<◌, ◌≤◌, List, ℕ, Some}
use Rattle.road_io.specs.Disk.{Narrows, Stays}
use Rattle.road_io.specs.Moments.{AtEachMoment}
use Rattle.desk_areas.specs.Area.{area_in}
use Rattle.desk_areas.specs.Layout.{base_of}
use Rattle.desk_areas.specs.Reading.{FindsIn}
use Rattle.desk_areas.proofs.finding.find_earlier.Given as goal

abbrev pub invariant-loop-area : goal.invariant-loop-area
invariant-loop-area g l = record {
  content : Narrows (g.D.Disk.content l.fn.disk) (g.D.Disk.content l.disk);
  moments : AtEachMoment g.D.Disk l.fn.disk l.disk Stays;
  faults : g.D.Disk.faults l.disk ≡ g.D.Disk.faults l.fn.disk;
  low : l.base ≤ 131136 * l.area-index;
  based : (c : List ℕ) → g.D.Disk.content l.disk ≡ Some c → l.base ≡ base_of c l.area-index;
  none : (c : List ℕ) → g.D.Disk.content l.disk ≡ Some c → (a : ℕ) → a < l.area-index → FindsIn (area_in l.areas a).counts (base_of c a) l.text c → ⊥;
}
