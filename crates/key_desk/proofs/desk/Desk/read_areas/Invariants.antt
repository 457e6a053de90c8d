use Rattle.std.proofs.Common.{◌≡◌, ◌≢◌, ◌*◌, ◌<◌, ◌≤◌, List, ℕ, length, Some}
use Rattle.road_io.specs.Disk.{Narrows, Stays}
use Rattle.road_io.specs.Moments.{AtEachMoment}
use Rattle.desk_areas.specs.Area.{area_in}
use Rattle.desk_areas.specs.Calls.{Called, CalledUpTo, most_area_calls}
use Rattle.desk_areas.specs.Reading.{HasRead}
use Rattle.key_desk.specs.Calls.{areas_calls}
use Rattle.key_desk.proofs.ReadFits.{IsWhole}
use Rattle.key_desk.proofs.desk.Desk.read_areas.Given as goal

abbrev pub invariant-loop-round : goal.invariant-loop-round
invariant-loop-round g l = record {
  content : Narrows (g.D.Disk.content l.fn.disk) (g.D.Disk.content l.disk);
  moments : AtEachMoment g.D.Disk l.fn.disk l.disk Stays;
  faults : g.D.Disk.faults l.disk ≡ g.D.Disk.faults l.fn.disk;
  called : Called (areas_calls l.earlier.items) (g.D.Disk.calls l.fn.disk) (g.D.Disk.calls l.disk);
  calls : CalledUpTo (most_area_calls * l._round) (g.D.Disk.calls l.fn.disk) (g.D.Disk.calls l.disk);
  count : length l.earlier.items ≡ l._round;
  few : l._round ≤ 7;
  low : l.base ≤ 131136 * l._round;
  read : (c : List ℕ) → g.D.Disk.content l.disk ≡ Some c → HasRead l.earlier.items l.base l.named c;
  wholes : (a : ℕ) → a < length l.earlier.items → IsWhole (area_in l.earlier.items a);
  names : (a b : ℕ) → a < b → b < length l.earlier.items → (area_in l.earlier.items a).key.i ≢ (area_in l.earlier.items b).key.i;
}
