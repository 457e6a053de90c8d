use Rattle.std.proofs.Common.{◌≡◌, ◌⊎◌, ◌<◌, List, ℕ, length, get_or, Some}
use Rattle.road_io.specs.Disk.{Narrows, Stays}
use Rattle.road_io.specs.Moments.{AtEachMoment}
use Rattle.desk_areas.specs.declared.area.Count.TheVariants
use Rattle.desk_areas.specs.Calls.{Called, CalledUpTo}
use Rattle.desk_areas.specs.Layout.{place_in, gate_at}
use Rattle.desk_areas.proofs.reading.read_gates.Given as goal

abbrev pub invariant-loop-slot : goal.invariant-loop-slot
invariant-loop-slot g l = record {
  content : Narrows (g.D.Disk.content l.fn.disk) (g.D.Disk.content l.disk);
  moments : AtEachMoment g.D.Disk l.fn.disk l.disk Stays;
  faults : g.D.Disk.faults l.disk ≡ g.D.Disk.faults l.fn.disk;
  called : Called l.slot (g.D.Disk.calls l.fn.disk) (g.D.Disk.calls l.disk);
  few : CalledUpTo l.slot (g.D.Disk.calls l.fn.disk) (g.D.Disk.calls l.disk);
  size : length l.counts.items ≡ l.slot;
  free : (c : List ℕ) → g.D.Disk.content l.disk ≡ Some c → (s : ℕ) → s < l.slot → get_or l.counts.items s TheVariants.Spent ≡ TheVariants.Free → gate_at c (place_in l.base s) ≡ 0;
  spent : (c : List ℕ) → g.D.Disk.content l.disk ≡ Some c → (s : ℕ) → s < l.slot → get_or l.counts.items s TheVariants.Spent ≡ TheVariants.Spent → 0 < gate_at c (place_in l.base s);
  either : (s : ℕ) → (get_or l.counts.items s TheVariants.Spent ≡ TheVariants.Free) ⊎ (get_or l.counts.items s TheVariants.Spent ≡ TheVariants.Spent);
}
