use Rattle.std.proofs.Common.{◌≡◌, ◌+◌, ◌-◌, ◌<◌, List, ℕ, length, take, min, get_or, Some}
use Rattle.std.specs.List.{count_by}
use Rattle.road_io.specs.Disk.{Narrows, Stays}
use Rattle.road_io.specs.Moments.{AtEachMoment}
use Rattle.lms_tree.specs.Links.{IsLink}
use Rattle.desk_areas.specs.declared.area.Count.TheVariants
use Rattle.desk_areas.specs.Calls.{Called, CalledUpTo, is_spent}
use Rattle.desk_areas.specs.Layout.{place_in, text_at}
use Rattle.desk_areas.proofs.reading.has_stray.Given as goal

abbrev pub invariant-loop-count : goal.invariant-loop-count
invariant-loop-count g l = record {
  content : Narrows (g.D.Disk.content l.fn.disk) (g.D.Disk.content l.disk);
  moments : AtEachMoment g.D.Disk l.fn.disk l.disk Stays;
  faults : g.D.Disk.faults l.disk ≡ g.D.Disk.faults l.fn.disk;
  called : Called (count_by is_spent (take (min l.number (length l.counts - 1)) l.counts)) (g.D.Disk.calls l.fn.disk) (g.D.Disk.calls l.disk);
  few : CalledUpTo (min l.number (length l.counts - 1)) (g.D.Disk.calls l.fn.disk) (g.D.Disk.calls l.disk);
  at : l.number ≡ l.count-index;
  none : (c : List ℕ) → g.D.Disk.content l.disk ≡ Some c → (s : ℕ) → s < l.number → s + 1 < length l.counts → get_or l.counts s TheVariants.Spent ≡ TheVariants.Spent → IsLink (text_at c (place_in l.base s)) → ⊥;
}
