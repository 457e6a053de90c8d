use Rattle.std.proofs.Common.{◌≡◌, ◌≢◌, ◌<◌, List, ℕ, get_or, Some}
use Rattle.road_io.specs.Disk.{Narrows, Stays}
use Rattle.road_io.specs.Moments.{AtEachMoment}
use Rattle.desk_areas.specs.declared.area.Count.TheVariants
use Rattle.desk_areas.specs.Layout.{place_in, text_at}
use Rattle.desk_areas.proofs.finding.find_text.Given as goal

abbrev pub invariant-loop-count : goal.invariant-loop-count
invariant-loop-count g l = record {
  content : Narrows (g.D.Disk.content l.fn.disk) (g.D.Disk.content l.disk);
  moments : AtEachMoment g.D.Disk l.fn.disk l.disk Stays;
  faults : g.D.Disk.faults l.disk ≡ g.D.Disk.faults l.fn.disk;
  at : l.number ≡ l.count-index;
  none : (c : List ℕ) → g.D.Disk.content l.disk ≡ Some c → (s : ℕ) → s < l.number → get_or l.counts s TheVariants.Spent ≡ TheVariants.Spent → text_at c (place_in l.base s) ≢ l.text;
}
