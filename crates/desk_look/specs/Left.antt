-- What an audit leaves unchanged.
use Rattle.std.specs.Prelude.{◌≡◌, ◌≤◌, true}
use Rattle.road_io.specs.declared.disk.Disk.{Ghosts}
use Rattle.road_io.specs.Causes.{Rose}
use Rattle.road_io.specs.Disk.{Stays}
use Rattle.road_io.specs.Moments.{AtEachMoment}
use Rattle.key_desk.specs.declared.desk.Desk.{Desk}
use Rattle.key_desk.specs.Desk.{SameAreas, Fits, KeepsAllKnown}
use Rattle.key_desk.specs.Stands.{KeepsStanding}

-- The desk keeps its areas and its states and fits its disk, and it stays open unless the disk failed. So a later
-- audit also gives a result. No image of the disk changes, and all known facts and all signed pairs remain.
pub record IsLeft {D : Type 0} (g : Ghosts D) (old_desk : Desk) (old : D) (new_desk : Desk)
    (new : D) : Type 0 where
  pub areas : SameAreas old_desk new_desk
  pub counts : new_desk.counts ≡ old_desk.counts
  pub fits : Fits g new_desk new
  pub stays_open : old_desk.is_open ≡ true → ¬ Rose (g.faults old) (g.faults new) →
      new_desk.is_open ≡ true
  pub known : KeepsAllKnown g old_desk old new_desk new
  pub moments : AtEachMoment g old new Stays
  pub stands : KeepsStanding g old new
  pub faults : g.faults old ≤ g.faults new
