-- A disk without calls and an unchanged desk.
use Rattle.std.proofs.Common.{refl}
use Rattle.road_io.specs.declared.disk.Disk.{Ghosts}
use Rattle.road_io.specs.Disk.{Stays}
use Rattle.road_io.proofs.MomentLaws.{nothing}
use Rattle.key_desk.specs.declared.desk.Desk.{Desk}
use Rattle.key_desk.specs.Desk.{SameAreas}
use Rattle.key_desk.specs.Stands.{KeepsStanding}
use Rattle.key_desk.proofs.Standing.{standing_same}

-- pairs that are signed on the disk remain signed
pub stands_same : {D : Type 0} (g : Ghosts D) (d : D) → KeepsStanding g d d
stands_same g d = standing_same g d d (nothing g d Stays (λ i now. refl))

-- and the desk has its areas
pub same_areas : (desk : Desk) → SameAreas desk desk
same_areas desk = record { earlier = refl; base = refl; key = refl }
