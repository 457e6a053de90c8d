-- Everything that is not touched remains.
use Rattle.std.proofs.Common.{◌≡◌, ◌≤◌, ℕ, true, refl, subst, arith}
use Rattle.road_io.specs.declared.disk.Disk.{Ghosts}
use Rattle.key_desk.specs.declared.desk.Desk.{Desk}
use Rattle.key_desk.specs.Desk.{Fits}
use Rattle.road_io.specs.Causes.{Rose}
use Rattle.key_desk.specs.declared.desk.DeskError.{DeskError}
use Rattle.key_desk.specs.declared.desk.DeskError.TheVariants.{KeysUsedUp, DiskFault, Closed}
use Rattle.desk_look.specs.Left.{IsLeft}
use Rattle.desk_look.specs.Looks.{look_at}

same_time : (k n : ℕ) → n ≤ k → k ≤ n → k ≡ n
same_time k n a b = omega (arith, a, b)

pub left_alone : {D : Type 0} (g : Ghosts D) (desk : Desk) (disk : D) → Fits g desk disk → IsLeft g desk disk desk disk
left_alone {D} g desk disk fits = record {
  areas = record { earlier = refl; base = refl; key = refl };
  counts = refl;
  fits = fits;
  stays_open = λ opened steady. opened;
  known = record { texted = λ s t k. k; spent = λ s t k. k };
  moments = record {
    later = omega arith;
    past = λ k i le h. h;
    each = λ k i late early h. (i, subst (λ (n : ℕ). g.image_at disk n i) (same_time k (g.clock disk) late early) h, refl);
  };
  stands = record {
    later = omega arith;
    each = λ pairs stands k i late early h. stands i (subst (λ (n : ℕ). g.image_at disk n i) (same_time k (g.clock disk) late early) h);
  };
  faults = omega arith;
}

-- if the disk does not fail, the look of an open desk does not fail
pub works : {D : Type 0} (g : Ghosts D) (desk : Desk) (old new : D) → desk.is_open ≡ true → ¬ Rose (g.faults old) (g.faults new) → (e : DeskError) → ¬ (look_at g desk old new).Fails e
works g desk old new opened steady KeysUsedUp fails = fails
works g desk old new opened steady DiskFault fails = steady fails.1
works g desk old new opened steady Closed fails = cc
