-- Consecutive calls that change no image.
use Rattle.std.proofs.Common.{◌≡◌, ℕ, List, Option, Some, ◌∙◌, ap, sym}
use Rattle.road_io.specs.declared.disk.Disk.{Ghosts}
use Rattle.road_io.specs.Disk.{Stays}
use Rattle.road_io.specs.Moments.{Image, AtEachMoment}
use Rattle.road_io.proofs.MomentLaws.{at_end, continued}

module _ {D : Type 0} (g : Ghosts D) where
  pub stays_twice : (old mid new : D) → AtEachMoment g old mid Stays → AtEachMoment g mid new Stays → AtEachMoment g old new Stays
  stays_twice old mid new first second = continued g old mid new Stays Stays Stays first second (λ d i image is. is) (λ d e i image after is then. then ∙ is)

  pub stays_thrice : (old mid later new : D) → AtEachMoment g old mid Stays → AtEachMoment g mid later Stays → AtEachMoment g later new Stays → AtEachMoment g old new Stays
  stays_thrice old mid later new first second third = stays_twice old later new (stays_twice old mid later first second) third

  -- the only image stays the only one
  pub one_after : (mid new : D) (content : Option (List ℕ)) → ((i : List ℕ) → Image g mid i → content ≡ Some i) → AtEachMoment g mid new Stays → (i : List ℕ) → Image g new i → content ≡ Some i
  one_after mid new content one moments i image = let e = at_end g mid new Stays moments i image in one e.0 e.1 ∙ ap Some (sym e.2)
