-- Images that runs, looks and crashes leave.
use Rattle.std.specs.Prelude.{◌≡◌, ℕ, suc, ◌+◌, ◌<◌, ◌≤◌, List, get_or}
use Rattle.lms_tree.specs.Links.{IsLink}
use Rattle.desk_areas.specs.Layout.{slots_at, place_in, base_of, gate_at, gate_of, text_of, last_slot, IsAreaOpen, IsCurrent}
use Rattle.desk_sight.specs.Areas.{IsWhole, IsPlain}

-- each open area that is whole is as runs and crashes leave it
abbrev pub IsTidy : List ℕ → Type 0
IsTidy image = (area : ℕ) → IsAreaOpen image area → IsWhole image area → IsPlain image area

-- Nothing in an area is in use: its gate is zero, and so are all octets after its key's secret, including the first
-- slot's gate.
pub record IsUntouched (image : List ℕ) (area : ℕ) : Type 0 where
  pub gate : gate_at image (base_of image area) ≡ 0
  pub first : gate_at image (place_in (base_of image area) 0) ≡ 0
  pub zero : (k : ℕ) → base_of image area + 53 ≤ k →
      k < place_in (base_of image area) (slots_at image (base_of image area)) →
      get_or image k 0 ≡ 0

-- If a link text waits in the free last slot of the current area, and this area is whole, nothing in the next area
-- is in use. Every crash leaves it so, except a crash of `succeed` that tears one of two writes: that of the text,
-- so that it names any key, or that of the zeros after such a text.
abbrev pub HasFreshLink : List ℕ → Type 0
HasFreshLink image = (area : ℕ) → IsCurrent image area → IsWhole image area →
    gate_of image (last_slot image area) ≡ 0 → IsLink (text_of image (last_slot image area)) →
    IsUntouched image (suc area)
