-- A text in a free slot, and how the slot is spent without a signature. A crash between the writing of a text and
-- that of its gate leaves such a text. So does a fault that closes a gate after a signature. The two cases look the
-- same, so the one-time key must never sign another text (RFC 8554, section 9.2).
use Rattle.std.specs.Prelude.{◌≡◌, ◌⊎◌, ℕ, ◌+◌, ◌<◌, List, length}
use Rattle.road_io.specs.declared.disk.Disk.{Ghosts}
use Rattle.road_io.specs.Moments.{AtEachMoment}
use Rattle.lms_tree.specs.Links.{IsLink}
use Rattle.desk_areas.specs.Layout.{SlotId, slots_at, base_of, place_of, gate_of, text_of, IsCurrent, IsSigned, AgreesOutside, SignsAtMost}
use Rattle.key_desk.specs.Stands.{KeepsStanding, SameKeys}

-- the lowest slot of the current area with a closed gate, except for the last slot, which is kept for a link text
pub record IsLowestFree (image : List ℕ) (slot : SlotId) : Type 0 where
  pub current : IsCurrent image slot.area
  pub early : slot.number + 1 < slots_at image (base_of image slot.area)
  pub shut : gate_of image slot ≡ 0
  pub lowest : (number : ℕ) → number < slot.number →
      0 < gate_of image (record { area = slot.area; number = number })

-- a text that a slot before the last one may have signed: it is not empty and not a link text
pub record IsSpendable (text : List ℕ) : Type 0 where
  pub some : 0 < length text
  pub plain : IsLink text → ⊥

-- the slot is the lowest free one and holds such a text
pub record IsTexted (image : List ℕ) (slot : SlotId) : Type 0 where
  pub free : IsLowestFree image slot
  pub text : IsSpendable (text_of image slot)

-- only the gate of a slot that holds a text changes, and at most that text becomes signed
pub record OpensTexted (d i : List ℕ) : Type 0 where
  pub slot : SlotId
  pub texted : IsTexted d slot
  pub alone : AgreesOutside (place_of d slot) (place_of d slot + 1) d i
  pub signs : SignsAtMost slot (text_of d slot) d i

-- the slot with this number held a text in d and has signed this text in i
pub record HasSpent (number : ℕ) (d i : List ℕ) : Type 0 where
  pub slot : SlotId
  pub number_is : slot.number ≡ number
  pub texted : IsTexted d slot
  pub signed : IsSigned i slot (text_of d slot)

-- At each moment of a call each image is unchanged, or only the gate over a text in the lowest free slot has
-- changed. The signed pairs remain signed, and each open area keeps its key.
pub record SpendsTexted {D : Type 0} (g : Ghosts D) (old new : D) : Type 0 where
  pub moments : AtEachMoment g old new (λ d i. (i ≡ d) ⊎ OpensTexted d i)
  pub stands : KeepsStanding g old new
  pub keys : AtEachMoment g old new SameKeys
