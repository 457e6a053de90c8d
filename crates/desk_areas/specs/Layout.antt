-- The octets of an owner's disk. An area is a key block of 64 octets and then the key's slots of 128 octets
-- each; the next area begins where it ends. The last slot of an area signs the key of the next one. Offsets
-- within an area are counted from its base. A disk with one key has one area, at base 0.
use Rattle.std.specs.Prelude.{◌≡◌, ◌⊎◌, ℕ, zero, suc, ◌+◌, ◌-◌, ◌*◌, ◌<◌, ◌≤◌, ◌==◌, min, List, length, get_or, take, drop, if◌then◌else◌}
use Rattle.std.specs.List.{count_by, range_with_len}
use Rattle.lms_tree.specs.Links.{IsLink}

-- a slot: the number of its area, and its number in the area
pub record SlotId : Type 0 where
  pub area : ℕ
  pub number : ℕ

-- the number of slots of a key of this kind, or 0 for an unknown kind
unfoldable pub slots_of : ℕ → ℕ
slots_of kind = if kind == 5 then 32 else (if kind == 6 then 1024 else 0)

-- the offset at which a slot begins, in the area at a base; for the number after the last slot, the offset at which
-- the area ends
abbrev pub place_in : ℕ → ℕ → ℕ
place_in base number = base + 64 + 128 * number

-- the gate at an offset
abbrev pub gate_at : List ℕ → ℕ → ℕ
gate_at image place = get_or image place 0

-- the text of the slot at an offset: as many octets as its length octet states, at most 126
abbrev pub text_at : List ℕ → ℕ → List ℕ
text_at image place = take (min (get_or image (place + 1) 0) 126) (drop (place + 2) image)

-- the kind that the key block at a base names, in the four octets after its gate
abbrev pub kind_at : List ℕ → ℕ → ℕ
kind_at image base =
    ((get_or image (base + 1) 0 * 256 + get_or image (base + 2) 0) * 256 + get_or image
    (base + 3) 0) * 256 + get_or image (base + 4) 0

-- I and SEED, the 48 octets after the kind
abbrev pub secret_at : List ℕ → ℕ → List ℕ
secret_at image base = take 48 (drop (base + 5) image)

-- ---- areas

-- the number of slots of the area at a base
abbrev pub slots_at : List ℕ → ℕ → ℕ
slots_at image base = slots_of (kind_at image base)

-- the offset at which the area with a number begins
unfoldable pub base_of : List ℕ → ℕ → ℕ
base_of image zero = 0
base_of image (suc area) = place_in (base_of image area) (slots_at image (base_of image area))

-- the offset at which a slot begins
abbrev pub place_of : List ℕ → SlotId → ℕ
place_of image slot = place_in (base_of image slot.area) slot.number

-- the gate of a slot
abbrev pub gate_of : List ℕ → SlotId → ℕ
gate_of image slot = gate_at image (place_of image slot)

-- the text of a slot
abbrev pub text_of : List ℕ → SlotId → List ℕ
text_of image slot = text_at image (place_of image slot)

-- the last slot of an area, which is kept for a link text
abbrev pub last_slot : List ℕ → ℕ → SlotId
last_slot image area = record { area = area; number = slots_at image (base_of image area) - 1 }

-- the slot belongs to its area, and all of it lies within the image
pub record IsWithin (image : List ℕ) (slot : SlotId) : Type 0 where
  pub known : slot.number < slots_at image (base_of image slot.area)
  pub whole : place_of image slot + 128 ≤ length image

-- the slot is spent with this text
pub record IsSpentWith (image : List ℕ) (slot : SlotId) (text : List ℕ) : Type 0 where
  pub gate : 0 < gate_of image slot
  pub text_is : text_of image slot ≡ text

-- the last slot of the area is spent with a link text
pub record HasLink (image : List ℕ) (area : ℕ) : Type 0 where
  pub place : IsWithin image (last_slot image area)
  pub gate : 0 < gate_of image (last_slot image area)
  pub link : IsLink (text_of image (last_slot image area))

-- The area is open. The key gate opens the first area, and the signed link text in the previous area opens each
-- later one. At most eight areas are open.
unfoldable pub IsAreaOpen : List ℕ → ℕ → Type 0
IsAreaOpen image zero = 0 < gate_at image 0
IsAreaOpen image (suc area) = IsAreaOpen image area × HasLink image area × (area < 7)

-- the last open area
pub record IsCurrent (image : List ℕ) (area : ℕ) : Type 0 where
  pub is_open : IsAreaOpen image area
  pub no_later : IsAreaOpen image (suc area) → ⊥

-- ---- signed pairs

-- the pair of this slot and this text is signed in this image
pub record IsSigned (image : List ℕ) (slot : SlotId) (text : List ℕ) : Type 0 where
  pub area : IsAreaOpen image slot.area
  pub place : IsWithin image slot
  pub spent : IsSpentWith image slot text

-- ---- steps from one image to another

-- i has the length of d, and equals d outside this range
pub record AgreesOutside (from to : ℕ) (d i : List ℕ) : Type 0 where
  pub long : length i ≡ length d
  pub same : (k : ℕ) → (k < from) ⊎ (to ≤ k) → get_or i k 0 ≡ get_or d k 0

-- only one slot changes
abbrev pub OutsideSlot : SlotId → List ℕ → List ℕ → Type 0
OutsideSlot slot d i = AgreesOutside (place_of d slot) (place_of d slot + 128) d i

-- only the length octet of a slot, the text in it, and its gate change
abbrev pub PutsText : SlotId → List ℕ → List ℕ → List ℕ → Type 0
PutsText slot text d i = AgreesOutside (place_of d slot) (place_of d slot + 2 + length text) d i

-- only a slot's gate changes
abbrev pub OpensGate : SlotId → List ℕ → List ℕ → Type 0
OpensGate slot d i = AgreesOutside (place_of d slot) (place_of d slot + 1) d i

-- both images have this many first octets, and these are equal
pub record SameFront (end : ℕ) (d i : List ℕ) : Type 0 where
  pub long : end ≤ length d
  pub longer : end ≤ length i
  pub same : (k : ℕ) → k < end → get_or i k 0 ≡ get_or d k 0

-- the same pairs are signed
pub record SameSigned (d i : List ℕ) : Type 0 where
  pub keeps : (slot : SlotId) (text : List ℕ) → IsSigned d slot text → IsSigned i slot text
  pub adds_none : (slot : SlotId) (text : List ℕ) → IsSigned i slot text → IsSigned d slot text

-- the same pairs are signed, and possibly also this one
pub record SignsAtMost (slot : SlotId) (text : List ℕ) (d i : List ℕ) : Type 0 where
  pub keeps : (s : SlotId) (t : List ℕ) → IsSigned d s t → IsSigned i s t
  pub adds : (s : SlotId) (t : List ℕ) → IsSigned i s t → IsSigned d s t ⊎ ((s ≡ slot) × (t ≡ text))

-- ---- keys on the disk

-- the number of texts that the key at a base can still sign: its slots with a closed gate, without the last slot
abbrev pub keys_left : List ℕ → ℕ → ℕ
keys_left image base = count_by (λ number. gate_at image (place_in base number) == 0)
    (range_with_len 0 (slots_at image base - 1))

-- the key gate is open: there are at least 64 octets, and the first one is not zero
pub record IsOpen (image : List ℕ) : Type 0 where
  pub long : 64 ≤ length image
  pub gate : 0 < gate_at image 0
