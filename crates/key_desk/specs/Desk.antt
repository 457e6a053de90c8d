-- The common contents of a desk and its disk, and the known facts about each state of a signing.
use Rattle.std.specs.Prelude.{◌≡◌, ◌≢◌, ◌⊎◌, ℕ, suc, ◌+◌, ◌-◌, ◌<◌, ◌≤◌, true, false, Bool, List, take, drop, length, map, slice_index_or, Ok}
use Rattle.std.specs.List.{count_by}
use Rattle.road_io.specs.declared.disk.Disk.{Ghosts}
use Rattle.road_io.specs.Moments.{Image, EachImage}
use Rattle.key_desk.specs.declared.desk.Desk.{Desk}
use Rattle.key_desk.specs.declared.desk.Texted.{Texted}
use Rattle.key_desk.specs.declared.desk.Spent.{Spent}
use Rattle.lms_tree.specs.Signatures.{KeyOf, number_at, public_key, verified}
use Rattle.lms_tree.specs.Links.{IsLink, link_text}
use Rattle.desk_areas.specs.declared.area.Count.{Count}
use Rattle.desk_areas.specs.declared.area.Count.TheVariants
use Rattle.desk_areas.specs.Blank.{HasKey}
use Rattle.desk_areas.specs.Layout.{slots_of, base_of, gate_of, text_of, last_slot, SlotId, IsSigned, IsCurrent, PutsText}

-- ---- a desk's areas

-- the key of an area
abbrev pub key_of : Desk → ℕ → KeyOf
key_of desk area = slice_index_or (map (λ a. a.key) desk.earlier) area desk.key

-- the states of the slots of an area
abbrev pub counts_of : Desk → ℕ → List Count
counts_of desk area = slice_index_or (map (λ a. a.counts) desk.earlier) area desk.counts

-- the slot with a number, in the current area
abbrev pub slot_here : Desk → ℕ → SlotId
slot_here desk number = record { area = length desk.earlier; number = number }

-- the state of a slot
abbrev pub count_of : Desk → SlotId → Count
count_of desk slot = slice_index_or (counts_of desk slot.area) slot.number TheVariants.Spent

-- the state of the slot with a number, in the current area
abbrev pub count_at : Desk → ℕ → Count
count_at desk number = slice_index_or desk.counts number TheVariants.Spent

-- the number of free slots of the current area, without the last slot
abbrev pub is_free : Count → Bool
is_free TheVariants.Free = true
is_free count = false

abbrev pub free_slots : Desk → ℕ
free_slots desk = count_by is_free (take (length desk.counts - 1) desk.counts)

-- a slot of an area of the desk
pub record IsSlotOf (desk : Desk) (slot : SlotId) : Type 0 where
  pub area : slot.area ≤ length desk.earlier
  pub known : slot.number < slots_of (key_of desk slot.area).kind

-- no slot of the current area is free, except possibly the last one, which is kept for a link text
abbrev pub IsUsedUp : Desk → Type 0
IsUsedUp desk = (number : ℕ) → number + 1 < slots_of desk.key.kind →
    count_at desk number ≢ TheVariants.Free

-- the desk counts the slots of each area; no two areas have the same I; and the last slot of the current area is
-- not in use by a signing
pub record IsSound (desk : Desk) : Type 0 where
  pub few : length desk.earlier < 8
  pub known : 0 < slots_of desk.key.kind
  pub sized : (area : ℕ) → area ≤ length desk.earlier →
      length (counts_of desk area) ≡ slots_of (key_of desk area).kind
  pub named : (area : ℕ) → area ≤ length desk.earlier → length (key_of desk area).i ≡ 16
  pub distinct : (a b : ℕ) → a < b → b ≤ length desk.earlier → (key_of desk a).i ≢ (key_of desk b).i
  pub last : (count_at desk (slots_of desk.key.kind - 1) ≡ TheVariants.Free) ⊎
      (count_at desk (slots_of desk.key.kind - 1) ≡ TheVariants.Spent)

-- the desk is open, and the text is written into this slot of the current area; the slot was the lowest one that
-- the desk counted as free
pub record PutsLowest (desk : Desk) (number : ℕ) (text d i : List ℕ) : Type 0 where
  pub opened : desk.is_open ≡ true
  pub free : count_at desk number ≡ TheVariants.Free
  pub lowest : (s : ℕ) → s < number → count_at desk s ≢ TheVariants.Free
  pub alone : PutsText (slot_here desk number) text d i

-- the desk has the same areas as before
pub record SameAreas (old new : Desk) : Type 0 where
  pub earlier : new.earlier ≡ old.earlier
  pub base : new.base ≡ old.base
  pub key : new.key ≡ old.key

-- ---- a desk and its disk

-- the open areas of the image have the desk's keys; the link text before each later area names its key; and no
-- other spent slot holds a link text
pub record HasAreas (desk : Desk) (image : List ℕ) : Type 0 where
  pub current : IsCurrent image (length desk.earlier)
  pub based : base_of image (length desk.earlier) ≡ desk.base
  pub keys : (area : ℕ) → area ≤ length desk.earlier →
      HasKey (key_of desk area) (base_of image area) image
  pub linked : (area : ℕ) → area < length desk.earlier →
      text_of image (last_slot image area) ≡ link_text (public_key (key_of desk (suc area)))
  pub plain : (slot : SlotId) → IsSlotOf desk slot → 0 < gate_of image slot →
      IsLink (text_of image slot) → (slot ≡ last_slot image slot.area) ×
      (slot.area < length desk.earlier)

-- at a slot, two images have the same open gate and the same text
pub record SameSpent (slot : SlotId) (i j : List ℕ) : Type 0 where
  pub open_gate : 0 < gate_of i slot
  pub gate : gate_of i slot ≡ gate_of j slot
  pub text : text_of i slot ≡ text_of j slot

-- the desk's areas are those of each image, and while the desk is open, its states agree with each image
pub record Fits {D : Type 0} (g : Ghosts D) (desk : Desk) (disk : D) : Type 0 where
  pub sound : IsSound desk
  pub areas : EachImage g disk (HasAreas desk)
  pub spent : desk.is_open ≡ true → (i j : List ℕ) → Image g disk i → Image g disk j →
      (slot : SlotId) → IsSlotOf desk slot → count_of desk slot ≡ TheVariants.Spent →
      SameSpent slot i j
  pub others : desk.is_open ≡ true → (i : List ℕ) → Image g disk i → (slot : SlotId) →
      IsSlotOf desk slot → count_of desk slot ≢ TheVariants.Spent → gate_of i slot ≡ 0

-- ---- states of signing

-- the slot is in the current area, and in every image it has this text and a closed gate
pub record KnowsTexted {D : Type 0} (g : Ghosts D) (desk : Desk) (disk : D) (slot : SlotId)
    (text : List ℕ) : Type 0 where
  pub area : slot.area ≡ length desk.earlier
  pub count : count_at desk slot.number ≡ TheVariants.Written
  pub gate : EachImage g disk (λ i. gate_of i slot ≡ 0)
  pub text_is : EachImage g disk (λ i. text_of i slot ≡ text)

-- the slot is in the current area, and the pair is signed in every image
pub record KnowsSpent {D : Type 0} (g : Ghosts D) (desk : Desk) (disk : D) (slot : SlotId)
    (text : List ℕ) : Type 0 where
  pub area : slot.area ≡ length desk.earlier
  pub within : slot.number < slots_of desk.key.kind
  pub count : count_at desk slot.number ≡ TheVariants.Spent
  pub signed : EachImage g disk (λ i. IsSigned i slot text)

-- every known fact about every other slot remains
pub record KeepsKnown {D : Type 0} (g : Ghosts D) (slot : SlotId) (old_desk : Desk) (old_disk : D)
    (new_desk : Desk) (new_disk : D) : Type 0 where
  pub texted : (s : SlotId) (t : List ℕ) → s ≢ slot → KnowsTexted g old_desk old_disk s t →
      KnowsTexted g new_desk new_disk s t
  pub spent : (s : SlotId) (t : List ℕ) → s ≢ slot → KnowsSpent g old_desk old_disk s t →
      KnowsSpent g new_desk new_disk s t

-- every known fact about each state remains
pub record KeepsAllKnown {D : Type 0} (g : Ghosts D) (old_desk : Desk) (old_disk : D)
    (new_desk : Desk) (new_disk : D) : Type 0 where
  pub texted : (s : SlotId) (t : List ℕ) → KnowsTexted g old_desk old_disk s t →
      KnowsTexted g new_desk new_disk s t
  pub spent : (s : SlotId) (t : List ℕ) → KnowsSpent g old_desk old_disk s t →
      KnowsSpent g new_desk new_disk s t

-- a signature with this number, which verifies for the text under the key
pub record IsSignature (key : KeyOf) (number : ℕ) (text out : List ℕ) : Type 0 where
  pub number_is : number_at out 0 ≡ number
  pub good : verified (public_key key) text out ≡ Ok tt

-- the slot and the text of a state
abbrev pub texted_slot : Texted → SlotId
texted_slot texted = record { area = texted.area; number = texted.number }

abbrev pub texted_text : Texted → List ℕ
texted_text texted = take texted.len (drop 1 texted.piece)

abbrev pub spent_slot : Spent → SlotId
spent_slot spent = record { area = spent.area; number = spent.number }

abbrev pub spent_text : Spent → List ℕ
spent_text spent = take spent.len (drop 1 spent.piece)
