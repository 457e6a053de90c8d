-- The values read from one slot, and what they imply for every image.
use Rattle.std.proofs.Common.{◌≡◌, ◌≢◌, ℕ, ◌+◌, ◌<◌, ◌≤◌, List, length, take, true, inl, inr, arith, sym, ap, ◌∙◌, subst}
use Rattle.std.proofs.lemmas.Bool.{cases_lt}
use Rattle.std.specs.declared.option.Option.TheVariants.{None, Some}
use Rattle.std.specs.Option.{ForSome}
use Rattle.road_io.specs.declared.disk.Disk.{Ghosts}
use Rattle.road_io.specs.Moments.{Image, EachImage}
use Rattle.desk_areas.specs.declared.area.Count.TheVariants
use Rattle.desk_areas.specs.Area.{AreaView, area_in}
use Rattle.desk_areas.specs.Layout.{SlotId, slots_of, slots_at, base_of, place_of, gate_of, text_at}
use Rattle.desk_areas.proofs.Pieces.{slots_few}
use Rattle.key_desk.specs.declared.desk.Desk.{Desk}
use Rattle.key_desk.specs.Desk.{key_of, count_of, IsSlotOf, IsSound, HasAreas, Fits}
use Rattle.key_desk.specs.SlotTexts.{HasInSlot}
use Rattle.key_desk.proofs.Finding.{found_everywhere}

-- a slot's number is small
pub slot_low : (desk : Desk) (slot : SlotId) → IsSlotOf desk slot → slot.number < 1024
slot_low desk slot own = let known = own.known in omega (arith, known, slots_few (key_of desk slot.area).kind)

-- the whole slot lies within the content read
pub slot_within : (desk : Desk) (c : List ℕ) (slot : SlotId) → HasAreas desk c → IsSlotOf desk slot → place_of c slot + 128 ≤ length c
slot_within desk c slot areas own =
    let key = areas.keys slot.area own.area in
    let within = key.within in
    let known = own.known in
    omega (arith, within, known)

module _ {D : Type 0} (g : Ghosts D) (desk : Desk) (disk : D) (fits : Fits g desk disk) (opened : desk.is_open ≡ true)
    (reads : (c : List ℕ) → g.content disk ≡ Some c → Image g disk c) (tells : (i : List ℕ) → Image g disk i → (c : List ℕ) × (g.content disk ≡ Some c)) (slot : SlotId) (own : IsSlotOf desk slot) where
  -- a text that was read from a spent slot
  pub spent_text : (place n : ℕ) (octets : List ℕ) → count_of desk slot ≡ TheVariants.Spent → ((c : List ℕ) → HasAreas desk c → place ≡ place_of c slot) → n ≤ 126
      → ForSome (g.content disk) (λ c. text_at c place ≡ take n octets) → HasInSlot g disk slot octets (Some n)
  spent_text place n octets spent at short read = (
    short,
    found_everywhere g desk disk fits opened reads tells (take n octets) slot own spent
        (λ c told. ap (λ (p : ℕ). text_at c p) (sym (at c (fits.areas c (reads c told)))) ∙ read c told),
  )

  -- and a slot that is not spent
  pub unspent : (octets : List ℕ) → count_of desk slot ≢ TheVariants.Spent → HasInSlot g disk slot octets None
  unspent octets isnt i now = fits.others opened i now slot own isnt
