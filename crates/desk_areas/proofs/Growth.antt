-- The facts about an image that remain if it changes only after all open areas: when the zeros and the key block of
-- a new area are written.
use Rattle.std.proofs.Common.{◌≡◌, ℕ, zero, suc, ◌+◌, ◌-◌, ◌<◌, ◌≤◌, min, List, length, get_or, take, drop, arith, inl, inr, sym, ◌∙◌, ap, subst, length-take, length-drop}
use Rattle.std.proofs.lemmas.Bool.{cases_lt}
use Rattle.std.proofs.lemmas.List.{ext_get_or, get_or-take, get_or-drop}
use Rattle.road_io.specs.Disk.{Torn}
use Rattle.lms_tree.specs.Links.{IsLink}
use Rattle.desk_areas.specs.Layout.{SlotId, slots_of, slots_at, place_in, base_of, place_of, gate_at, text_at, kind_at, secret_at, gate_of, text_of, last_slot, IsWithin, HasLink, IsAreaOpen, IsCurrent, IsSigned, AgreesOutside, SameFront, SameSigned}
use Rattle.desk_areas.proofs.Areas.{base_first, base_next, area_below, first_open, open_first, next_open, open_before, open_link, open_few, open_down}

pub front_back : (end : ℕ) (d i : List ℕ) → SameFront end d i → SameFront end i d
front_back end d i h = record { long = h.longer; longer = h.long; same = λ k lt. sym (h.same k lt) }

pub torn_front : (end at n : ℕ) (d i : List ℕ) → end ≤ at → end ≤ length d → Torn at n d i → SameFront end d i
torn_front end at n d i le long torn = record { long = long; longer = omega (arith, torn.no_shorter, long); same = λ k lt. torn.outside k (omega arith) (inl (omega arith)) }

pub outside_front : (end from to : ℕ) (d i : List ℕ) → end ≤ from → end ≤ length d → AgreesOutside from to d i → SameFront end d i
outside_front end from to d i le long h = record { long = long; longer = omega (arith, h.long, long); same = λ k lt. h.same k (inl (omega arith)) }

module _ (end : ℕ) (d i : List ℕ) (front : SameFront end d i) where
  range_front : (a n : ℕ) → a + n ≤ end → take n (drop a i) ≡ take n (drop a d)
  range_front a n le = ext_get_or 0 _ _ (omega (arith, length-take n (drop a i), length-take n (drop a d), length-drop a i, length-drop a d, front.long, front.longer))
      (λ k lt.
      let below : k < n = omega (arith, lt, length-take n (drop a i)) in
      get_or-take n (drop a i) k 0 below ∙ get_or-drop a i k 0 ∙ front.same (a + k) (omega arith) ∙ sym (get_or-drop a d k 0) ∙ sym (get_or-take n (drop a d) k 0 below))

  text_front : (p : ℕ) → p + 128 ≤ end → text_at i p ≡ text_at d p
  text_front p le =
      let len : get_or i (p + 1) 0 ≡ get_or d (p + 1) 0 = front.same (p + 1) (omega arith) in
      let n = min (get_or d (p + 1) 0) 126 in
      ap (λ (l : ℕ). take (min l 126) (drop (p + 2) i)) len ∙ range_front (p + 2) n (omega arith)

  kind_front : (base : ℕ) → base + 64 ≤ end → kind_at i base ≡ kind_at d base
  kind_front base le =
      let a : get_or i (base + 1) 0 ≡ get_or d (base + 1) 0 = front.same (base + 1) (omega arith) in
      let b : get_or i (base + 2) 0 ≡ get_or d (base + 2) 0 = front.same (base + 2) (omega arith) in
      let e : get_or i (base + 3) 0 ≡ get_or d (base + 3) 0 = front.same (base + 3) (omega arith) in
      let f : get_or i (base + 4) 0 ≡ get_or d (base + 4) 0 = front.same (base + 4) (omega arith) in
      cc

-- ---- the areas up to one area, all of which lie in the unchanged prefix

module _ (end : ℕ) (d i : List ℕ) (front : SameFront end d i) (current : ℕ) (ends : base_of d (suc current) ≤ end) where
  pub area_in : (area : ℕ) → area ≤ current → place_in (base_of d area) (slots_at d (base_of d area)) ≤ end
  area_in area le = omega (arith, area_below d area (suc current) (omega arith), ends)

  pub front_bases : (area : ℕ) → area ≤ suc current → base_of i area ≡ base_of d area
  front_bases zero le = base_first i ∙ sym (base_first d)
  front_bases (suc area) le =
      let within : base_of d area + 64 ≤ end = omega (arith, area_in area (omega arith)) in
      base_next i area
      ∙ ap (λ (b : ℕ). place_in b (slots_at i b)) (front_bases area (omega arith))
      ∙ ap (λ (k : ℕ). place_in (base_of d area) (slots_of k)) (kind_front end d i front (base_of d area) within)
      ∙ sym (base_next d area)

  pub front_kinds : (area : ℕ) → area ≤ current → kind_at i (base_of i area) ≡ kind_at d (base_of d area)
  front_kinds area le = ap (λ (b : ℕ). kind_at i b) (front_bases area (omega arith)) ∙ kind_front end d i front (base_of d area) (omega (arith, area_in area le))

  pub front_secrets : (area : ℕ) → area ≤ current → secret_at i (base_of i area) ≡ secret_at d (base_of d area)
  front_secrets area le = ap (λ (b : ℕ). secret_at i b) (front_bases area (omega arith)) ∙ range_front end d i front (base_of d area + 5) 48 (omega (arith, area_in area le))

  pub front_slots : (area : ℕ) → area ≤ current → slots_at i (base_of i area) ≡ slots_at d (base_of d area)
  front_slots area le = ap (λ (k : ℕ). slots_of k) (front_kinds area le)

  pub front_ends : base_of i (suc current) ≤ end
  front_ends = omega (arith, front_bases (suc current) (omega arith), ends)

  front_places : (s : SlotId) → s.area ≤ current → place_of i s ≡ place_of d s
  front_places s le = ap (λ (b : ℕ). place_in b s.number) (front_bases s.area (omega arith))

  slot_in : (s : SlotId) → s.area ≤ current → s.number < slots_at d (base_of d s.area) → place_of d s + 128 ≤ end
  slot_in s le known = omega (arith, area_in s.area le, known)

  pub front_gate : (s : SlotId) → s.area ≤ current → s.number < slots_at d (base_of d s.area) → gate_of i s ≡ gate_of d s
  front_gate s le known = ap (λ (p : ℕ). gate_at i p) (front_places s le) ∙ front.same (place_of d s) (omega (arith, slot_in s le known))

  pub front_text : (s : SlotId) → s.area ≤ current → s.number < slots_at d (base_of d s.area) → text_of i s ≡ text_of d s
  front_text s le known = ap (λ (p : ℕ). text_at i p) (front_places s le) ∙ text_front end d i front (place_of d s) (slot_in s le known)

  front_within : (s : SlotId) → s.area ≤ current → IsWithin d s → IsWithin i s
  front_within s le w = record {
    known = omega (arith, w.known, front_slots s.area le);
    whole = omega (arith, front_places s le, slot_in s le w.known, front.longer);
  }

  pub front_lasts : (area : ℕ) → area ≤ current → last_slot i area ≡ last_slot d area
  front_lasts area le = let f : ℕ → SlotId = λ n. record { area = area; number = n - 1 } in ap f (front_slots area le)

  pub front_link : (area : ℕ) → area ≤ current → HasLink d area → HasLink i area
  front_link area le has =
      let at = sym (front_lasts area le) in
      let gate : 0 < gate_of i (last_slot d area) = omega (arith, front_gate (last_slot d area) le has.place.known, has.gate) in
      record {
        place = subst (λ (s : SlotId). IsWithin i s) at (front_within (last_slot d area) le has.place);
        gate = subst (λ (s : SlotId). 0 < gate_of i s) at gate;
        link = subst (λ (s : SlotId). IsLink (text_of i s)) at (subst IsLink (sym (front_text (last_slot d area) le has.place.known)) has.link);
      }

  pub front_open : (area : ℕ) → area ≤ current → IsAreaOpen d area → IsAreaOpen i area
  front_open zero le is_open =
      let gate : get_or i 0 0 ≡ get_or d 0 0 = front.same 0 (omega (arith, area_in 0 le)) in
      first_open i (omega (arith, gate, open_first d is_open))
  front_open (suc area) le is_open =
      next_open i area (front_open area (omega arith) (open_before d area is_open)) (front_link area (omega arith) (open_link d area is_open)) (open_few d area is_open)

-- an open area is not after the current one
pub open_upto : (image : List ℕ) (current area : ℕ) → IsCurrent image current → IsAreaOpen image area → area ≤ current
open_upto image current area is is_open = elim (cases_lt current area) [
  | inl later ↦ absurd (is.no_later (open_down image (suc current) area later is_open))
  | inr le ↦ le
]

-- exactly one open area is the last
pub one_current : (image : List ℕ) (a b : ℕ) → IsCurrent image a → IsCurrent image b → a ≡ b
one_current image a b h k = omega (arith, open_upto image b a k h.is_open, open_upto image a b h k.is_open)

module _ (end : ℕ) (d i : List ℕ) (front : SameFront end d i) (current : ℕ) (ends : base_of d (suc current) ≤ end) (is : IsCurrent d current) where
  -- the current area stays the current one
  pub front_current : IsCurrent i current
  front_current = record {
    is_open = front_open end d i front current ends current (omega arith) is.is_open;
    no_later = λ later.
        is.no_later (next_open d current is.is_open (front_link end i d (front_back end d i front) current (front_ends end d i front current ends) current (omega arith) (open_link i current later)) (open_few i current later));
  }

  front_signed : (s : SlotId) (t : List ℕ) → IsSigned d s t → IsSigned i s t
  front_signed s t signed =
      let le = open_upto d current s.area is signed.area in
      record {
        area = front_open end d i front current ends s.area le signed.area;
        place = front_within end d i front current ends s le signed.place;
        spent = record {
          gate = omega (arith, front_gate end d i front current ends s le signed.place.known, signed.spent.gate);
          text_is = front_text end d i front current ends s le signed.place.known ∙ signed.spent.text_is;
        };
      }

-- the same pairs are signed
pub front_signs : (end : ℕ) (d i : List ℕ) → SameFront end d i → (current : ℕ) → base_of d (suc current) ≤ end → IsCurrent d current → SameSigned d i
front_signs end d i front current ends is = record {
  keeps = front_signed end d i front current ends is;
  adds_none = front_signed end i d (front_back end d i front) current (front_ends end d i front current ends) (front_current end d i front current ends is);
}
