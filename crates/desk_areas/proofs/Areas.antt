-- Where areas begin, which of them are open, and which facts about them remain after a change within one slot.
use Rattle.std.proofs.Common.{◌≡◌, ◌≢◌, ◌⊎◌, ℕ, zero, suc, ◌+◌, ◌-◌, ◌<◌, ◌≤◌, List, get_or, arith, inl, inr, refl, sym, ◌∙◌, ap, subst}
use Rattle.std.proofs.lemmas.Bool.{cases_lt, cases_eq}
use Rattle.lms_tree.specs.Links.{IsLink}
use Rattle.desk_areas.specs.Layout.{SlotId, slots_of, slots_at, place_in, base_of, place_of, gate_at, text_at, kind_at, secret_at, gate_of, text_of, last_slot, IsWithin, HasLink, IsAreaOpen, IsSigned, AgreesOutside, OutsideSlot}
use Rattle.desk_areas.proofs.Frame.{Apart, back, range_apart, text_apart, gate_apart, kind_kept, apart_within}

-- ---- slots

pub slot_eq : (s q : SlotId) → s.area ≡ q.area → s.number ≡ q.number → s ≡ q
slot_eq s q area number =
    let f : ℕ → ℕ → SlotId = λ a n. record { area = a; number = n } in
    ap (λ (a : ℕ). f a s.number) area ∙ ap (λ (n : ℕ). f q.area n) number

pub slot_cases : (s q : SlotId) → (s ≡ q) ⊎ (s ≢ q)
slot_cases s q = elim (cases_eq s.area q.area) [
  | inl area ↦ elim (cases_eq s.number q.number) [
    | inl number ↦ inl (slot_eq s q area number)
    | inr ne ↦ inr (λ is. ne (ap (λ (x : SlotId). x.number) is))
  ]
  | inr ne ↦ inr (λ is. ne (ap (λ (x : SlotId). x.area) is))
]

-- ---- bases

pub base_first : (image : List ℕ) → base_of image 0 ≡ 0
unfolding base_of
base_first image = refl

pub base_next : (image : List ℕ) (area : ℕ) → base_of image (suc area) ≡ place_in (base_of image area) (slots_at image (base_of image area))
unfolding base_of
base_next image area = refl

pub base_up : (image : List ℕ) (a b : ℕ) → a ≤ b → base_of image a ≤ base_of image b
base_up image a zero le = let is : a ≡ 0 = omega arith in omega (arith, ap (λ (x : ℕ). base_of image x) is)
base_up image a (suc b) le = elim (cases_lt b a) [
  | inl past ↦ let is : a ≡ suc b = omega arith in omega (arith, ap (λ (x : ℕ). base_of image x) is)
  | inr below ↦ omega (arith, base_up image a b below, base_next image b)
]

-- an area ends before later areas begin
pub area_below : (image : List ℕ) (a b : ℕ) → a < b → place_in (base_of image a) (slots_at image (base_of image a)) ≤ base_of image b
area_below image a b lt = let le : suc a ≤ b = omega arith in omega (arith, base_next image a, base_up image (suc a) b le)

-- two slots do not overlap
pub slots_apart : (image : List ℕ) (s q : SlotId) → s ≢ q → s.number < slots_at image (base_of image s.area) → q.number < slots_at image (base_of image q.area)
    → Apart (place_of image s) (place_of image s + 128) (place_of image q) (place_of image q + 128)
slots_apart image s q ne known_s known_q = elim (cases_lt s.area q.area) [
  | inl below ↦ inl (omega (arith, area_below image s.area q.area below, known_s))
  | inr ge ↦ elim (cases_lt q.area s.area) [
    | inl above ↦ inr (omega (arith, area_below image q.area s.area above, known_q))
    | inr le ↦
        let area : s.area ≡ q.area = omega arith in
        let base : base_of image s.area ≡ base_of image q.area = ap (λ (x : ℕ). base_of image x) area in
        elim (cases_lt s.number q.number) [
          | inl below ↦ inl (omega (arith, base))
          | inr not_below ↦ elim (cases_eq s.number q.number) [
            | inl number ↦ absurd (ne (slot_eq s q area number))
            | inr other ↦ inr (omega (arith, base, other))
          ]
        ]
  ]
]

-- ---- open areas

pub first_open : (image : List ℕ) → 0 < gate_at image 0 → IsAreaOpen image 0
unfolding IsAreaOpen
first_open image gate = gate

pub open_first : (image : List ℕ) → IsAreaOpen image 0 → 0 < gate_at image 0
unfolding IsAreaOpen
open_first image is_open = is_open

pub next_open : (image : List ℕ) (area : ℕ) → IsAreaOpen image area → HasLink image area → area < 7 → IsAreaOpen image (suc area)
unfolding IsAreaOpen
next_open image area is_open has few = (is_open, has, few)

pub open_before : (image : List ℕ) (area : ℕ) → IsAreaOpen image (suc area) → IsAreaOpen image area
unfolding IsAreaOpen
open_before image area is_open = is_open.0

pub open_link : (image : List ℕ) (area : ℕ) → IsAreaOpen image (suc area) → HasLink image area
unfolding IsAreaOpen
open_link image area is_open = is_open.1

pub open_few : (image : List ℕ) (area : ℕ) → IsAreaOpen image (suc area) → area < 7
unfolding IsAreaOpen
open_few image area is_open = is_open.2

-- the areas before an open one are open
pub open_down : (image : List ℕ) (a b : ℕ) → a ≤ b → IsAreaOpen image b → IsAreaOpen image a
open_down image a zero le is_open = let is : a ≡ 0 = omega arith in subst (λ (x : ℕ). IsAreaOpen image x) (sym is) is_open
open_down image a (suc b) le is_open = elim (cases_lt b a) [
  | inl past ↦ let is : a ≡ suc b = omega arith in subst (λ (x : ℕ). IsAreaOpen image x) (sym is) is_open
  | inr below ↦ open_down image a b below (open_before image b is_open)
]

-- ---- a change within one slot

module _ (slot : SlotId) (d i : List ℕ) (outside : OutsideSlot slot d i) (known : slot.number < slots_at d (base_of d slot.area)) where
  -- the range of the slot
  abbrev from : ℕ
  from = place_of d slot

  -- no key block overlaps it
  block_apart : (area : ℕ) → Apart (base_of d area) (base_of d area + 64) (place_of d slot) (place_of d slot + 128)
  block_apart area = elim (cases_lt slot.area area) [
    | inl later ↦ inr (omega (arith, area_below d slot.area area later, known))
    | inr before ↦ inl (omega (arith, base_up d area slot.area before))
  ]

  kind_same : (area : ℕ) → kind_at i (base_of d area) ≡ kind_at d (base_of d area)
  kind_same area = kind_kept from (from + 128) d i outside (base_of d area) (block_apart area)

  pub bases : (area : ℕ) → base_of i area ≡ base_of d area
  bases zero = base_first i ∙ sym (base_first d)
  bases (suc area) =
      base_next i area
      ∙ ap (λ (b : ℕ). place_in b (slots_at i b)) (bases area)
      ∙ ap (λ (k : ℕ). place_in (base_of d area) (slots_of k)) (kind_same area)
      ∙ sym (base_next d area)

  pub kinds : (area : ℕ) → kind_at i (base_of i area) ≡ kind_at d (base_of d area)
  kinds area = ap (λ (b : ℕ). kind_at i b) (bases area) ∙ kind_same area

  pub secrets : (area : ℕ) → secret_at i (base_of i area) ≡ secret_at d (base_of d area)
  secrets area = ap (λ (b : ℕ). secret_at i b) (bases area)
      ∙ range_apart from (from + 128) d i outside (base_of d area + 5) 48 (apart_within _ _ (base_of d area) (base_of d area + 64) _ _ (omega arith) (omega arith) (block_apart area))

  pub slots_same : (area : ℕ) → slots_at i (base_of i area) ≡ slots_at d (base_of d area)
  slots_same area = ap (λ (k : ℕ). slots_of k) (kinds area)

  pub places : (s : SlotId) → place_of i s ≡ place_of d s
  places s = ap (λ (b : ℕ). place_in b s.number) (bases s.area)

  pub lasts : (area : ℕ) → last_slot i area ≡ last_slot d area
  lasts area = let f : ℕ → SlotId = λ n. record { area = area; number = n - 1 } in ap f (slots_same area)

  -- every other slot is unchanged
  pub gate_same : (s : SlotId) → s ≢ slot → s.number < slots_at d (base_of d s.area) → gate_of i s ≡ gate_of d s
  gate_same s ne here = ap (λ (p : ℕ). gate_at i p) (places s)
      ∙ gate_apart from (from + 128) d i outside (place_of d s) (apart_within _ _ (place_of d s) (place_of d s + 128) _ _ (omega arith) (omega arith) (slots_apart d s slot ne here known))

  pub text_same : (s : SlotId) → s ≢ slot → s.number < slots_at d (base_of d s.area) → text_of i s ≡ text_of d s
  text_same s ne here = ap (λ (p : ℕ). text_at i p) (places s) ∙ text_apart from (from + 128) d i outside (place_of d s) (slots_apart d s slot ne here known)

  pub within_same : (s : SlotId) → IsWithin d s → IsWithin i s
  within_same s w = record {
    known = omega (arith, w.known, slots_same s.area);
    whole = omega (arith, w.whole, places s, outside.long);
  }

  -- the same change, seen in the opposite direction
  pub turned : OutsideSlot slot i d
  turned = subst (λ (p : ℕ). AgreesOutside p (p + 128) i d) (sym (places slot)) (back from (from + 128) d i outside)

  pub known_turned : slot.number < slots_at i (base_of i slot.area)
  known_turned = omega (arith, known, slots_same slot.area)

  link_kept : (area : ℕ) → last_slot d area ≢ slot → HasLink d area → HasLink i area
  link_kept area ne has =
      let at = sym (lasts area) in
      let gate : 0 < gate_of i (last_slot d area) = omega (arith, gate_same (last_slot d area) ne has.place.known, has.gate) in
      record {
        place = subst (λ (s : SlotId). IsWithin i s) at (within_same (last_slot d area) has.place);
        gate = subst (λ (s : SlotId). 0 < gate_of i s) at gate;
        link = subst (λ (s : SlotId). IsLink (text_of i s)) at (subst IsLink (sym (text_same (last_slot d area) ne has.place.known)) has.link);
      }

  -- an open area stays open if the slot holds no link of an earlier area
  pub open_kept : (area : ℕ) → ((a : ℕ) → a < area → HasLink d a → last_slot d a ≢ slot) → IsAreaOpen d area → IsAreaOpen i area
  open_kept zero apart is_open = let gate : get_or i 0 0 ≡ get_or d 0 0 = outside.same 0 (inl (omega arith)) in first_open i (omega (arith, gate, open_first d is_open))
  open_kept (suc area) apart is_open =
      let has = open_link d area is_open in
      next_open i area (open_kept area (λ a lt. apart a (omega arith)) (open_before d area is_open)) (link_kept area (apart area (omega arith) has) has) (open_few d area is_open)

  pub signed_kept : (s : SlotId) (text : List ℕ) → ((a : ℕ) → a < s.area → HasLink d a → last_slot d a ≢ slot) → s ≢ slot → IsSigned d s text → IsSigned i s text
  signed_kept s text apart ne signed = record {
    area = open_kept s.area apart signed.area;
    place = within_same s signed.place;
    spent = record {
      gate = omega (arith, gate_same s ne signed.place.known, signed.spent.gate);
      text_is = text_same s ne signed.place.known ∙ signed.spent.text_is;
    };
  }

-- if the slot's gate is closed, it holds no link
pub closed_no_link : (slot : SlotId) (d : List ℕ) → gate_of d slot ≡ 0 → (area : ℕ) → HasLink d area → last_slot d area ≢ slot
closed_no_link slot d shut area has is = let gate : 0 < gate_of d slot = subst (λ (s : SlotId). 0 < gate_of d s) is has.gate in omega (arith, gate, shut)

-- and a slot that is not the last of its area holds no link
pub early_no_link : (slot : SlotId) (d : List ℕ) → slot.number + 1 < slots_at d (base_of d slot.area) → (area : ℕ) → HasLink d area → last_slot d area ≢ slot
early_no_link slot d early area has is =
    let here : area ≡ slot.area = ap (λ (s : SlotId). s.area) is in
    let number : slots_at d (base_of d area) - 1 ≡ slot.number = ap (λ (s : SlotId). s.number) is in
    let same : slots_at d (base_of d area) ≡ slots_at d (base_of d slot.area) = ap (λ (a : ℕ). slots_at d (base_of d a)) here in
    omega (arith, number, same, early)
