-- The list of the signed pairs has exactly the signed pairs.
use Rattle.std.proofs.Common.{◌≡◌, ◌⊎◌, ℕ, zero, suc, ◌+◌, ◌<◌, ◌≤◌, ◌==◌, List, [], ◌∷◌, ◌++◌, length, take, arith, inl, inr, refl, sym, ◌∙◌, ap, subst, Bool, true, false, nat_lt, nat_le, ◌&&◌}
use Rattle.std.specs.Bool.{Decides}
use Rattle.std.specs.Str.{bytes_eq}
use Rattle.std.proofs.lemmas.Bool.{cases_eq, cases_lt}
use Rattle.std.proofs.lemmas.Bool.Decides.{nat_tests, Decides-and, Decides-eqb}
use Rattle.std.proofs.lemmas.Slice.Eq.{bytes_eq-Decides}
use Rattle.lms_tree.specs.Links.{IsLink, link_mark}
use Rattle.desk_areas.specs.Layout.{SlotId, slots_at, base_of, place_of, gate_at, gate_of, text_of, last_slot, IsWithin, HasLink, IsAreaOpen, IsSigned}
use Rattle.desk_areas.specs.Signed.{is_link, is_within, has_link, is_area_open, is_spent, signed_from, signed_in, signed_before, signed, IsListed}
use Rattle.desk_areas.proofs.Areas.{slot_eq, first_open, open_first, next_open, open_before, open_link, open_few}

-- ---- the tests agree with the statements that they test

untrue : {b : Bool} → b ≡ true → b ≡ false → ⊥
untrue is isnt = cc

below : (m n : ℕ) → Decides (nat_lt m n) (m < n)
below m n = elim (cases_lt m n) [
  | inl lt ↦ (λ is. lt, λ h. grind (arith, nat_tests))
  | inr ge ↦ (λ is. absurd (untrue is (grind (arith, nat_tests))), λ h. absurd (omega (arith, h, ge)))
]

at_most : (m n : ℕ) → Decides (nat_le m n) (m ≤ n)
at_most m n = elim (cases_lt n m) [
  | inl past ↦ (λ is. absurd (untrue is (grind (arith, nat_tests))), λ h. absurd (omega (arith, h, past)))
  | inr le ↦ (λ is. le, λ h. grind (arith, nat_tests))
]

-- a test for P is a test for an equivalent Q
same_told : (b : Bool) (P Q : Type 0) → (P → Q) → (Q → P) → Decides b P → Decides b Q
same_told b P Q to from tells = (λ is. to (tells.0 is), λ h. tells.1 (from h))

link_tells : (text : List ℕ) → Decides (is_link text) (IsLink text)
link_tells text =
    same_told (is_link text) ((length text ≡ 60) × (take 4 text ≡ link_mark)) (IsLink text) (λ h. record { size = h.0; mark = h.1 }) (λ h. (h.size, h.mark))
    (Decides-and (length text == 60) (bytes_eq (take 4 text) link_mark) (Decides-eqb (length text) 60) (bytes_eq-Decides (take 4 text) link_mark))

module _ (image : List ℕ) where
  within_tells : (slot : SlotId) → Decides (is_within image slot) (IsWithin image slot)
  within_tells slot =
      same_told (is_within image slot) ((slot.number < slots_at image (base_of image slot.area)) × (place_of image slot + 128 ≤ length image)) (IsWithin image slot) (λ h. record { known = h.0; whole = h.1 }) (λ h. (h.known, h.whole))
      (Decides-and (nat_lt slot.number (slots_at image (base_of image slot.area))) (nat_le (place_of image slot + 128) (length image))
      (below slot.number (slots_at image (base_of image slot.area))) (at_most (place_of image slot + 128) (length image)))

  has_link_tells : (area : ℕ) → Decides (has_link image area) (HasLink image area)
  has_link_tells area =
      let last = last_slot image area in
      same_told (has_link image area) (IsWithin image last × ((0 < gate_of image last) × IsLink (text_of image last))) (HasLink image area) (λ h. record { place = h.0; gate = h.1.0; link = h.1.1 }) (λ h. (h.place, (h.gate, h.link)))
      (Decides-and (is_within image last) (nat_lt 0 (gate_of image last) && is_link (text_of image last)) (within_tells last)
      (Decides-and (nat_lt 0 (gate_of image last)) (is_link (text_of image last)) (below 0 (gate_of image last)) (link_tells (text_of image last))))

  pub open_tells : (area : ℕ) → Decides (is_area_open image area) (IsAreaOpen image area)
  unfolding is_area_open
  open_tells zero = same_told (nat_lt 0 (gate_at image 0)) (0 < gate_at image 0) (IsAreaOpen image 0) (first_open image) (open_first image) (below 0 (gate_at image 0))
  open_tells (suc area) =
      same_told (is_area_open image area && (has_link image area && nat_lt area 7)) (IsAreaOpen image area × (HasLink image area × (area < 7))) (IsAreaOpen image (suc area))
      (λ h. next_open image area h.0 h.1.0 h.1.1) (λ h. (open_before image area h, (open_link image area h, open_few image area h)))
      (Decides-and (is_area_open image area) (has_link image area && nat_lt area 7) (open_tells area)
      (Decides-and (has_link image area) (nat_lt area 7) (has_link_tells area) (below area 7)))

  spent_tells : (slot : SlotId) → Decides (is_spent image slot) ((0 < gate_of image slot) × (place_of image slot + 128 ≤ length image))
  spent_tells slot =
      Decides-and (nat_lt 0 (gate_of image slot)) (nat_le (place_of image slot + 128) (length image)) (below 0 (gate_of image slot)) (at_most (place_of image slot + 128) (length image))

told : (b : Bool) → (b ≡ true) ⊎ (b ≡ false)
told true = inl refl
told false = inr refl

-- ---- lists

listed_front : (xs ys : List (SlotId × List ℕ)) (slot : SlotId) (text : List ℕ) → IsListed xs slot text → IsListed (xs ++ ys) slot text
listed_front [] ys slot text h = absurd h
listed_front (x ∷ xs) ys slot text (inl is) = inl is
listed_front (x ∷ xs) ys slot text (inr h) = inr (listed_front xs ys slot text h)

listed_back : (xs ys : List (SlotId × List ℕ)) (slot : SlotId) (text : List ℕ) → IsListed ys slot text → IsListed (xs ++ ys) slot text
listed_back [] ys slot text h = h
listed_back (x ∷ xs) ys slot text h = inr (listed_back xs ys slot text h)

listed_in : (xs ys : List (SlotId × List ℕ)) (slot : SlotId) (text : List ℕ) → IsListed (xs ++ ys) slot text → IsListed xs slot text ⊎ IsListed ys slot text
listed_in [] ys slot text h = inr h
listed_in (x ∷ xs) ys slot text (inl is) = inl (inl is)
listed_in (x ∷ xs) ys slot text (inr h) = elim (listed_in xs ys slot text h) [ inl front ↦ inl (inr front) | inr back ↦ inr back ]

-- ---- the slots of one area

module _ (image : List ℕ) (area : ℕ) where
  -- the slot of a number
  abbrev at : ℕ → SlotId
  at number = record { area = area; number = number }

  -- a spent slot that lies within the image is listed
  listed : (n first number : ℕ) → first ≤ number → number < first + n → 0 < gate_of image (at number) → place_of image (at number) + 128 ≤ length image → IsListed (signed_from image area first n) (at number) (text_of image (at number))
  listed zero first number from to gate whole = absurd (omega arith)
  listed (suc n) first number from to gate whole = elim (told (is_spent image (at first))) [
    | inl is ↦ rw is (elim (cases_eq first number) [
      | inl here ↦ inl (ap at here, ap (λ (x : ℕ). text_of image (at x)) here)
      | inr ne ↦ inr (listed n (first + 1) number (omega (arith, ne)) (omega arith) gate whole)
    ])
    | inr isnt ↦ rw isnt (elim (cases_eq first number) [
      | inl here ↦
          let tells = spent_tells image (at first) in
          absurd (untrue (tells.1 (subst (λ (x : ℕ). 0 < gate_of image (at x)) (sym here) gate, subst (λ (x : ℕ). place_of image (at x) + 128 ≤ length image) (sym here) whole)) isnt)
      | inr ne ↦ listed n (first + 1) number (omega (arith, ne)) (omega arith) gate whole
    ])
  ]

  record Listed (first n : ℕ) (slot : SlotId) (text : List ℕ) : Type 0 where
    here : slot.area ≡ area
    from : first ≤ slot.number
    to : slot.number < first + n
    gate : 0 < gate_of image slot
    whole : place_of image slot + 128 ≤ length image
    text_is : text_of image slot ≡ text

  -- and no other slot is listed
  unlisted : (n first : ℕ) (slot : SlotId) (text : List ℕ) → IsListed (signed_from image area first n) slot text → Listed first n slot text
  unlisted zero first slot text h = absurd h
  unlisted (suc n) first slot text h = elim (told (is_spent image (at first))) [
    | inl is ↦ elim (rw is at h) [
      | inl here ↦
          let spent = (spent_tells image (at first)).0 is in
          let number : first ≡ slot.number = ap (λ (s : SlotId). s.number) here.0 in
          record {
            here = sym (ap (λ (s : SlotId). s.area) here.0);
            from = omega (arith, number);
            to = omega (arith, number);
            gate = subst (λ (s : SlotId). 0 < gate_of image s) here.0 spent.0;
            whole = subst (λ (s : SlotId). place_of image s + 128 ≤ length image) here.0 spent.1;
            text_is = sym (ap (λ (s : SlotId). text_of image s) here.0) ∙ here.1;
          }
      | inr later ↦ next n first slot text (unlisted n (first + 1) slot text later)
    ]
    | inr isnt ↦ next n first slot text (unlisted n (first + 1) slot text (rw isnt at h))
  ]
    where
      next : (n first : ℕ) (slot : SlotId) (text : List ℕ) → Listed (first + 1) n slot text → Listed first (suc n) slot text
      next n first slot text l = record { here = l.here; from = omega (arith, l.from); to = omega (arith, l.to); gate = l.gate; whole = l.whole; text_is = l.text_is }

  in_area : (slot : SlotId) (text : List ℕ) → slot.area ≡ area → IsSigned image slot text → IsListed (signed_in image area) slot text
  in_area slot text here s =
      let same : slot ≡ at slot.number = slot_eq slot (at slot.number) here refl in
      let tells = open_tells image area in
      let test : is_area_open image area ≡ true = tells.1 (subst (λ (a : ℕ). IsAreaOpen image a) here s.area) in
      let known : slot.number < slots_at image (base_of image area) = subst (λ (a : ℕ). slot.number < slots_at image (base_of image a)) here s.place.known in
      rw test (subst (λ (x : SlotId). IsListed (signed_from image area 0 (slots_at image (base_of image area))) x text) (sym same)
      (subst (IsListed (signed_from image area 0 (slots_at image (base_of image area))) (at slot.number)) (sym (ap (λ (x : SlotId). text_of image x) same) ∙ s.spent.text_is)
      (listed (slots_at image (base_of image area)) 0 slot.number (omega arith) (omega (arith, known)) (subst (λ (x : SlotId). 0 < gate_of image x) same s.spent.gate) (subst (λ (x : SlotId). place_of image x + 128 ≤ length image) same s.place.whole))))

  of_area : (slot : SlotId) (text : List ℕ) → IsListed (signed_in image area) slot text → IsSigned image slot text
  of_area slot text h = elim (told (is_area_open image area)) [
    | inl is ↦
        let l = unlisted (slots_at image (base_of image area)) 0 slot text (rw is at h) in
        let tells = open_tells image area in
        record {
          area = subst (λ (a : ℕ). IsAreaOpen image a) (sym l.here) (tells.0 is);
          place = record { known = subst (λ (a : ℕ). slot.number < slots_at image (base_of image a)) (sym l.here) (omega (arith, l.to)); whole = l.whole };
          spent = record { gate = l.gate; text_is = l.text_is };
        }
    | inr isnt ↦ absurd (rw isnt at h)
  ]

-- ---- all areas

before : (image : List ℕ) (n : ℕ) (slot : SlotId) (text : List ℕ) → slot.area < n → IsSigned image slot text → IsListed (signed_before image n) slot text
unfolding signed_before
before image zero slot text lt s = absurd (omega (arith, lt))
before image (suc n) slot text lt s = elim (cases_lt slot.area n) [
  | inl below ↦ listed_front (signed_before image n) (signed_in image n) slot text (before image n slot text below s)
  | inr here ↦ listed_back (signed_before image n) (signed_in image n) slot text (in_area image n slot text (omega arith) s)
]

of_before : (image : List ℕ) (n : ℕ) (slot : SlotId) (text : List ℕ) → IsListed (signed_before image n) slot text → IsSigned image slot text
unfolding signed_before
of_before image zero slot text h = absurd h
of_before image (suc n) slot text h = elim (listed_in (signed_before image n) (signed_in image n) slot text h) [
  | inl front ↦ of_before image n slot text front
  | inr back ↦ of_area image n slot text back
]

-- at most eight areas are open
few_open : (image : List ℕ) (area : ℕ) → IsAreaOpen image area → area < 8
few_open image zero is_open = omega arith
few_open image (suc area) is_open = let few = open_few image area is_open in omega arith

pub signed_listed : (image : List ℕ) (slot : SlotId) (text : List ℕ) → IsSigned image slot text → IsListed (signed image) slot text
signed_listed image slot text s = before image 8 slot text (few_open image slot.area s.area) s

pub listed_signed : (image : List ℕ) (slot : SlotId) (text : List ℕ) → IsListed (signed image) slot text → IsSigned image slot text
listed_signed image slot text h = of_before image 8 slot text h

-- if nothing is signed, nothing is listed
none_in : (pairs : List (SlotId × List ℕ)) → ((slot : SlotId) (text : List ℕ) → IsListed pairs slot text → ⊥) → pairs ≡ []
none_in [] none = refl
none_in (pair ∷ pairs) none = absurd (none pair.0 pair.1 (inl (refl, refl)))

pub none_signed : (image : List ℕ) → ((slot : SlotId) (text : List ℕ) → IsSigned image slot text → ⊥) → signed image ≡ []
none_signed image none = none_in (signed image) (λ slot text h. none slot text (listed_signed image slot text h))
