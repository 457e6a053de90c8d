-- No step of a life, except a torn write of `succeed`, leaves a link text that waits while the next area is in use.
use Rattle.std.proofs.Common.{◌≡◌, ◌≢◌, ℕ, suc, ◌+◌, ◌-◌, ◌*◌, ◌<◌, ◌≤◌, min, List, length, get_or, drop, arith, inl, inr, refl, sym, ◌∙◌, ap, subst, length-take}
use Rattle.std.proofs.lemmas.Bool.{cases_lt}
use Rattle.lms_tree.specs.Signatures.{KeyOf}
use Rattle.lms_tree.specs.Links.{IsLink}
use Rattle.desk_areas.specs.Layout.{SlotId, slots_of, slots_at, place_in, base_of, place_of, gate_at, text_at, gate_of, text_of, last_slot, IsAreaOpen, IsCurrent, OutsideSlot, PutsText}
use Rattle.desk_areas.specs.Blank.{IsFresh}
use Rattle.desk_areas.proofs.Areas
use Rattle.desk_areas.proofs.Areas.{base_first, base_next, area_below, open_first, open_link, open_down, early_no_link}
use Rattle.desk_areas.proofs.Growth.{one_current}
use Rattle.desk_areas.proofs.Pieces.{widen}
use Rattle.key_desk.specs.Spending.{IsLowestFree, OpensTexted}
use Rattle.key_desk.specs.Succession.{IsUnspent}
use Rattle.key_desk.proofs.Blanks.{blank_current}
use Rattle.desk_sight.specs.Areas.{IsWhole}
use Rattle.desk_sight.specs.Looks.{OpensLink, MaySpend}
use Rattle.desk_sight.specs.Tidy.{IsUntouched, HasFreshLink}
use Rattle.desk_sight.specs.declared.looking.Use.{Use}
use Rattle.desk_sight.specs.declared.looking.Use.TheVariants.{Key, Publish, Succeed, Links}
use Rattle.desk_sight.proofs.TidySteps
use Rattle.desk_sight.proofs.TidySteps.{whole_back, blank_unlinked}

-- an empty text is not a link
no_link_at : (image : List ℕ) (place : ℕ) → get_or image (place + 1) 0 ≡ 0 → IsLink (text_at image place) → ⊥
no_link_at image place none link =
    let size = link.size in
    omega (arith, none, size, length-take (min (get_or image (place + 1) 0) 126) (drop (place + 2) image))

-- ---- an area of which nothing is in use

-- such an area is fresh if it is the current one, since its last slot holds no text
unused_fresh : (image : List ℕ) (area : ℕ) → IsCurrent image area → ((k : ℕ) → base_of image area + 53 ≤ k → k < place_in (base_of image area) (slots_at image (base_of image area)) → get_or image k 0 ≡ 0) → HasFreshLink image
unused_fresh image area is zeros a current whole shut link =
    let here : area ≡ a = one_current image area a is current in
    let zeros_a = subst (λ (x : ℕ). (k : ℕ) → base_of image x + 53 ≤ k → k < place_in (base_of image x) (slots_at image (base_of image x)) → get_or image k 0 ≡ 0) here zeros in
    let known = whole.known in
    absurd (no_link_at image (place_of image (last_slot image a)) (zeros_a (place_of image (last_slot image a) + 1) (omega arith) (omega (arith, known))) link)

-- a first key
pub key_fresh : (key : KeyOf) (image : List ℕ) → IsFresh key image → HasFreshLink image
key_fresh key image (inl shut) a current whole gate link =
    let first = open_first image (open_down image 0 a (omega arith) current.is_open) in
    let within = whole.within in
    absurd (shut (record { long = omega (arith, within); gate = first }))
key_fresh key image (inr blank) a current whole gate link =
    let base = base_first image in
    let slots : slots_at image (base_of image 0) ≡ slots_of key.kind = ap (λ (b : ℕ). slots_at image b) base ∙ ap (λ (k : ℕ). slots_of k) blank.area.block.kind in
    unused_fresh image 0 (blank_current key image blank) (λ k low high. blank.area.zero k (omega (arith, low, base)) (omega (arith, high, base, slots))) a current whole gate link

-- the next key
pub next_fresh : (key : KeyOf) (image : List ℕ) (area : ℕ) → IsCurrent image area → IsUnspent key (base_of image area) image → HasFreshLink image
next_fresh key image area current it =
    let slots : slots_at image (base_of image area) ≡ slots_of key.kind = ap (λ (k : ℕ). slots_of k) it.blank.block.kind in
    unused_fresh image area current (λ k low high. it.blank.zero k low (omega (arith, high, slots)))

-- ---- the octets that leave an area unused

untouched_same : (d i : List ℕ) (area : ℕ) → base_of i area ≡ base_of d area → slots_at i (base_of i area) ≡ slots_at d (base_of d area) → ((k : ℕ) → base_of d area ≤ k → k ≤ place_in (base_of d area) (slots_at d (base_of d area)) → get_or i k 0 ≡ get_or d k 0) → IsUntouched d area → IsUntouched i area
untouched_same d i area bases slots same was = record {
  gate = ap (λ (b : ℕ). gate_at i b) bases ∙ same (base_of d area) (omega arith) (omega arith) ∙ was.gate;
  first = ap (λ (b : ℕ). gate_at i (place_in b 0)) bases ∙ same (place_in (base_of d area) 0) (omega arith) (omega arith) ∙ was.first;
  zero = λ k low high. same k (omega (arith, low, bases)) (omega (arith, high, bases, slots)) ∙ was.zero k (omega (arith, low, bases)) (omega (arith, high, bases, slots));
}

-- ---- a change in the lowest free slot

module _ (slot : SlotId) (d i : List ℕ) (free : IsLowestFree d slot) (outside : OutsideSlot slot d i) where
  known : slot.number < slots_at d (base_of d slot.area)
  known = let early = free.early in omega (arith, early)

  early_i : slot.number + 1 < slots_at i (base_of i slot.area)
  early_i = let early = free.early in omega (arith, early, Areas.slots_same slot d i outside known slot.area)

  current_back : (a : ℕ) → IsCurrent i a → IsCurrent d a
  current_back a current = record {
    is_open = Areas.open_kept slot i d (Areas.turned slot d i outside known) (Areas.known_turned slot d i outside known) a (λ b lt. early_no_link slot i early_i b) current.is_open;
    no_later = λ later. current.no_later (Areas.open_kept slot d i outside known (suc a) (λ b lt. early_no_link slot d free.early b) later);
  }

  pub slot_fresh : HasFreshLink d → HasFreshLink i
  slot_fresh fresh a current whole shut link =
      let was = current_back a current in
      let here : a ≡ slot.area = one_current d a slot.area was free.current in
      let bases = Areas.bases slot d i outside known in
      let slots = Areas.slots_same slot d i outside known in
      let whole_d = whole_back d i a (bases a) (slots a) outside.long whole in
      let some = whole_d.known in
      let known_last : (last_slot d a).number < slots_at d (base_of d a) = omega (arith, some) in
      let ne : last_slot d a ≢ slot = (λ is.
      let number : slots_at d (base_of d a) - 1 ≡ slot.number = ap (λ (s : SlotId). s.number) is in
      let same : slots_at d (base_of d a) ≡ slots_at d (base_of d slot.area) = ap (λ (x : ℕ). slots_at d (base_of d x)) here in
      let early = free.early in
      omega (arith, number, same, early)) in
      let last : last_slot i a ≡ last_slot d a = Areas.lasts slot d i outside known a in
      let shut_d : gate_of d (last_slot d a) ≡ 0 = sym (Areas.gate_same slot d i outside known (last_slot d a) ne known_last) ∙ subst (λ (s : SlotId). gate_of i s ≡ 0) last shut in
      let link_d : IsLink (text_of d (last_slot d a)) = subst IsLink (Areas.text_same slot d i outside known (last_slot d a) ne known_last) (subst (λ (s : SlotId). IsLink (text_of i s)) last link) in
      let le = area_below d slot.area (suc a) (omega (arith, here)) in
      untouched_same d i (suc a) (bases (suc a)) (slots (suc a)) (λ k low high. outside.same k (inr (omega (arith, low, le, known)))) (fresh a was whole_d shut_d link_d)

pub text_fresh : (slot : SlotId) (text d i : List ℕ) → length text ≤ 104 → IsLowestFree d slot → PutsText slot text d i → HasFreshLink d → HasFreshLink i
text_fresh slot text d i short free alone = slot_fresh slot d i free (widen (place_of d slot) (place_of d slot + 2 + length text) (place_of d slot) (place_of d slot + 128) d i (omega arith) (omega arith) alone)

texted_fresh : (d i : List ℕ) → OpensTexted d i → HasFreshLink d → HasFreshLink i
texted_fresh d i opens = slot_fresh opens.slot d i opens.texted.free (widen (place_of d opens.slot) (place_of d opens.slot + 1) (place_of d opens.slot) (place_of d opens.slot + 128) d i (omega arith) (omega arith) opens.alone)

-- ---- the gate of a link that waits

module _ (d i : List ℕ) (opens : OpensLink d i) (fresh : HasFreshLink d) where
  abbrev at : ℕ
  at = opens.closed.area

  abbrev link_slot : SlotId
  link_slot = last_slot d at

  abbrev outside : OutsideSlot (last_slot d at) d i
  outside = TidySteps.link_outside d i opens

  abbrev link_known : link_slot.number < slots_at d (base_of d at)
  link_known = TidySteps.link_known d i opens

  -- no later area was open
  not_behind : IsAreaOpen d (suc at) → ⊥
  not_behind later = let gate = (open_link d at later).gate in let shut = opens.closed.shut in omega (arith, gate, shut)

  here : IsAreaOpen d at → IsUntouched i (suc at)
  here is_open =
      let current : IsCurrent d at = record { is_open = is_open; no_later = not_behind } in
      let was = fresh at current (TidySteps.link_whole d i opens) opens.closed.shut opens.closed.link in
      untouched_same d i (suc at) (TidySteps.bases_l d i opens (suc at)) (TidySteps.slots_l d i opens (suc at)) (λ k low high. TidySteps.behind_link d i opens fresh current k low) was

  module _ (c : ℕ) (before : c < at) (current : IsCurrent i c) (whole : IsWhole i c) (was : IsAreaOpen d c) (shut : gate_of i (last_slot i c) ≡ 0) (link : IsLink (text_of i (last_slot i c))) where
    current_d : IsCurrent d c
    current_d = record {
      is_open = was;
      no_later = λ later. current.no_later (Areas.open_kept link_slot d i outside link_known (suc c) (λ b lt has is. let same : b ≡ at = ap (λ (s : SlotId). s.area) is in omega (arith, same, lt, before)) later);
    }

    whole_d : IsWhole d c
    whole_d = whole_back d i c (TidySteps.bases_l d i opens c) (TidySteps.slots_l d i opens c) outside.long whole

    known_c : (last_slot d c).number < slots_at d (base_of d c)
    known_c = let some = whole_d.known in omega (arith, some)

    other : last_slot d c ≢ link_slot
    other is = let same : c ≡ at = ap (λ (s : SlotId). s.area) is in omega (arith, same, before)

    last : last_slot i c ≡ last_slot d c
    last = Areas.lasts link_slot d i outside link_known c

    untouched_d : IsUntouched d (suc c)
    untouched_d = fresh c current_d whole_d
        (sym (Areas.gate_same link_slot d i outside link_known (last_slot d c) other known_c) ∙ subst (λ (s : SlotId). gate_of i s ≡ 0) last shut)
        (subst IsLink (Areas.text_same link_slot d i outside link_known (last_slot d c) other known_c) (subst (λ (s : SlotId). IsLink (text_of i s)) last link))

    -- the area of the link is not the next area, of which nothing is in use
    apart : suc c ≡ at → ⊥
    apart is =
        let zeros = (subst (IsUntouched d) is untouched_d).zero in
        let some = opens.closed.known in
        no_link_at d (place_of d link_slot) (zeros (place_of d link_slot + 1) (omega arith) (omega (arith, some))) opens.closed.link

    front : IsUntouched i (suc c)
    front = elim (cases_lt (suc c) at) [
      | inr ge ↦ absurd (apart (omega (arith, ge, before)))
      | inl below ↦
          let le = area_below d (suc c) at below in
          untouched_same d i (suc c) (TidySteps.bases_l d i opens (suc c)) (TidySteps.slots_l d i opens (suc c)) (λ k low high. outside.same k (inl (omega (arith, high, le)))) untouched_d
    ]

  opened_fresh : HasFreshLink i
  opened_fresh c current whole shut link = elim (TidySteps.opened d i opens c current.is_open) [
    | inl was ↦ elim (cases_lt at c) [
      | inl more ↦ absurd (not_behind (open_down d (suc at) c (omega (arith, more)) was))
      | inr le ↦ elim (cases_lt c at) [
        | inl before ↦ front c before current whole was shut link
        | inr ge ↦ let is : at ≡ c = omega (arith, le, ge) in subst (λ (x : ℕ). IsUntouched i (suc x)) is (here (open_down d at c (omega (arith, is)) was))
      ]
    ]
    | inr both ↦ elim (cases_lt (suc at) c) [
      | inl beyond ↦ absurd (blank_unlinked i (suc at) (TidySteps.gate_l d i opens fresh both.0) (TidySteps.zeros_l d i opens fresh both.0) (open_link i (suc at) (open_down i (suc (suc at)) c (omega (arith, beyond)) current.is_open)))
      | inr le ↦
          let more = both.1 in
          let is : c ≡ suc at = omega (arith, more, le) in
          unused_fresh i (suc at) (subst (λ (x : ℕ). IsCurrent i x) is current) (TidySteps.zeros_l d i opens fresh both.0) c current whole shut link
    ]
  ]

pub spent_fresh : (what : Use) (d i : List ℕ) → MaySpend what d i → HasFreshLink d → HasFreshLink i
spent_fresh Key d i is fresh = subst HasFreshLink (sym is) fresh
spent_fresh Links d i is fresh = subst HasFreshLink (sym is) fresh
spent_fresh Publish d i (inl is) fresh = subst HasFreshLink (sym is) fresh
spent_fresh Publish d i (inr opens) fresh = texted_fresh d i opens fresh
spent_fresh Succeed d i (inl is) fresh = subst HasFreshLink (sym is) fresh
spent_fresh Succeed d i (inr opens) fresh = opened_fresh d i opens fresh
