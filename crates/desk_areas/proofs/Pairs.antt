-- What the octets of one slot sign: no text behind a closed gate, and their text once the gate opens.
use Rattle.std.proofs.Common.{◌≡◌, ◌≢◌, ◌⊎◌, ℕ, suc, ◌+◌, ◌<◌, ◌≤◌, List, arith, inl, inr, refl, sym, ◌∙◌, ap, subst}
use Rattle.std.proofs.lemmas.Bool.{cases_lt, cases_eq}
use Rattle.desk_areas.specs.Layout.{SlotId, slots_at, base_of, place_of, gate_at, text_at, gate_of, text_of, last_slot, HasLink, IsCurrent, IsSigned, AgreesOutside, OutsideSlot, SameSigned, SignsAtMost}
use Rattle.desk_areas.proofs.Pieces.{widen}
use Rattle.desk_areas.proofs.Frame.{gate_apart, text_behind}
use Rattle.desk_areas.proofs.Areas.{slot_cases, places, gate_same, slots_same, signed_kept, turned, known_turned, closed_no_link, early_no_link, open_down, open_link}

-- a slot with an open gate is not one whose gate is closed
other_slot : (d : List ℕ) (s slot : SlotId) → 0 < gate_of d s → gate_of d slot ≡ 0 → s ≢ slot
other_slot d s slot gate shut is = let here : 0 < gate_of d slot = subst (λ (x : SlotId). 0 < gate_of d x) is gate in omega (arith, here, shut)

-- a text behind a closed gate signs nothing
pub text_signs_nothing : (slot : SlotId) (from to : ℕ) (d i : List ℕ) → place_of d slot < from → to ≤ place_of d slot + 128 → slot.number < slots_at d (base_of d slot.area)
    → gate_of d slot ≡ 0 → AgreesOutside from to d i → OutsideSlot slot d i × SameSigned d i
text_signs_nothing slot from to d i low high known shut h =
    let outside : OutsideSlot slot d i = widen from to (place_of d slot) (place_of d slot + 128) d i (omega arith) high h in
    let gate : gate_of i slot ≡ 0 = ap (λ (p : ℕ). gate_at i p) (places slot d i outside known slot) ∙ gate_apart from to d i h (place_of d slot) (inl (omega arith)) ∙ shut in (
      outside,
      record {
        keeps = λ s t signed. signed_kept slot d i outside known s t (λ a lt. closed_no_link slot d shut a) (other_slot d s slot signed.spent.gate shut) signed;
        adds_none = λ s t signed. signed_kept slot i d (turned slot d i outside known) (known_turned slot d i outside known) s t (λ a lt. closed_no_link slot i gate a) (other_slot i s slot signed.spent.gate gate) signed;
      },
    )

-- opening a gate signs at most the text after it
module _ (slot : SlotId) (text d i : List ℕ) (known : slot.number < slots_at d (base_of d slot.area)) (shut : gate_of d slot ≡ 0) (text_is : text_of d slot ≡ text) (h : AgreesOutside (place_of d slot) (place_of d slot + 1) d i) where
  pub gate_outside : OutsideSlot slot d i
  gate_outside = widen (place_of d slot) (place_of d slot + 1) (place_of d slot) (place_of d slot + 128) d i (omega arith) (omega arith) h

  pub text_stays : text_of i slot ≡ text
  text_stays = ap (λ (p : ℕ). text_at i p) (places slot d i gate_outside known slot) ∙ text_behind (place_of d slot) d i h ∙ text_is

  gate_keeps : (s : SlotId) (t : List ℕ) → IsSigned d s t → IsSigned i s t
  gate_keeps s t signed = signed_kept slot d i gate_outside known s t (λ a lt. closed_no_link slot d shut a) (other_slot d s slot signed.spent.gate shut) signed

  here_or : (s : SlotId) (t : List ℕ) → (s ≢ slot → IsSigned i s t → IsSigned d s t) → IsSigned i s t → IsSigned d s t ⊎ ((s ≡ slot) × (t ≡ text))
  here_or s t other signed = elim (slot_cases s slot) [
    | inl is ↦ inr (is, sym signed.spent.text_is ∙ ap (λ (x : SlotId). text_of i x) is ∙ text_stays)
    | inr ne ↦ inl (other ne signed)
  ]

  back_to : (s : SlotId) (t : List ℕ) → ((a : ℕ) → a < s.area → HasLink i a → last_slot i a ≢ slot) → s ≢ slot → IsSigned i s t → IsSigned d s t
  back_to s t = signed_kept slot i d (turned slot d i gate_outside known) (known_turned slot d i gate_outside known) s t

  -- opening the gate of a slot before the last one opens no area
  pub gate_signs_text : slot.number + 1 < slots_at d (base_of d slot.area) → OutsideSlot slot d i × SignsAtMost slot text d i
  gate_signs_text early =
      let early_i : slot.number + 1 < slots_at i (base_of i slot.area) = omega (arith, early, slots_same slot d i gate_outside known slot.area) in (
        gate_outside,
        record { keeps = gate_keeps; adds = λ s t. here_or s t (back_to s t (λ a lt. early_no_link slot i early_i a)) },
      )

  -- opening the gate of the current area's last slot opens at most one area, and all gates of that area are closed
  pub gate_signs_link : IsCurrent d slot.area → ((number : ℕ) → number < slots_at d (base_of d (suc slot.area)) → gate_of d (record { area = suc slot.area; number = number }) ≡ 0) → OutsideSlot slot d i × SignsAtMost slot text d i
  gate_signs_link current fresh = (
    gate_outside,
    record {
      keeps = gate_keeps;
      adds = λ s t. here_or s t (λ ne signed. elim (cases_lt slot.area s.area) [
        | inl later ↦ absurd (none_later s t later signed)
        | inr early ↦ back_to s t (λ a lt has is. let same : a ≡ slot.area = ap (λ (x : SlotId). x.area) is in omega (arith, same, lt, early)) ne signed
      ]);
    },
  )
    where
      none_there : (s : SlotId) → s.area ≡ suc slot.area → s.number < slots_at i (base_of i s.area) → gate_of i s ≡ 0
      none_there s there within =
          let here : s.number < slots_at d (base_of d s.area) = omega (arith, within, slots_same slot d i gate_outside known s.area) in
          let ne : s ≢ slot = λ is. let same : s.area ≡ slot.area = ap (λ (x : SlotId). x.area) is in omega (arith, same, there) in
          gate_same slot d i gate_outside known s ne here
          ∙ ap (λ (a : ℕ). gate_of d (record { area = a; number = s.number })) there
          ∙ fresh s.number (subst (λ (a : ℕ). s.number < slots_at d (base_of d a)) there here)

      none_later : (s : SlotId) (t : List ℕ) → slot.area < s.area → IsSigned i s t → ⊥
      none_later s t later signed = elim (cases_eq s.area (suc slot.area)) [
        | inl next ↦ let shut_there = none_there s next signed.place.known in omega (arith, shut_there, signed.spent.gate)
        | inr beyond ↦
            let has = open_link i (suc slot.area) (open_down i (suc (suc slot.area)) s.area (omega (arith, later, beyond)) signed.area) in
            let shut_there = none_there (last_slot i (suc slot.area)) refl has.place.known in
            omega (arith, shut_there, has.gate)
      ]
