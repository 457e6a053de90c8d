-- The octets of a slot that a signing changes: first the length octet and the text, then the gate.
use Rattle.std.proofs.Common.{◌≡◌, ◌≢◌, ◌⊎◌, ℕ, ◌+◌, ◌<◌, ◌≤◌, true, List, length, arith, inl, inr, refl, sym, ◌∙◌, ap, subst}
use Rattle.road_io.specs.declared.disk.Disk.{Ghosts}
use Rattle.road_io.specs.Moments.{Image, AtEachMoment}
use Rattle.road_io.proofs.MomentLaws.{weaker, continued}
use Rattle.lms_tree.specs.Signatures.{KeyOf}
use Rattle.desk_areas.specs.Layout.{SlotId, slots_of, slots_at, place_in, base_of, place_of, AgreesOutside, OutsideSlot, OpensGate, PutsText, SameSigned, SignsAtMost}
use Rattle.desk_areas.specs.declared.area.Count.TheVariants
use Rattle.desk_areas.proofs.Areas.{places}
use Rattle.desk_areas.proofs.Pieces.{widen}
use Rattle.key_desk.specs.declared.desk.Desk.{Desk}
use Rattle.key_desk.specs.Desk.{count_at, slot_here, IsSlotOf, HasAreas, Fits, KnowsTexted, PutsLowest}
use Rattle.desk_areas.proofs.Pairs.{text_signs_nothing, gate_signs_text}
use Rattle.key_desk.proofs.Counts.{key_here, own_here, count_here}
use Rattle.key_desk.proofs.Steps.{known_on, place_here}

pub unchanged : (from to : ℕ) (d : List ℕ) → AgreesOutside from to d d
unchanged from to d = record { long = refl; same = λ k out. refl }

pub text_within : {D : Type 0} (g : Ghosts D) (old new : D) (place n : ℕ) → n ≤ 126 → AtEachMoment g old new (AgreesOutside (place + 1) (place + 2 + n)) → AtEachMoment g old new (AgreesOutside (place + 1) (place + 128))
text_within g old new place n short m = weaker g old new _ (AgreesOutside (place + 1) (place + 128)) m (λ d i now h. widen (place + 1) (place + 2 + n) (place + 1) (place + 128) d i (omega arith) (omega arith) h)

-- a change at the slot's offset
pub put_here : (desk : Desk) (d i : List ℕ) (number : ℕ) (text : List ℕ) → HasAreas desk d → AgreesOutside (place_in desk.base number + 1) (place_in desk.base number + 2 + length text) d i → PutsText (slot_here desk number) text d i
put_here desk d i number text areas h =
    let at = place_here desk d number areas in
    widen _ _ (place_of d (slot_here desk number)) (place_of d (slot_here desk number) + 2 + length text) d i (omega (arith, at)) (omega (arith, at)) h

pub gate_here : (desk : Desk) (d i : List ℕ) (number : ℕ) → HasAreas desk d → AgreesOutside (place_in desk.base number) (place_in desk.base number + 1) d i → OpensGate (slot_here desk number) d i
gate_here desk d i number areas h =
    let at = place_here desk d number areas in
    widen _ _ (place_of d (slot_here desk number)) (place_of d (slot_here desk number) + 1) d i (omega (arith, at)) (omega (arith, at)) h

pub puts_outside : (slot : SlotId) (text d i : List ℕ) → length text ≤ 126 → PutsText slot text d i → OutsideSlot slot d i
puts_outside slot text d i short h = widen (place_of d slot) (place_of d slot + 2 + length text) (place_of d slot) (place_of d slot + 128) d i (omega arith) (omega arith) h

signs_none : (slot : SlotId) (text d i : List ℕ) → SameSigned d i → SignsAtMost slot text d i
signs_none slot text d i h = record { keeps = h.keeps; adds = λ s t signed. inl (h.adds_none s t signed) }

agrees_twice : (from to : ℕ) (d e i : List ℕ) → AgreesOutside from to d e → AgreesOutside from to e i → AgreesOutside from to d i
agrees_twice from to d e i h k = record { long = let a = h.long in let b = k.long in omega (arith, a, b); same = λ n out. k.same n out ∙ h.same n out }

-- the text, and then the gate
pub puts_then_gate : (slot : SlotId) (text d e i : List ℕ) → length text ≤ 126 → slot.number < slots_at d (base_of d slot.area) → PutsText slot text d e → OpensGate slot e i → PutsText slot text d i
puts_then_gate slot text d e i short known puts gate =
    let at : place_of e slot ≡ place_of d slot = places slot d e (puts_outside slot text d e short puts) known slot in
    agrees_twice (place_of d slot) (place_of d slot + 2 + length text) d e i puts
    (widen (place_of e slot) (place_of e slot + 1) (place_of d slot) (place_of d slot + 2 + length text) e i (omega (arith, at)) (omega (arith, at)) gate)

pub gate_outside_slot : (slot : SlotId) (d i : List ℕ) → OpensGate slot d i → OutsideSlot slot d i
gate_outside_slot slot d i h = widen (place_of d slot) (place_of d slot + 1) (place_of d slot) (place_of d slot + 128) d i (omega arith) (omega arith) h

module _ {D : Type 0} (g : Ghosts D) (old : Desk) (before after : D) (q : ℕ) (fits : Fits g old before) (early : q + 1 < slots_of old.key.kind) (text : List ℕ) where
  own : IsSlotOf old (slot_here old q)
  own = own_here old q (omega arith)

  -- the text is written into a free slot
  pub write_puts : length text ≤ 126 → old.is_open ≡ true → count_at old q ≢ TheVariants.Spent → AtEachMoment g before after (AgreesOutside (place_in old.base q + 1) (place_in old.base q + 2 + length text))
      → AtEachMoment g before after (λ d i. PutsText (slot_here old q) text d i × SameSigned d i)
  write_puts short is_open isnt m = weaker g before after _ (λ d i. PutsText (slot_here old q) text d i × SameSigned d i) m
      (λ d i now h.
      let areas = fits.areas d now in
      let at = place_here old d q areas in
      let both = text_signs_nothing (slot_here old q) (place_of d (slot_here old q) + 1) (place_of d (slot_here old q) + 128) d i (omega arith) (omega arith) (known_on old d (slot_here old q) areas own)
      (fits.others is_open d now (slot_here old q) own (λ is. isnt (sym (count_here old (slot_here old q) refl) ∙ is)))
      (widen (place_in old.base q + 1) (place_in old.base q + 2 + length text) (place_of d (slot_here old q) + 1) (place_of d (slot_here old q) + 128) d i (omega (arith, at)) (omega (arith, at, short)) h) in
      (put_here old d i q text areas h, both.1))

  -- the gate is opened over it
  pub spend_opens : KnowsTexted g old before (slot_here old q) text → AtEachMoment g before after (AgreesOutside (place_in old.base q) (place_in old.base q + 1))
      → AtEachMoment g before after (λ d i. OpensGate (slot_here old q) d i × SignsAtMost (slot_here old q) text d i)
  spend_opens knows m = weaker g before after _ (λ d i. OpensGate (slot_here old q) d i × SignsAtMost (slot_here old q) text d i) m
      (λ d i now h.
      let areas = fits.areas d now in
      let there = gate_here old d i q areas h in
      let both = gate_signs_text (slot_here old q) text d i (known_on old d (slot_here old q) areas own) (knows.gate d now) (knows.text_is d now) there (early_on d areas) in
      (there, both.1))
    where
      early_on : (d : List ℕ) → HasAreas old d → q + 1 < slots_at d (base_of d (length old.earlier))
      early_on d areas =
          let key = areas.keys (length old.earlier) (omega arith) in
          subst (λ (k : ℕ). q + 1 < slots_of k) (sym key.kind) (subst (λ (k : KeyOf). q + 1 < slots_of k.kind) (sym (key_here old (length old.earlier) refl)) early)

-- a signing, at one of its moments
abbrev pub SignStep : Desk → ℕ → List ℕ → List ℕ → List ℕ → Type 0
SignStep desk q text d i = ((i ≡ d) ⊎ PutsLowest desk q text d i) × SignsAtMost (slot_here desk q) text d i

module _ {D : Type 0} (g : Ghosts D) (old : Desk) (before mid : D) (q : ℕ) (text : List ℕ) (fits : Fits g old before) (early : q + 1 < slots_of old.key.kind) (opened : old.is_open ≡ true) (free : count_at old q ≡ TheVariants.Free) (lowest : (s : ℕ) → s < q → count_at old s ≢ TheVariants.Free)
    (puts : AtEachMoment g before mid (λ d i. PutsText (slot_here old q) text d i × SameSigned d i)) where
  lowest_by : (d i : List ℕ) → PutsText (slot_here old q) text d i → PutsLowest old q text d i
  lowest_by d i h = record { opened = opened; free = free; lowest = lowest; alone = h }

  -- a signing that was interrupted before the gate
  pub put_steps : AtEachMoment g before mid (SignStep old q text)
  put_steps = weaker g before mid _ (SignStep old q text) puts (λ d i now h. (inr (lowest_by d i h.0), signs_none (slot_here old q) text d i h.1))

  -- a signing that was not interrupted
  pub sign_steps : (after : D) (slot : SlotId) (t : List ℕ) → length text ≤ 126 → slot ≡ slot_here old q → t ≡ text → AtEachMoment g mid after (λ d i. OpensGate slot d i × SignsAtMost slot t d i) → AtEachMoment g before after (SignStep old q text)
  sign_steps after slot t short slot_is text_is gate =
      let there : AtEachMoment g mid after (λ d i. OpensGate (slot_here old q) d i × SignsAtMost (slot_here old q) text d i) =
      subst (λ (x : List ℕ). AtEachMoment g mid after (λ d i. OpensGate (slot_here old q) d i × SignsAtMost (slot_here old q) x d i)) text_is
      (subst (λ (x : SlotId). AtEachMoment g mid after (λ d i. OpensGate x d i × SignsAtMost x t d i)) slot_is gate) in
      continued g before mid after _ _ (SignStep old q text) puts there
      (λ d i now h. (inr (lowest_by d i h.0), signs_none (slot_here old q) text d i h.1))
      (λ d e i now_d now_e h k. (
        inr (lowest_by d i (puts_then_gate (slot_here old q) text d e i short (known_on old d (slot_here old q) (fits.areas d now_d) (own_here old q (omega (arith, early)))) h.0 k.0)),
        record {
          keeps = λ s t signed. k.1.keeps s t (h.1.keeps s t signed);
          adds = λ s t signed. elim (k.1.adds s t signed) [ inl was ↦ inl (h.1.adds_none s t was) | inr new ↦ inr new ];
        },
      ))

-- a text and a gate lie within their slot
pub puts_within : {D : Type 0} (g : Ghosts D) (old new : D) (slot : SlotId) (text : List ℕ) → length text ≤ 126 → AtEachMoment g old new (λ d i. PutsText slot text d i × SameSigned d i) → AtEachMoment g old new (λ d i. OutsideSlot slot d i × SameSigned d i)
puts_within g old new slot text short m = weaker g old new _ (λ d i. OutsideSlot slot d i × SameSigned d i) m (λ d i now h. (puts_outside slot text d i short h.0, h.1))

pub opens_within : {D : Type 0} (g : Ghosts D) (old new : D) (slot : SlotId) (text : List ℕ) → AtEachMoment g old new (λ d i. OpensGate slot d i × SignsAtMost slot text d i) → AtEachMoment g old new (λ d i. OutsideSlot slot d i × SignsAtMost slot text d i)
opens_within g old new slot text m = weaker g old new _ (λ d i. OutsideSlot slot d i × SignsAtMost slot text d i) m (λ d i now h. (gate_outside_slot slot d i h.0, h.1))
