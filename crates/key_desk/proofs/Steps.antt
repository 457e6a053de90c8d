-- The effect of storing one slot on a desk and its disk.
use Rattle.std.proofs.Common.{◌≡◌, ◌≢◌, ◌⊎◌, ℕ, suc, ◌+◌, ◌-◌, ◌<◌, ◌≤◌, Bool, true, false, List, length, set, arith, inl, inr, refl, sym, ◌∙◌, ap, subst}
use Rattle.std.proofs.lemmas.Bool.{cases_eq}
use Rattle.road_io.specs.declared.disk.Disk.{Ghosts}
use Rattle.road_io.specs.Disk.{Stays}
use Rattle.road_io.specs.Moments.{Image, EachImage, AtEachMoment}
use Rattle.road_io.proofs.MomentLaws.{weaker, at_end}
use Rattle.key_desk.specs.declared.desk.Desk.{Desk}
use Rattle.desk_areas.specs.declared.area.Count.{Count}
use Rattle.desk_areas.specs.declared.area.Count.TheVariants
use Rattle.lms_tree.specs.Signatures.{KeyOf, public_key}
use Rattle.lms_tree.specs.Links.{IsLink, link_text}
use Rattle.desk_areas.specs.Layout.{SlotId, slots_of, slots_at, place_in, base_of, place_of, gate_at, text_at, gate_of, text_of, last_slot, HasLink, IsAreaOpen, IsSigned, AgreesOutside, SameSigned, SignsAtMost, OutsideSlot}
use Rattle.desk_areas.specs.Blank.{HasKey, IsBlank}
use Rattle.key_desk.specs.Desk.{key_of, counts_of, count_of, count_at, slot_here, IsSlotOf, IsSound, HasAreas, SameSpent, Fits, KnowsTexted, KnowsSpent, KeepsKnown}
use Rattle.desk_areas.proofs.Areas
use Rattle.desk_areas.proofs.Pairs.{text_signs_nothing, gate_signs_text}
use Rattle.key_desk.proofs.Counts.{changed, key_here, counts_here, count_here, own_here, counted_within, count_other, this_count, sound_changed, sound_closed, written_isnt_spent}

-- ---- areas on an image

-- a slot of the desk is a slot of its area in the image
pub known_on : (desk : Desk) (d : List ℕ) (slot : SlotId) → HasAreas desk d → IsSlotOf desk slot → slot.number < slots_at d (base_of d slot.area)
known_on desk d slot areas own = let key = areas.keys slot.area own.area in subst (λ (k : ℕ). slot.number < slots_of k) (sym key.kind) own.known

-- where the slot with a number in the current area begins
pub place_here : (desk : Desk) (d : List ℕ) (number : ℕ) → HasAreas desk d → place_of d (slot_here desk number) ≡ place_in desk.base number
place_here desk d number areas = ap (λ (b : ℕ). place_in b number) areas.based

-- all of it lies within the image
pub whole_on : (desk : Desk) (d : List ℕ) (slot : SlotId) → HasAreas desk d → IsSlotOf desk slot → place_of d slot + 128 ≤ length d
whole_on desk d slot areas own = let key = areas.keys slot.area own.area in omega (arith, key.within, own.known)

pub areas_as : (desk : Desk) (counts : List Count) (is_open : Bool) (d : List ℕ) → HasAreas desk d → HasAreas (changed desk counts is_open) d
areas_as desk counts is_open d h = record {
  current = h.current;
  based = h.based;
  keys = h.keys;
  linked = h.linked;
  plain = λ s own. h.plain s (record { area = own.area; known = own.known });
}

pub own_as : (desk : Desk) (counts : List Count) (is_open : Bool) (slot : SlotId) → IsSlotOf (changed desk counts is_open) slot → IsSlotOf desk slot
own_as desk counts is_open slot own = record { area = own.area; known = own.known }

-- the facts about the other slots that remain after a change within a slot of the current area
module _ (desk : Desk) (q : ℕ) (d i : List ℕ) (areas : HasAreas desk d) (lt : q < slots_of desk.key.kind) (outside : OutsideSlot (slot_here desk q) d i) where
  known_here : q < slots_at d (base_of d (length desk.earlier))
  known_here = known_on desk d (slot_here desk q) areas (own_here desk q lt)

  pub linked_kept : (area : ℕ) → area < length desk.earlier → text_of i (last_slot i area) ≡ link_text (public_key (key_of desk (suc area)))
  linked_kept area lt =
      let has = Areas.open_link d area (Areas.open_down d (suc area) (length desk.earlier) lt areas.current.is_open) in
      let ne : last_slot d area ≢ slot_here desk q = λ is. let same : area ≡ length desk.earlier = ap (λ (s : SlotId). s.area) is in omega (arith, same, lt) in
      ap (λ (s : SlotId). text_of i s) (Areas.lasts (slot_here desk q) d i outside known_here area)
      ∙ Areas.text_same (slot_here desk q) d i outside known_here (last_slot d area) ne has.place.known
      ∙ areas.linked area lt

  pub plain_kept : (s : SlotId) → s ≢ slot_here desk q → IsSlotOf desk s → 0 < gate_of i s → IsLink (text_of i s) → (s ≡ last_slot i s.area) × (s.area < length desk.earlier)
  plain_kept s ne own gate link =
      let there = known_on desk d s areas own in
      let gate_was : 0 < gate_of d s = omega (arith, gate, Areas.gate_same (slot_here desk q) d i outside known_here s ne there) in
      let was = areas.plain s own gate_was (subst IsLink (Areas.text_same (slot_here desk q) d i outside known_here s ne there) link) in
      (was.0 ∙ sym (Areas.lasts (slot_here desk q) d i outside known_here s.area), was.1)

-- a change within a slot of the current area keeps the areas, if the slot holds no link before and after
module _ (desk : Desk) (q : ℕ) (d i : List ℕ) (areas : HasAreas desk d) (lt : q < slots_of desk.key.kind) (outside : OutsideSlot (slot_here desk q) d i)
    (none_d : (a : ℕ) → HasLink d a → last_slot d a ≢ slot_here desk q) (none_i : (a : ℕ) → HasLink i a → last_slot i a ≢ slot_here desk q) where
  known : q < slots_at d (base_of d (length desk.earlier))
  known = known_on desk d (slot_here desk q) areas (own_here desk q lt)

  open_kept : (area : ℕ) → IsAreaOpen d area → IsAreaOpen i area
  open_kept area = Areas.open_kept (slot_here desk q) d i outside known area (λ a lt. none_d a)

  open_back : (area : ℕ) → IsAreaOpen i area → IsAreaOpen d area
  open_back area = Areas.open_kept (slot_here desk q) i d (Areas.turned (slot_here desk q) d i outside known) (Areas.known_turned (slot_here desk q) d i outside known) area (λ a lt. none_i a)

  key_kept : (area : ℕ) → area ≤ length desk.earlier → HasKey (key_of desk area) (base_of i area) i
  key_kept area le =
      let key = areas.keys area le in
      record {
        kind = Areas.kinds (slot_here desk q) d i outside known area ∙ key.kind;
        secret = Areas.secrets (slot_here desk q) d i outside known area ∙ key.secret;
        within = omega (arith, key.within, outside.long, Areas.bases (slot_here desk q) d i outside known area);
      }

  pub areas_kept : (0 < gate_of i (slot_here desk q) → IsLink (text_of i (slot_here desk q)) → ⊥) → HasAreas desk i
  areas_kept plain = record {
    current = record { is_open = open_kept (length desk.earlier) areas.current.is_open; no_later = λ later. areas.current.no_later (open_back (suc (length desk.earlier)) later) };
    based = Areas.bases (slot_here desk q) d i outside known (length desk.earlier) ∙ areas.based;
    keys = key_kept;
    linked = linked_kept desk q d i areas lt outside;
    plain = λ s own gate link. elim (Areas.slot_cases s (slot_here desk q)) [
      | inl here ↦ absurd (plain (subst (λ (x : SlotId). 0 < gate_of i x) here gate) (subst (λ (x : SlotId). IsLink (text_of i x)) here link))
      | inr ne ↦ plain_kept desk q d i areas lt outside s ne own gate link
    ];
  }

-- so does a change within a slot before the last one
pub areas_kept_early : (desk : Desk) (q : ℕ) (d i : List ℕ) → HasAreas desk d → q + 1 < slots_of desk.key.kind → OutsideSlot (slot_here desk q) d i
    → (0 < gate_of i (slot_here desk q) → IsLink (text_of i (slot_here desk q)) → ⊥) → HasAreas desk i
areas_kept_early desk q d i areas early outside plain =
    areas_kept desk q d i areas (omega (arith, early)) outside (Areas.early_no_link (slot_here desk q) d early_d) (Areas.early_no_link (slot_here desk q) i early_i) plain
  where
    early_d : q + 1 < slots_at d (base_of d (length desk.earlier))
    early_d =
        let key = areas.keys (length desk.earlier) (omega arith) in
        subst (λ (k : ℕ). q + 1 < slots_of k) (sym key.kind) (subst (λ (k : KeyOf). q + 1 < slots_of k.kind) (sym (key_here desk (length desk.earlier) refl)) early)

    early_i : q + 1 < slots_at i (base_of i (length desk.earlier))
    early_i = omega (arith, early_d, Areas.slots_same (slot_here desk q) d i outside (known_on desk d (slot_here desk q) areas (own_here desk q (omega (arith, early)))) (length desk.earlier))

-- ---- a stored slot

module _ {D : Type 0} (g : Ghosts D) (old : Desk) (before after : D) (q : ℕ) (fits : Fits g old before) (early : q + 1 < slots_of old.key.kind) where
  own : IsSlotOf old (slot_here old q)
  own = own_here old q (omega arith)

  -- a change of octets at offsets of the current area is a change of the slot
  at_place : (from to : ℕ) → AtEachMoment g before after (AgreesOutside (place_in old.base q + from) (place_in old.base q + to)) → AtEachMoment g before after (λ d i. AgreesOutside (place_of d (slot_here old q) + from) (place_of d (slot_here old q) + to) d i)
  at_place from to m = weaker g before after _ (λ d i. AgreesOutside (place_of d (slot_here old q) + from) (place_of d (slot_here old q) + to) d i) m
      (λ d i now h. subst (λ (p : ℕ). AgreesOutside (p + from) (p + to) d i) (sym (place_here old d q (fits.areas d now))) h)

  pub write_moments : old.is_open ≡ true → count_at old q ≢ TheVariants.Spent
      → AtEachMoment g before after (AgreesOutside (place_in old.base q + 1) (place_in old.base q + 128)) → AtEachMoment g before after (λ d i. OutsideSlot (slot_here old q) d i × SameSigned d i)
  write_moments is_open isnt m = weaker g before after _ (λ d i. OutsideSlot (slot_here old q) d i × SameSigned d i) (at_place 1 128 m)
      (λ d i now h. text_signs_nothing (slot_here old q) _ _ d i (omega arith) (omega arith) (known_on old d (slot_here old q) (fits.areas d now) own) (fits.others is_open d now (slot_here old q) own (λ is. isnt (sym (count_here old (slot_here old q) refl) ∙ is))) h)

  pub spend_moments : (text : List ℕ) → KnowsTexted g old before (slot_here old q) text
      → AtEachMoment g before after (AgreesOutside (place_in old.base q) (place_in old.base q + 1)) → AtEachMoment g before after (λ d i. OutsideSlot (slot_here old q) d i × SignsAtMost (slot_here old q) text d i)
  spend_moments text knows m = weaker g before after _ (λ d i. OutsideSlot (slot_here old q) d i × SignsAtMost (slot_here old q) text d i) m
      (λ d i now h.
      let areas = fits.areas d now in
      let there : AgreesOutside (place_of d (slot_here old q)) (place_of d (slot_here old q) + 1) d i = subst (λ (p : ℕ). AgreesOutside p (p + 1) d i) (sym (place_here old d q areas)) h in
      gate_signs_text (slot_here old q) text d i (known_on old d (slot_here old q) areas own) (knows.gate d now) (knows.text_is d now) there (early_on d areas))
    where
      early_on : (d : List ℕ) → HasAreas old d → q + 1 < slots_at d (base_of d (length old.earlier))
      early_on d areas =
          let key = areas.keys (length old.earlier) (omega arith) in
          subst (λ (k : ℕ). q + 1 < slots_of k) (sym key.kind) (subst (λ (k : KeyOf). q + 1 < slots_of k.kind) (sym (key_here old (length old.earlier) refl)) early)

  -- for each image after the call there is an image before it that is equal outside the slot
  abbrev pub Frame : Type 0
  Frame = (i : List ℕ) → Image g after i → (d : List ℕ) × Image g before d × OutsideSlot (slot_here old q) d i

  -- no image has a link text in a spent slot there
  abbrev pub Plain : Type 0
  Plain = (i : List ℕ) → Image g after i → 0 < gate_of i (slot_here old q) → IsLink (text_of i (slot_here old q)) → ⊥

  areas_after : Frame → Plain → EachImage g after (HasAreas old)
  areas_after frame plain i now = let f = frame i now in areas_kept_early old q f.0 i (fits.areas f.0 f.1) early f.2 (plain i now)

  pub fits_closed : Frame → Plain → Fits g (changed old old.counts false) after
  fits_closed frame plain = record {
    sound = sound_closed old false fits.sound;
    areas = λ i now. areas_as old old.counts false i (areas_after frame plain i now);
    spent = λ is. absurd (cc (is));
    others = λ is. absurd (cc (is));
  }

  pub fits_open : (count : Count) → old.is_open ≡ true → count_at old q ≢ TheVariants.Spent → Frame → Plain
      → (count ≡ TheVariants.Spent → (i j : List ℕ) → Image g after i → Image g after j → SameSpent (slot_here old q) i j)
      → (count ≢ TheVariants.Spent → (i : List ℕ) → Image g after i → gate_of i (slot_here old q) ≡ 0)
      → Fits g (changed old (set old.counts q count) old.is_open) after
  fits_open count is_open wasnt frame plain here_spent here_other = record {
    sound = sound_changed old q count old.is_open fits.sound early;
    areas = λ i now. areas_as old (set old.counts q count) old.is_open i (areas_after frame plain i now);
    spent = λ _ i j now_i now_j s own_s is. elim (Areas.slot_cases s (slot_here old q)) [
      | inl here ↦ subst (λ (x : SlotId). SameSpent x i j) (sym here) (here_spent (sym now_count ∙ subst (λ (x : SlotId). count_of (changed old (set old.counts q count) old.is_open) x ≡ TheVariants.Spent) here is) i j now_i now_j)
      | inr ne ↦
          let f = frame i now_i in
          let h = frame j now_j in
          let own_was = own_as old (set old.counts q count) old.is_open s own_s in
          let was = fits.spent is_open f.0 h.0 f.1 h.1 s own_was (sym (count_other old q count old.is_open s own_s.area ne) ∙ is) in
          let gate_i = gate_kept f.0 i f.1 f.2 s own_was ne in
          let gate_j = gate_kept h.0 j h.1 h.2 s own_was ne in
          let text_i = text_kept f.0 i f.1 f.2 s own_was ne in
          let text_j = text_kept h.0 j h.1 h.2 s own_was ne in
          record { open_gate = omega (arith, was.open_gate, gate_i); gate = gate_i ∙ was.gate ∙ sym gate_j; text = text_i ∙ was.text ∙ sym text_j }
    ];
    others = λ _ i now s own_s isnt. elim (Areas.slot_cases s (slot_here old q)) [
      | inl here ↦ subst (λ (x : SlotId). gate_of i x ≡ 0) (sym here) (here_other (λ is. isnt (ap (λ (x : SlotId). count_of (changed old (set old.counts q count) old.is_open) x) here ∙ now_count ∙ is)) i now)
      | inr ne ↦
          let f = frame i now in
          let own_was = own_as old (set old.counts q count) old.is_open s own_s in
          gate_kept f.0 i f.1 f.2 s own_was ne ∙ fits.others is_open f.0 f.1 s own_was (λ was. isnt (count_other old q count old.is_open s own_s.area ne ∙ was))
    ];
  }
    where
      now_count : count_of (changed old (set old.counts q count) old.is_open) (slot_here old q) ≡ count
      now_count = count_here (changed old (set old.counts q count) old.is_open) (slot_here old q) refl ∙ this_count old.counts q count wasnt

      gate_kept : (d i : List ℕ) → Image g before d → OutsideSlot (slot_here old q) d i → (s : SlotId) → IsSlotOf old s → s ≢ slot_here old q → gate_of i s ≡ gate_of d s
      gate_kept d i now outside s own_s ne = let areas = fits.areas d now in Areas.gate_same (slot_here old q) d i outside (known_on old d (slot_here old q) areas own) s ne (known_on old d s areas own_s)

      text_kept : (d i : List ℕ) → Image g before d → OutsideSlot (slot_here old q) d i → (s : SlotId) → IsSlotOf old s → s ≢ slot_here old q → text_of i s ≡ text_of d s
      text_kept d i now outside s own_s ne = let areas = fits.areas d now in Areas.text_same (slot_here old q) d i outside (known_on old d (slot_here old q) areas own) s ne (known_on old d s areas own_s)

  -- the known facts about the other slots remain
  pub known_kept : (counts : List Count) (is_open : Bool) → Frame → ((s : ℕ) → s ≢ q → count_at (changed old counts is_open) s ≡ count_at old s) → KeepsKnown g (slot_here old q) old before (changed old counts is_open) after
  known_kept counts is_open frame same = record {
    texted = λ s t ne k.
        let number_ne : s.number ≢ q = λ is. ne (Areas.slot_eq s (slot_here old q) k.area is) in
        let own_s = own_of s k.area (counted_within old s.number fits.sound (λ is. written_isnt_spent _ k.count is)) in
        record {
          area = k.area;
          count = same s.number number_ne ∙ k.count;
          gate = λ i now.
              let f = frame i now in
              let areas = fits.areas f.0 f.1 in
              Areas.gate_same (slot_here old q) f.0 i f.2 (known_on old f.0 (slot_here old q) areas own) s ne (known_on old f.0 s areas own_s) ∙ k.gate f.0 f.1;
          text_is = λ i now.
              let f = frame i now in
              let areas = fits.areas f.0 f.1 in
              Areas.text_same (slot_here old q) f.0 i f.2 (known_on old f.0 (slot_here old q) areas own) s ne (known_on old f.0 s areas own_s) ∙ k.text_is f.0 f.1;
        };
    spent = λ s t ne k.
        let number_ne : s.number ≢ q = λ is. ne (Areas.slot_eq s (slot_here old q) k.area is) in
        record {
          area = k.area;
          within = k.within;
          count = same s.number number_ne ∙ k.count;
          signed = λ i now.
              let f = frame i now in
              let areas = fits.areas f.0 f.1 in
              let known_d = known_on old f.0 (slot_here old q) areas own in
              Areas.signed_kept (slot_here old q) f.0 i f.2 known_d s t
              (λ a lt has is. let same_area : a ≡ length old.earlier = ap (λ (x : SlotId). x.area) is in omega (arith, same_area, lt, k.area)) ne (k.signed f.0 f.1);
        };
  }
    where
      own_of : (s : SlotId) → s.area ≡ length old.earlier → s.number < slots_of old.key.kind → IsSlotOf old s
      own_of s area lt = record { area = omega (arith, area); known = subst (λ (k : KeyOf). s.number < slots_of k.kind) (sym (key_here old s.area area)) lt }

-- an open gate of a desk's slot signs its text
pub signed_by : (desk : Desk) (i : List ℕ) (slot : SlotId) (text : List ℕ) → HasAreas desk i → IsSlotOf desk slot → 0 < gate_of i slot → text_of i slot ≡ text → IsSigned i slot text
signed_by desk i slot text areas own gate text_is = record {
  area = Areas.open_down i slot.area (length desk.earlier) own.area areas.current.is_open;
  place = record { known = known_on desk i slot areas own; whole = whole_on desk i slot areas own };
  spent = record { gate = gate; text_is = text_is };
}

-- if no image changes, a desk fits as before
pub fits_stays : {D : Type 0} (g : Ghosts D) (desk : Desk) (disk new : D) → Fits g desk disk → AtEachMoment g disk new Stays → Fits g desk new
fits_stays g desk disk new fits moments = record {
  sound = fits.sound;
  areas = λ i now. fits.areas i (was i now);
  spent = λ opened i j now_i now_j. fits.spent opened i j (was i now_i) (was j now_j);
  others = λ opened i now. fits.others opened i (was i now);
}
  where
    was : (i : List ℕ) → Image g new i → Image g disk i
    was i now = let e = at_end g disk new Stays moments i now in subst (Image g disk) (sym e.2) e.1
