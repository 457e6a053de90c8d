-- The steps of one signing taken together.
use Rattle.std.proofs.Common.{◌≡◌, ◌≢◌, ℕ, ◌+◌, ◌-◌, ◌<◌, ◌≤◌, List, length, set, arith, inl, inr, refl, sym, ◌∙◌, ap, subst}
use Rattle.road_io.specs.declared.disk.Disk.{Ghosts}
use Rattle.road_io.specs.Moments.{AtEachMoment}
use Rattle.road_io.specs.Causes.{Rose}
use Rattle.road_io.proofs.MomentLaws.{continued}
use Rattle.key_desk.specs.declared.desk.Desk.{Desk}
use Rattle.desk_areas.specs.declared.area.Count.{Count}
use Rattle.desk_areas.specs.declared.area.Count.TheVariants
use Rattle.desk_areas.specs.Layout.{SlotId, slots_of, slots_at, base_of, place_of, AgreesOutside, SameSigned, SignsAtMost, OutsideSlot}
use Rattle.key_desk.specs.Desk.{count_of, count_at, slot_here, IsSlotOf, Fits, SameAreas, KnowsTexted, KnowsSpent, KeepsKnown, KeepsAllKnown}
use Rattle.desk_areas.proofs.Areas
use Rattle.key_desk.proofs.Counts.{changed, count_here, count_other, this_count, other_counts, sound_changed, other_than}
use Rattle.key_desk.proofs.Steps.{areas_as, own_as}

pub at_most : (q : SlotId) (text d i : List ℕ) → OutsideSlot q d i × SameSigned d i → OutsideSlot q d i × SignsAtMost q text d i
at_most q text d i h = (h.0, record { keeps = h.1.keeps; adds = λ s t signed. inl (h.1.adds_none s t signed) })

pub rose_later : (a b c : ℕ) → a ≤ b → Rose b c → Rose a c
rose_later a b c le rose = omega arith

-- two changes of a slot, one after the other
outside_twice : (q : SlotId) (d e i : List ℕ) → q.number < slots_at d (base_of d q.area) → OutsideSlot q d e → OutsideSlot q e i → OutsideSlot q d i
outside_twice q d e i known h k =
    let place = Areas.places q d e h known q in
    let k' : AgreesOutside (place_of d q) (place_of d q + 128) e i = subst (λ (p : ℕ). AgreesOutside p (p + 128) e i) place k in
    record { long = k'.long ∙ h.long; same = λ n out. k'.same n out ∙ h.same n out }

module _ {D : Type 0} (g : Ghosts D) where
  -- a slot whose state changes and which is spent neither before nor after
  module _ (old : Desk) (disk : D) (q : ℕ) (count : Count) (early : q + 1 < slots_of old.key.kind) (wasnt : count_at old q ≢ TheVariants.Spent) (isnt : count ≢ TheVariants.Spent) where
    now_count : count_of (changed old (set old.counts q count) old.is_open) (slot_here old q) ≡ count
    now_count = count_here (changed old (set old.counts q count) old.is_open) (slot_here old q) refl ∙ this_count old.counts q count wasnt

    pub fits_counted : Fits g old disk → Fits g (changed old (set old.counts q count) old.is_open) disk
    fits_counted fits = record {
      sound = sound_changed old q count old.is_open fits.sound early;
      areas = λ i now. areas_as old (set old.counts q count) old.is_open i (fits.areas i now);
      spent = λ is_open i j now_i now_j s own is. elim (Areas.slot_cases s (slot_here old q)) [
        | inl here ↦ absurd (isnt (sym now_count ∙ subst (λ (x : SlotId). count_of (changed old (set old.counts q count) old.is_open) x ≡ TheVariants.Spent) here is))
        | inr ne ↦ fits.spent is_open i j now_i now_j s (own_as old (set old.counts q count) old.is_open s own) (sym (count_other old q count old.is_open s own.area ne) ∙ is)
      ];
      others = λ is_open i now s own isnt_spent. elim (Areas.slot_cases s (slot_here old q)) [
        | inl here ↦ fits.others is_open i now s (own_as old (set old.counts q count) old.is_open s own)
            (λ was. wasnt (sym (count_here old (slot_here old q) refl) ∙ subst (λ (x : SlotId). count_of old x ≡ TheVariants.Spent) here was))
        | inr ne ↦ fits.others is_open i now s (own_as old (set old.counts q count) old.is_open s own) (λ was. isnt_spent (count_other old q count old.is_open s own.area ne ∙ was))
      ];
    }

    pub known_counted : count_at old q ≢ TheVariants.Written → KeepsAllKnown g old disk (changed old (set old.counts q count) old.is_open) disk
    known_counted unwritten = record {
      texted = λ s t k. record {
        area = k.area;
        count = other_counts old.counts q count s.number (λ at. unwritten (ap (λ (x : ℕ). count_at old x) (sym at) ∙ k.count)) ∙ k.count;
        gate = k.gate;
        text_is = k.text_is;
      };
      spent = λ s t k. record {
        area = k.area;
        within = k.within;
        count = other_counts old.counts q count s.number (λ at. wasnt (ap (λ (x : ℕ). count_at old x) (sym at) ∙ k.count)) ∙ k.count;
        signed = k.signed;
      };
    }

  pub sign_moments : (before mid after : D) (q q' : SlotId) (text t' : List ℕ) → q' ≡ q → t' ≡ text
      → ((d : List ℕ) → g.image_at before (g.clock before) d → q.number < slots_at d (base_of d q.area))
      → AtEachMoment g before mid (λ d i. OutsideSlot q d i × SameSigned d i)
      → AtEachMoment g mid after (λ d i. OutsideSlot q' d i × SignsAtMost q' t' d i)
      → AtEachMoment g before after (λ d i. OutsideSlot q d i × SignsAtMost q text d i)
  sign_moments before mid after q q' text t' slot text_is known first second =
      let there : AtEachMoment g mid after (λ d i. OutsideSlot q d i × SignsAtMost q text d i) =
      subst (λ (x : List ℕ). AtEachMoment g mid after (λ d i. OutsideSlot q d i × SignsAtMost q x d i)) text_is
      (subst (λ (x : SlotId). AtEachMoment g mid after (λ d i. OutsideSlot x d i × SignsAtMost x t' d i)) slot second) in
      continued g before mid after (λ d i. OutsideSlot q d i × SameSigned d i) (λ d i. OutsideSlot q d i × SignsAtMost q text d i) (λ d i. OutsideSlot q d i × SignsAtMost q text d i) first there
      (λ d i now h. at_most q text d i h)
      (λ d e i now_d now_e h k. (
        outside_twice q d e i (known d now_d) h.0 k.0,
        record {
          keeps = λ s t signed. k.1.keeps s t (h.1.keeps s t signed);
          adds = λ s t signed. elim (k.1.adds s t signed) [ inl was ↦ inl (h.1.adds_none s t was) | inr new ↦ inr new ];
        },
      ))

  pub known_twice : (q : SlotId) (a b c : Desk) (x y z : D) → KeepsKnown g q a x b y → KeepsKnown g q b y c z → KeepsKnown g q a x c z
  known_twice q a b c x y z h k = record {
    texted = λ s t ne known. k.texted s t ne (h.texted s t ne known);
    spent = λ s t ne known. k.spent s t ne (h.spent s t ne known);
  }

  -- a signing keeps all known facts about other slots; nothing was known about its own slot, which was free
  pub all_known : (old new : Desk) (before after : D) (q : ℕ) → count_at old q ≡ TheVariants.Free
      → KeepsKnown g (slot_here old q) (changed old (set old.counts q TheVariants.Out) old.is_open) before new after → KeepsAllKnown g old before new after
  all_known old new before after q free keeps = record {
    texted = λ s t k.
        let number : s.number ≢ q = λ is. written_isnt_free _ k.count (ap (λ (x : ℕ). count_at old x) is ∙ free) in
        keeps.texted s t (λ is. number (ap (λ (x : SlotId). x.number) is))
        (record { area = k.area; count = other_counts old.counts q TheVariants.Out s.number number ∙ k.count; gate = k.gate; text_is = k.text_is });
    spent = λ s t k.
        let number : s.number ≢ q = λ is. spent_isnt_free _ k.count (ap (λ (x : ℕ). count_at old x) is ∙ free) in
        keeps.spent s t (λ is. number (ap (λ (x : SlotId). x.number) is))
        (record { area = k.area; within = k.within; count = other_counts old.counts q TheVariants.Out s.number number ∙ k.count; signed = k.signed });
  }
    where
      written_isnt_free : (count : Count) → count ≡ TheVariants.Written → count ≡ TheVariants.Free → ⊥
      written_isnt_free count is was = cc

      spent_isnt_free : (count : Count) → count ≡ TheVariants.Spent → count ≡ TheVariants.Free → ⊥
      spent_isnt_free count is was = cc

-- areas that are unchanged by two changes
pub same_twice : (a b c : Desk) → SameAreas a b → SameAreas b c → SameAreas a c
same_twice a b c h k = record { earlier = k.earlier ∙ h.earlier; base = k.base ∙ h.base; key = k.key ∙ h.key }
