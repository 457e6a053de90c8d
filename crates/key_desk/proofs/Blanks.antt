-- A new key without a spent slot: its desk fits, and nothing is signed.
use Rattle.std.proofs.Common.{◌≡◌, ◌≢◌, ℕ, zero, suc, ◌+◌, ◌-◌, ◌<◌, ◌≤◌, true, List, [], length, get_or, replicate, arith, inl, refl, sym, ◌∙◌, ap, subst}
use Rattle.std.proofs.lemmas.List.{get_or-replicate, length-replicate}
use Rattle.road_io.specs.declared.disk.Disk.{Ghosts}
use Rattle.road_io.specs.Moments.{Image, EachImage}
use Rattle.lms_tree.specs.Signatures.{KeyOf}
use Rattle.key_desk.specs.declared.desk.Desk.{Desk}
use Rattle.desk_areas.specs.declared.area.Count.TheVariants
use Rattle.desk_areas.specs.Layout.{SlotId, slots_of, slots_at, place_in, base_of, gate_at, gate_of, last_slot, IsAreaOpen, IsCurrent, IsSigned}
use Rattle.desk_areas.specs.Blank.{HasKey, IsBlank}
use Rattle.key_desk.specs.Desk.{key_of, count_of, slot_here, IsSlotOf, IsSound, HasAreas, Fits}
use Rattle.desk_areas.proofs.Areas.{base_first, first_open, open_link, open_down}
use Rattle.desk_areas.proofs.Growth.{open_upto}
use Rattle.key_desk.proofs.Counts.{free_isnt_spent}
use Rattle.key_desk.proofs.Successors.{blank_shut}

-- the desk of a new key
abbrev pub first_desk : KeyOf → Desk
first_desk key = record { earlier = []; base = 0; key = key; counts = replicate (slots_of key.kind) TheVariants.Free; is_open = true }

module _ (key : KeyOf) (i : List ℕ) (blank : IsBlank key i) where
  kind_first : slots_at i (base_of i 0) ≡ slots_of key.kind
  kind_first = ap (λ (b : ℕ). slots_at i b) (base_first i) ∙ ap (λ (k : ℕ). slots_of k) blank.area.block.kind

  shut_first : (s : SlotId) → s.area ≡ 0 → s.number < slots_at i (base_of i s.area) → gate_of i s ≡ 0
  shut_first s is lt =
      ap (λ (a : ℕ). gate_at i (place_in (base_of i a) s.number)) is
      ∙ ap (λ (b : ℕ). gate_at i (place_in b s.number)) (base_first i)
      ∙ blank_shut key 0 i blank.area s.number (omega (arith, kind_first, subst (λ (a : ℕ). s.number < slots_at i (base_of i a)) is lt))

  pub blank_current : IsCurrent i 0
  blank_current = record {
    is_open = first_open i blank.key_open;
    no_later = λ later.
        let has = open_link i 0 later in
        let shut = shut_first (last_slot i 0) refl has.place.known in
        omega (arith, shut, has.gate);
  }

  pub blank_unsigned : (s : SlotId) (text : List ℕ) → IsSigned i s text → ⊥
  blank_unsigned s text signed =
      let le = open_upto i 0 s.area blank_current signed.area in
      let shut = shut_first s (omega (arith, le)) signed.place.known in
      omega (arith, shut, signed.spent.gate)

  pub blank_areas : HasAreas (first_desk key) i
  blank_areas = record {
    current = blank_current;
    based = base_first i;
    keys = λ area le.
        let is : area ≡ 0 = omega arith in
        subst (λ (a : ℕ). HasKey (key_of (first_desk key) a) (base_of i a) i) (sym is) (subst (λ (b : ℕ). HasKey key b i) (sym (base_first i)) blank.area.block);
    linked = λ area lt. absurd (omega arith);
    plain = λ s own gate link.
        let is : s.area ≡ 0 = omega (arith, own.area) in
        let known : s.number < slots_at i (base_of i s.area) = known_first s is own in
        let shut = shut_first s is known in
        absurd (omega (arith, shut, gate));
  }
    where
      known_first : (s : SlotId) → s.area ≡ 0 → IsSlotOf (first_desk key) s → s.number < slots_at i (base_of i s.area)
      known_first s is own =
          let lt : s.number < slots_of key.kind = own.known in
          subst (λ (a : ℕ). s.number < slots_at i (base_of i a)) (sym is) (omega (arith, kind_first, lt))

pub blank_fits : {D : Type 0} (g : Ghosts D) (key : KeyOf) (disk : D) → 0 < slots_of key.kind → length key.i ≡ 16 → EachImage g disk (IsBlank key) → Fits g (first_desk key) disk
blank_fits g key disk known named blank = record {
  sound = record {
    few = omega arith;
    known = known;
    sized = λ area le. length-replicate (slots_of key.kind) TheVariants.Free;
    named = λ area le. named;
    distinct = λ a b lt le. absurd (omega arith);
    last = inl (get_or-replicate (slots_of key.kind) (slots_of key.kind - 1) TheVariants.Free TheVariants.Spent (omega arith));
  };
  areas = λ i now. blank_areas key i (blank i now);
  spent = λ opened i j now_i now_j s own is. absurd (free_isnt_spent (sym (count_free s own) ∙ is));
  others = λ opened i now s own isnt.
      let is : s.area ≡ 0 = omega (arith, own.area) in
      ap (λ (a : ℕ). gate_at i (place_in (base_of i a) s.number)) is ∙ ap (λ (b : ℕ). gate_at i (place_in b s.number)) (base_first i) ∙ blank_shut key 0 i (blank i now).area s.number own.known;
}
  where
    count_free : (s : SlotId) → IsSlotOf (first_desk key) s → count_of (first_desk key) s ≡ TheVariants.Free
    count_free s own = get_or-replicate (slots_of key.kind) s.number TheVariants.Free TheVariants.Spent own.known
