-- What one reading of the content implies for every image.
use Rattle.std.proofs.Common.{◌≡◌, ◌≢◌, ◌⊎◌, ℕ, ◌<◌, List, length, arith, inl, inr, sym, ◌∙◌, subst, ap, get_or, ◌≤◌, suc, true, Option, None, Some, refl}
use Rattle.std.specs.Option.{ForSome}
use Rattle.road_io.specs.declared.disk.Disk.{Ghosts}
use Rattle.road_io.specs.Moments.{Image, EachImage}
use Rattle.key_desk.specs.declared.desk.Desk.{Desk}
use Rattle.desk_areas.specs.declared.area.Count.{Count}
use Rattle.desk_areas.specs.declared.area.Count.TheVariants
use Rattle.desk_areas.specs.Area.{AreaView, area_in, no_area}
use Rattle.desk_areas.specs.Layout.{SlotId, slots_of, slots_at, base_of, place_in, text_at, text_of, IsSigned}
use Rattle.key_desk.specs.Desk.{key_of, counts_of, count_of, slot_here, IsSlotOf, IsSound, HasAreas, Fits}
use Rattle.desk_areas.specs.Reading.{IsLaidOut, FindsIn, FindsEarlier}
use Rattle.lms_tree.specs.Signatures.{KeyOf}
use Rattle.std.proofs.lemmas.Bool.{cases_lt}
use Rattle.std.proofs.lemmas.List.{get_or-map}
use Rattle.desk_areas.proofs.Areas.{base_next}
use Rattle.key_desk.proofs.Counts.{own_here, count_here, key_here, sized_here}
use Rattle.desk_areas.proofs.Growth.{open_upto}
use Rattle.key_desk.proofs.Steps.{signed_by}

-- a signed slot belongs to the desk
pub own_signed : (desk : Desk) (i : List ℕ) (s : SlotId) (text : List ℕ) → HasAreas desk i → IsSigned i s text → IsSlotOf desk s
own_signed desk i s text areas signed =
    let le = open_upto i (length desk.earlier) s.area areas.current signed.area in
    let key = areas.keys s.area le in
    record { area = le; known = subst (λ (k : ℕ). s.number < slots_of k) key.kind signed.place.known }

spent_or_not : (count : Count) → (count ≡ TheVariants.Spent) ⊎ (count ≢ TheVariants.Spent)
spent_or_not TheVariants.Free = inr (λ is. cc)
spent_or_not TheVariants.Out = inr (λ is. cc)
spent_or_not TheVariants.Written = inr (λ is. cc)
spent_or_not TheVariants.Spent = inl refl

module _ {D : Type 0} (g : Ghosts D) (desk : Desk) (disk : D) (fits : Fits g desk disk) (opened : desk.is_open ≡ true)
    (reads : (c : List ℕ) → g.content disk ≡ Some c → Image g disk c) (tells : (i : List ℕ) → Image g disk i → (c : List ℕ) × (g.content disk ≡ Some c)) (text : List ℕ) where
  pub found_everywhere : (s : SlotId) → IsSlotOf desk s → count_of desk s ≡ TheVariants.Spent → ForSome (g.content disk) (λ c. text_of c s ≡ text) → EachImage g disk (λ i. IsSigned i s text)
  found_everywhere s own spent found i now =
      let c = tells i now in
      let same = fits.spent opened i c.0 now (reads c.0 c.1) s own spent in
      signed_by desk i s text (fits.areas i now) own same.open_gate (same.text ∙ found c.0 c.1)

  pub found_nowhere : ForSome (g.content disk) (λ c. (s : SlotId) → IsSlotOf desk s → count_of desk s ≡ TheVariants.Spent → text_of c s ≢ text) → EachImage g disk (λ i. (s : SlotId) → IsSigned i s text → ⊥)
  found_nowhere none i now s signed =
      let own = own_signed desk i s text (fits.areas i now) signed in
      elim (spent_or_not (count_of desk s)) [
        | inl spent ↦
            let c = tells i now in
            let same = fits.spent opened i c.0 now (reads c.0 c.1) s own spent in
            none c.0 c.1 s own spent (sym same.text ∙ signed.spent.text_is)
        | inr isnt ↦ let shut = fits.others opened i now s own isnt in omega (arith, shut, signed.spent.gate)
      ]

-- ---- counting and finding, area by area

pub counts_in_area : (desk : Desk) (area : ℕ) → area < length desk.earlier → counts_of desk area ≡ (area_in desk.earlier area).counts
counts_in_area desk area lt = get_or-map (λ (a : AreaView). a.counts) desk.earlier area no_area desk.counts lt

pub key_in_area : (desk : Desk) (area : ℕ) → area < length desk.earlier → key_of desk area ≡ (area_in desk.earlier area).key
key_in_area desk area lt = get_or-map (λ (a : AreaView). a.key) desk.earlier area no_area desk.key lt

pub laid_out : (desk : Desk) (c : List ℕ) → IsSound desk → HasAreas desk c → IsLaidOut desk.earlier c
laid_out desk c sound areas = record {
  slots = λ area lt.
      let key = areas.keys area (omega arith) in
      ap (λ (k : ℕ). slots_of k) key.kind ∙ sym (sound.sized area (omega arith)) ∙ ap (λ (l : List Count). length l) (counts_in_area desk area lt);
  whole = λ area lt.
      let key = areas.keys area (omega arith) in
      let same : slots_at c (base_of c area) ≡ slots_of (key_of desk area).kind = ap (λ (k : ℕ). slots_of k) key.kind in
      omega (arith, key.within, same, base_next c area);
}

pub some_is : (o : Option (List ℕ)) (x c : List ℕ) → o ≡ Some c → o ≡ Some x → x ≡ c
some_is o x c is told = let f : Option (List ℕ) → List ℕ = λ p. get_or_option p c in ap f (sym told ∙ is)
  where
    get_or_option : Option (List ℕ) → List ℕ → List ℕ
    get_or_option None d = d
    get_or_option (Some y) d = y

pub none_isnt : (o : Option (List ℕ)) (c : List ℕ) → o ≡ None → o ≡ Some c → ⊥
none_isnt o c is told = cc

module _ {D : Type 0} (g : Ghosts D) (desk : Desk) (disk : D) (fits : Fits g desk disk) (opened : desk.is_open ≡ true)
    (reads : (c : List ℕ) → g.content disk ≡ Some c → Image g disk c) (tells : (i : List ℕ) → Image g disk i → (c : List ℕ) × (g.content disk ≡ Some c)) (text : List ℕ) where
  -- a slot that was found in the content read
  at_slot : (c : List ℕ) → g.content disk ≡ Some c → (s : SlotId) → IsSlotOf desk s → count_of desk s ≡ TheVariants.Spent → text_of c s ≡ text → EachImage g disk (λ i. IsSigned i s text)
  at_slot c is s own spent text_is = found_everywhere g desk disk fits opened reads tells text s own spent (λ x told. subst (λ (y : List ℕ). text_of y s ≡ text) (sym (some_is (g.content disk) x c is told)) text_is)

  pub found_here : ForSome (g.content disk) (FindsIn desk.counts desk.base text) → (s : SlotId) × EachImage g disk (λ i. IsSigned i s text)
  found_here found = by_content (g.content disk) refl
    where
      by_content : (o : Option (List ℕ)) → g.content disk ≡ o → (s : SlotId) × EachImage g disk (λ i. IsSigned i s text)
      by_content None is = (slot_here desk 0, λ i now. let c = tells i now in absurd (none_isnt (g.content disk) c.0 is c.1))
      by_content (Some c) is =
          let f = found c is in
          let own = own_here desk f.number (omega (arith, f.known, sized_here desk fits.sound)) in
          let areas = fits.areas c (reads c is) in (
            slot_here desk f.number,
            at_slot c is (slot_here desk f.number) own (count_here desk (slot_here desk f.number) refl ∙ f.spent) (ap (λ (b : ℕ). text_at c (place_in b f.number)) areas.based ∙ f.text_is),
          )

  pub found_before : ForSome (g.content disk) (FindsEarlier desk.earlier text) → (s : SlotId) × EachImage g disk (λ i. IsSigned i s text)
  found_before found = by_content (g.content disk) refl
    where
      by_content : (o : Option (List ℕ)) → g.content disk ≡ o → (s : SlotId) × EachImage g disk (λ i. IsSigned i s text)
      by_content None is = (slot_here desk 0, λ i now. let c = tells i now in absurd (none_isnt (g.content disk) c.0 is c.1))
      by_content (Some c) is =
          let f = found c is in
          let counts = counts_in_area desk f.area f.known in
          let size : length (counts_of desk f.area) ≡ length (area_in desk.earlier f.area).counts = ap (λ (l : List Count). length l) counts in
          let own : IsSlotOf desk (record { area = f.area; number = f.finds.number }) = record { area = omega (arith, f.known); known = omega (arith, f.finds.known, size, fits.sound.sized f.area (omega (arith, f.known))) } in (
            record { area = f.area; number = f.finds.number },
            at_slot c is (record { area = f.area; number = f.finds.number }) own (ap (λ (l : List Count). get_or l f.finds.number TheVariants.Spent) counts ∙ f.finds.spent) f.finds.text_is,
          )

  pub found_none : ForSome (g.content disk) (λ c. FindsIn desk.counts desk.base text c → ⊥) → ForSome (g.content disk) (λ c. FindsEarlier desk.earlier text c → ⊥) → EachImage g disk (λ i. (s : SlotId) → IsSigned i s text → ⊥)
  found_none here before = found_nowhere g desk disk fits opened reads tells text
      (λ c told s own spent text_is. elim (cases_lt s.area (length desk.earlier)) [
        | inl lt ↦
            let counts = counts_in_area desk s.area lt in
            let size : length (counts_of desk s.area) ≡ length (area_in desk.earlier s.area).counts = ap (λ (l : List Count). length l) counts in
            before c told (record {
              area = s.area;
              known = lt;
              finds = record { number = s.number; known = omega (arith, own.known, size, fits.sound.sized s.area (omega arith)); spent = ap (λ (l : List Count). get_or l s.number TheVariants.Spent) (sym counts) ∙ spent; text_is = text_is };
            })
        | inr ge ↦
            let is : s.area ≡ length desk.earlier = omega (arith, own.area, ge) in
            let areas = fits.areas c (reads c told) in
            let number : s.number < slots_of desk.key.kind = subst (λ (k : KeyOf). s.number < slots_of k.kind) (key_here desk s.area is) own.known in
            here c told (record {
              number = s.number;
              known = omega (arith, number, sized_here desk fits.sound);
              spent = sym (count_here desk s is) ∙ spent;
              text_is = ap (λ (b : ℕ). text_at c (place_in b s.number)) (sym areas.based) ∙ ap (λ (a : ℕ). text_at c (place_in (base_of c a) s.number)) (sym is) ∙ text_is;
            })
      ])
