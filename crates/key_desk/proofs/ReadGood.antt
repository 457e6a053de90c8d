-- The areas that a desk fits can be used.
use Rattle.std.proofs.Common.{◌≡◌, ◌≢◌, ◌⊎◌, ℕ, suc, ◌+◌, ◌-◌, ◌<◌, ◌≤◌, List, ◌++◌, length, take, drop, arith, inl, inr, refl, sym, ◌∙◌, ap, subst}
use Rattle.std.proofs.lemmas.Bool.{cases_lt}
use Rattle.std.proofs.lemmas.List.{take_at, drop_at}
use Rattle.lms_tree.specs.Signatures.{KeyOf, public_key}
use Rattle.lms_tree.specs.Links.{IsLink, link_text, linked_key}
use Rattle.key_desk.specs.declared.desk.Desk.{Desk}
use Rattle.desk_areas.specs.Layout.{SlotId, slots_of, slots_at, place_in, base_of, gate_at, text_at, gate_of, text_of, kind_at, secret_at, last_slot, HasLink, IsOpen}
use Rattle.desk_areas.specs.Keys.{key_from, key_at}
use Rattle.desk_areas.specs.Faults.{IsBadArea, UnknownKind, TooShort, StrayLink, IsFaulty, Alone, SameName, OtherKey, NinthKey, IsBadBlock}
use Rattle.desk_areas.specs.Blank.{HasKey}
use Rattle.key_desk.specs.Desk.{key_of, IsSlotOf, IsSound, HasAreas}
use Rattle.desk_areas.proofs.Areas
use Rattle.desk_areas.proofs.Growth.{open_upto}
use Rattle.key_desk.proofs.Successors.{slots_on}

-- the key of a block is determined
pub key_is : (key : KeyOf) (base : ℕ) (c : List ℕ) → HasKey key base c → length key.i ≡ 16 → key_at c base ≡ key
key_is key base c has named =
    let f : ℕ → List ℕ → List ℕ → KeyOf = λ k i s. record { kind = k; i = i; seed = s } in
    let front : take 16 (secret_at c base) ≡ key.i = ap (λ (l : List ℕ). take 16 l) has.secret ∙ take_at key.i key.seed 16 named in
    let back : drop 16 (secret_at c base) ≡ key.seed = ap (λ (l : List ℕ). drop 16 l) has.secret ∙ drop_at key.i key.seed 16 named in
    ap (λ (k : ℕ). f k (take 16 (secret_at c base)) (drop 16 (secret_at c base))) has.kind
    ∙ ap (λ (i : List ℕ). f key.kind i (drop 16 (secret_at c base))) front
    ∙ ap (λ (s : List ℕ). f key.kind key.i s) back

module _ (desk : Desk) (c : List ℕ) (sound : IsSound desk) (areas : HasAreas desk c) where
  key_there : (a : ℕ) → a ≤ length desk.earlier → key_at c (base_of c a) ≡ key_of desk a
  key_there a le = key_is (key_of desk a) (base_of c a) c (areas.keys a le) (sound.named a le)

  slots_there : (a : ℕ) → a ≤ length desk.earlier → slots_at c (base_of c a) ≡ slots_of (key_of desk a).kind
  slots_there a le = let has = areas.keys a le in ap (λ (k : ℕ). slots_of k) has.kind

  some_there : (a : ℕ) → a ≤ length desk.earlier → 0 < slots_at c (base_of c a)
  some_there a le = elim (cases_lt a (length desk.earlier)) [
    | inl lt ↦ let has = Areas.open_link c a (Areas.open_down c (suc a) (length desk.earlier) lt areas.current.is_open) in omega (arith, has.place.known)
    | inr ge ↦
        let is : a ≡ length desk.earlier = omega arith in
        let same : slots_at c (base_of c a) ≡ slots_of desk.key.kind = ap (λ (n : ℕ). slots_at c (base_of c n)) is ∙ slots_on desk c areas in
        omega (arith, same, sound.known)
  ]

  own_there : (a number : ℕ) → a ≤ length desk.earlier → number < slots_at c (base_of c a) → IsSlotOf desk (record { area = a; number = number })
  own_there a number le lt = record { area = le; known = omega (arith, lt, slots_there a le) }

  alone : (a : ℕ) → a ≤ length desk.earlier → IsBadArea c (base_of c a) → ⊥
  alone a le (UnknownKind none) = let some = some_there a le in omega (arith, some, none)
  alone a le (TooShort short) = let has = areas.keys a le in omega (arith, has.within, slots_there a le, short)
  alone a le (StrayLink number early gate link) =
      let was = areas.plain (record { area = a; number = number }) (own_there a number le (omega arith)) gate link in
      let last : number ≡ slots_at c (base_of c a) - 1 = ap (λ (s : SlotId). s.number) was.0 in
      omega (arith, last, early)

  faulty : (a : ℕ) → a ≤ length desk.earlier → IsFaulty c a → ⊥
  faulty a le (Alone bad) = alone a le bad
  faulty a le (SameName other lt same) =
      sound.distinct other a lt le (ap (λ (k : KeyOf). k.i) (sym (key_there other (omega arith))) ∙ same ∙ ap (λ (k : KeyOf). k.i) (key_there a le))
  faulty a le (OtherKey before is ne) =
      ne (ap (λ (l : List ℕ). linked_key l) (areas.linked before (omega arith))
      ∙ ap (λ (n : ℕ). public_key (key_of desk n)) (sym is)
      ∙ ap (λ (k : KeyOf). public_key k) (sym (key_there a le)))
  faulty a le (NinthKey seven has) =
      let was = areas.plain (last_slot c a) (own_there a (slots_at c (base_of c a) - 1) le has.place.known) has.gate has.link in
      let few = sound.few in
      omega (arith, was.1, seven, few)

  pub not_bad : IsBadBlock c → ⊥
  not_bad bad = faulty bad.area (open_upto c (length desk.earlier) bad.area areas.current bad.is_open) bad.fault

-- the areas of a desk begin after an open key gate
pub opens : (desk : Desk) (c : List ℕ) → HasAreas desk c → IsOpen c
opens desk c areas =
    let first = areas.keys 0 (omega arith) in
    record {
      long = omega (arith, first.within, Areas.base_first c);
      gate = Areas.open_first c (Areas.open_down c 0 (length desk.earlier) (omega arith) areas.current.is_open);
    }
