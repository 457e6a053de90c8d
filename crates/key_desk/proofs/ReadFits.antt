-- A desk over the areas that were read fits its disk.
use Rattle.std.proofs.Common.{◌≡◌, ◌≢◌, ◌⊎◌, ℕ, suc, ◌+◌, ◌-◌, ◌*◌, ◌<◌, ◌≤◌, true, List, [], ◌∷◌, ◌++◌, length, get_or, Option, Some, None, arith, inl, inr, refl, sym, ◌∙◌, ap, subst}
use Rattle.std.specs.Option.{ForSome}
use Rattle.std.proofs.lemmas.Bool.{cases_lt, cases_eq}
use Rattle.road_io.specs.declared.disk.Disk.{Ghosts}
use Rattle.road_io.specs.Moments.{Image, EachImage}
use Rattle.lms_tree.specs.Signatures.{KeyOf, public_key}
use Rattle.lms_tree.specs.Links.{IsLink, link_text}
use Rattle.key_desk.specs.declared.desk.Desk.{Desk}
use Rattle.desk_areas.specs.declared.area.Count.{Count}
use Rattle.desk_areas.specs.declared.area.Count.TheVariants
use Rattle.desk_areas.specs.Layout.{SlotId, slots_of, slots_at, place_in, base_of, gate_at, text_at, gate_of, text_of, secret_at, last_slot, IsAreaOpen, IsCurrent, HasLink}
use Rattle.desk_areas.specs.Keys.{key_from, key_at}
use Rattle.desk_areas.specs.Area.{AreaView, area_in}
use Rattle.desk_areas.specs.Blank.{HasKey}
use Rattle.key_desk.specs.Desk.{key_of, counts_of, count_of, count_at, slot_here, IsSlotOf, IsSound, HasAreas, SameSpent, Fits}
use Rattle.desk_areas.specs.Reading.{HasStray, HasGates, IsReadArea, IsLinkTo, IsLastLink, IsNamed, IsLinkBefore, HasRead}
use Rattle.desk_areas.proofs.Areas
use Rattle.key_desk.proofs.Counts.{key_here, counts_here, count_here, free_isnt_spent}
use Rattle.key_desk.proofs.Finding.{counts_in_area, key_in_area, some_is}
use Rattle.desk_areas.proofs.KeyLemmas.{key_from-secret}

-- each slot of an area counts as free or as spent
abbrev pub IsEither : AreaView → Type 0
IsEither area = (number : ℕ) → (get_or area.counts number TheVariants.Spent ≡ TheVariants.Free) ⊎ (get_or area.counts number TheVariants.Spent ≡ TheVariants.Spent)

-- the known facts about an area that was read, whatever the disk states
pub record IsWhole (area : AreaView) : Type 0 where
  pub known : 0 < slots_of area.key.kind
  pub sized : length area.counts ≡ slots_of area.key.kind
  pub named : length area.key.i ≡ 16
  pub either : IsEither area

-- the desk over these areas
abbrev pub desk_of : List AreaView → ℕ → AreaView → Desk
desk_of earlier base area = record { earlier = earlier; base = base; key = area.key; counts = area.counts; is_open = true }

-- the key of an area that was read
pub read_key : (area : AreaView) (base : ℕ) (i : List ℕ) → IsReadArea area base i → HasKey area.key base i
read_key area base i is = record {
  kind = ap (λ (k : KeyOf). k.kind) (sym is.key);
  secret = key_from-secret 0 (secret_at i base) ∙ ap (λ (k : KeyOf). k.i ++ k.seed) (sym is.key);
  within = is.within;
}

module _ (earlier : List AreaView) (base : ℕ) (area : AreaView) (few : length earlier < 8) (wholes : (a : ℕ) → a < length earlier → IsWhole (area_in earlier a)) (whole : IsWhole area)
    (names : (a b : ℕ) → a < b → b < length earlier → (area_in earlier a).key.i ≢ (area_in earlier b).key.i) (names_last : (a : ℕ) → a < length earlier → (area_in earlier a).key.i ≢ area.key.i) where
  -- an area of the desk
  at : (a : ℕ) → a ≤ length earlier → (P : AreaView → Type 0) → ((a < length earlier) → P (area_in earlier a)) → P area → (v : AreaView) × (P v) × (key_of (desk_of earlier base area) a ≡ v.key) × (counts_of (desk_of earlier base area) a ≡ v.counts)
  at a le P before here = elim (cases_lt a (length earlier)) [
    | inl lt ↦ (area_in earlier a, before lt, key_in_area (desk_of earlier base area) a lt, counts_in_area (desk_of earlier base area) a lt)
    | inr ge ↦ let is : a ≡ length earlier = omega arith in (area, here, key_here (desk_of earlier base area) a is, counts_here (desk_of earlier base area) a is)
  ]

  pub sound_of : IsSound (desk_of earlier base area)
  sound_of = record {
    few = few;
    known = whole.known;
    sized = λ a le.
        let v = at a le IsWhole (wholes a) whole in
        ap (λ (l : List Count). length l) v.3 ∙ v.1.sized ∙ ap (λ (k : KeyOf). slots_of k.kind) (sym v.2);
    named = λ a le. let v = at a le IsWhole (wholes a) whole in ap (λ (k : KeyOf). length k.i) v.2 ∙ v.1.named;
    distinct = λ a b lt le same. elim (cases_lt b (length earlier)) [
      | inl below ↦ names a b lt below (ap (λ (k : KeyOf). k.i) (sym (key_in_area (desk_of earlier base area) a (omega arith))) ∙ same ∙ ap (λ (k : KeyOf). k.i) (key_in_area (desk_of earlier base area) b below))
      | inr ge ↦
          names_last a (omega arith) (ap (λ (k : KeyOf). k.i) (sym (key_in_area (desk_of earlier base area) a (omega arith))) ∙ same ∙ ap (λ (k : KeyOf). k.i) (key_here (desk_of earlier base area) b (omega arith)))
    ];
    last = whole.either (slots_of area.key.kind - 1);
  }

  module _ (i : List ℕ) (named : Option (List ℕ)) (read : HasRead earlier base named i) (is : IsReadArea area base i) (named_is : IsNamed named area.key) (unlinked : IsLastLink area.counts base None i) where
    -- an area, as it was read
    pub record Read (a : ℕ) : Type 0 where
      pub view : AreaView
      pub facts : IsWhole view
      pub there : IsReadArea view (base_of i a) i
      pub key_is : key_of (desk_of earlier base area) a ≡ view.key
      pub counts_are : counts_of (desk_of earlier base area) a ≡ view.counts

    here : (a : ℕ) → a ≡ length earlier → IsReadArea area (base_of i a) i
    here a same = subst (λ (b : ℕ). IsReadArea area b i) (sym (ap (λ (n : ℕ). base_of i n) same ∙ read.based)) is

    read_at : (a : ℕ) → a ≤ length earlier → Read a
    read_at a le = elim (cases_lt a (length earlier)) [
      | inl lt ↦ record { view = area_in earlier a; facts = wholes a lt; there = read.each a lt; key_is = key_in_area (desk_of earlier base area) a lt; counts_are = counts_in_area (desk_of earlier base area) a lt }
      | inr ge ↦
          let same : a ≡ length earlier = omega arith in
          record { view = area; facts = whole; there = here a same; key_is = key_here (desk_of earlier base area) a same; counts_are = counts_here (desk_of earlier base area) a same }
    ]

    slots_read : (a : ℕ) (r : Read a) → slots_at i (base_of i a) ≡ length r.view.counts
    slots_read a r = ap (λ (k : KeyOf). slots_of k.kind) (sym r.there.key) ∙ sym r.facts.sized

    own_number : (s : SlotId) (r : Read s.area) → IsSlotOf (desk_of earlier base area) s → s.number < length r.view.counts
    own_number s r own = let lt : s.number < slots_of r.view.key.kind = subst (λ (k : KeyOf). s.number < slots_of k.kind) r.key_is own.known in omega (arith, lt, r.facts.sized)

    -- the gate of a slot agrees with its state
    gate_read : (s : SlotId) → IsSlotOf (desk_of earlier base area) s → ((count_of (desk_of earlier base area) s ≡ TheVariants.Spent) × (0 < gate_of i s)) ⊎ ((count_of (desk_of earlier base area) s ≡ TheVariants.Free) × (gate_of i s ≡ 0))
    gate_read s own =
        let r = read_at s.area own.area in
        let lt = own_number s r own in
        let count : count_of (desk_of earlier base area) s ≡ get_or r.view.counts s.number TheVariants.Spent = ap (λ (l : List Count). get_or l s.number TheVariants.Spent) r.counts_are in
        elim (r.facts.either s.number) [
          | inl free ↦ inr (count ∙ free, r.there.gates.free s.number lt free)
          | inr spent ↦ inl (count ∙ spent, r.there.gates.spent s.number lt spent)
        ]

    -- the last slot of the current area has no link
    no_link : (number : ℕ) → number ≡ length area.counts - 1 → 0 < gate_at i (place_in (base_of i (length earlier)) number) → IsLink (text_at i (place_in (base_of i (length earlier)) number)) → ⊥
    no_link number same gate link =
        let gate_there : 0 < gate_at i (place_in base (length area.counts - 1)) = subst (λ (b : ℕ). 0 < gate_at i (place_in b (length area.counts - 1))) read.based (subst (λ (n : ℕ). 0 < gate_at i (place_in (base_of i (length earlier)) n)) same gate) in
        let link_there : IsLink (text_at i (place_in base (length area.counts - 1))) = subst (λ (b : ℕ). IsLink (text_at i (place_in b (length area.counts - 1)))) read.based (subst (λ (n : ℕ). IsLink (text_at i (place_in (base_of i (length earlier)) n))) same link) in
        elim (whole.either (length area.counts - 1)) [
          | inl free ↦ let shut = is.gates.free (length area.counts - 1) (omega (arith, whole.known, whole.sized)) free in omega (arith, shut, gate_there)
          | inr spent ↦ unlinked spent link_there
        ]

    current_read : IsCurrent i (length earlier)
    current_read = record {
      is_open = read.is_open;
      no_later = λ later.
          let has = Areas.open_link i (length earlier) later in
          let slots = slots_read (length earlier) (read_at (length earlier) (omega arith)) in
          let size : slots_at i (base_of i (length earlier)) ≡ length area.counts = ap (λ (b : ℕ). slots_at i b) read.based ∙ ap (λ (k : KeyOf). slots_of k.kind) (sym is.key) ∙ sym whole.sized in
          no_link (slots_at i (base_of i (length earlier)) - 1) (ap (λ (n : ℕ). n - 1) size) has.gate has.link;
    }

    linked_last : (n : Option (List ℕ)) → IsLinkBefore (length earlier) n i → IsNamed n area.key → (a : ℕ) → suc a ≡ length earlier → text_of i (last_slot i a) ≡ link_text (public_key area.key)
    linked_last None before key_is a same = absurd (omega (arith, before, same))
    linked_last (Some key) before key_is a same =
        let where_is : a ≡ before.0 = omega (arith, before.1, same) in
        ap (λ (n : ℕ). text_of i (last_slot i n)) where_is ∙ before.2 ∙ ap (λ (k : List ℕ). link_text k) (sym key_is)

    linked_read : (a : ℕ) → a < length earlier → text_of i (last_slot i a) ≡ link_text (public_key (key_of (desk_of earlier base area) (suc a)))
    linked_read a lt = elim (cases_lt (suc a) (length earlier)) [
      | inl below ↦ read.linked a below ∙ ap (λ (k : KeyOf). link_text (public_key k)) (sym (key_in_area (desk_of earlier base area) (suc a) below))
      | inr ge ↦ linked_last named read.before named_is a (omega arith) ∙ ap (λ (k : KeyOf). link_text (public_key k)) (sym (key_here (desk_of earlier base area) (suc a) (omega arith)))
    ]

    plain_read : (s : SlotId) → IsSlotOf (desk_of earlier base area) s → 0 < gate_of i s → IsLink (text_of i s) → (s ≡ last_slot i s.area) × (s.area < length earlier)
    plain_read s own gate link =
        let r = read_at s.area own.area in
        let lt = own_number s r own in
        elim (cases_lt (s.number + 1) (length r.view.counts)) [
          | inl early ↦ elim (r.facts.either s.number) [
            | inl free ↦ let shut = r.there.gates.free s.number lt free in absurd (omega (arith, shut, gate))
            | inr spent ↦ absurd (r.there.plain (record { number = s.number; early = early; spent = spent; link = link }))
          ]
          | inr late ↦
              let last : s.number ≡ slots_at i (base_of i s.area) - 1 = omega (arith, late, lt, slots_read s.area r) in (
                Areas.slot_eq s (last_slot i s.area) refl last,
                elim (cases_lt s.area (length earlier)) [
                  | inl below ↦ below
                  | inr ge ↦
                      let same : s.area ≡ length earlier = omega (arith, own.area, ge) in
                      let size : slots_at i (base_of i s.area) ≡ length area.counts = ap (λ (n : ℕ). slots_at i (base_of i n)) same ∙ ap (λ (b : ℕ). slots_at i b) read.based ∙ ap (λ (k : KeyOf). slots_of k.kind) (sym is.key) ∙ sym whole.sized in
                      absurd (no_link s.number (last ∙ ap (λ (n : ℕ). n - 1) size) (subst (λ (n : ℕ). 0 < gate_at i (place_in (base_of i n) s.number)) same gate) (subst (λ (n : ℕ). IsLink (text_at i (place_in (base_of i n) s.number))) same link))
                ],
              )
        ]

    pub areas_of : HasAreas (desk_of earlier base area) i
    areas_of = record {
      current = current_read;
      based = read.based;
      keys = λ a le. let r = read_at a le in subst (λ (k : KeyOf). HasKey k (base_of i a) i) (sym r.key_is) (read_key r.view (base_of i a) i r.there);
      linked = linked_read;
      plain = plain_read;
    }

  -- the desk fits the disk that was read
  pub read_fits : {D : Type 0} (g : Ghosts D) (disk : D) (content : Option (List ℕ)) (named : Option (List ℕ)) → EachImage g disk (λ i. content ≡ Some i)
      → ForSome content (HasRead earlier base named) → ForSome content (IsReadArea area base) → IsNamed named area.key → ForSome content (IsLastLink area.counts base None) → Fits g (desk_of earlier base area) disk
  read_fits g disk content named one read is named_is unlinked = record {
    sound = sound_of;
    areas = λ i now. let told = one i now in areas_of i named (read i told) (is i told) named_is (unlinked i told);
    spent = λ _ i j now_i now_j s own spent.
        let told = one i now_i in
        let same : j ≡ i = some_is content j i told (one j now_j) in
        elim (gate_read i named (read i told) (is i told) named_is (unlinked i told) s own) [
          | inl open_gate ↦ record { open_gate = open_gate.1; gate = ap (λ (x : List ℕ). gate_of x s) (sym same); text = ap (λ (x : List ℕ). text_of x s) (sym same) }
          | inr shut ↦ absurd (free_isnt_spent (sym shut.0 ∙ spent))
        ];
    others = λ _ i now s own isnt.
        let told = one i now in
        elim (gate_read i named (read i told) (is i told) named_is (unlinked i told) s own) [
          | inl open_gate ↦ absurd (isnt open_gate.0)
          | inr shut ↦ shut.1
        ];
  }
