-- Reading one more area.
use Rattle.std.proofs.Common.{◌≡◌, ◌≢◌, ◌⊎◌, ℕ, suc, ◌+◌, ◌-◌, ◌*◌, ◌<◌, ◌≤◌, List, [], ◌∷◌, ◌++◌, length, get_or, Option, Some, None, arith, inl, inr, refl, sym, ◌∙◌, ap, subst, length-append}
use Rattle.std.proofs.lemmas.Bool.{cases_lt}
use Rattle.std.proofs.lemmas.List.{get_or_append_left}
use Rattle.std.proofs.Math.Seq.{get_or-append_seam}
use Rattle.lms_tree.specs.Signatures.{KeyOf, public_key}
use Rattle.lms_tree.specs.Links.{IsLink, link_text}
use Rattle.desk_areas.specs.declared.area.Count.{Count}
use Rattle.desk_areas.specs.declared.area.Count.TheVariants
use Rattle.desk_areas.specs.Layout.{SlotId, slots_of, slots_at, place_in, base_of, gate_at, text_at, gate_of, text_of, last_slot, IsAreaOpen, HasLink, IsOpen}
use Rattle.desk_areas.specs.Keys.{key_at}
use Rattle.desk_areas.specs.Area.{AreaView, area_in, no_area}
use Rattle.key_desk.specs.Desk.{key_of}
use Rattle.desk_areas.specs.Reading.{IsReadArea, IsLinkTo, IsLastLink, IsNamed, IsLinkBefore, HasRead}
use Rattle.desk_areas.proofs.Areas
use Rattle.key_desk.proofs.Counts.{key_here}
use Rattle.key_desk.proofs.Finding.{key_in_area}
use Rattle.desk_areas.proofs.ReadLemmas.{link_read}
use Rattle.key_desk.proofs.ReadFits.{IsWhole, desk_of}

-- nothing has been read yet
pub none_read : (areas : List AreaView) (x : List ℕ) → areas ≡ [] → IsOpen x → HasRead areas 0 None x
none_read areas x none is_open = subst (λ (l : List AreaView). HasRead l 0 None x) (sym none)
    (record {
      is_open = Areas.first_open x is_open.gate;
      based = Areas.base_first x;
      each = λ a lt. absurd (omega arith);
      linked = λ a lt. absurd (omega arith);
      before = refl;
    })

module _ (earlier : List AreaView) (area : AreaView) where
  one_longer : length (earlier ++ area ∷ []) ≡ suc (length earlier)
  one_longer = let l = length-append earlier (area ∷ []) in omega (arith, l)

  pub area_before : (a : ℕ) → a < length earlier → area_in (earlier ++ area ∷ []) a ≡ area_in earlier a
  area_before a lt = get_or_append_left earlier (area ∷ []) no_area a lt

  pub area_last : (a : ℕ) → a ≡ length earlier → area_in (earlier ++ area ∷ []) a ≡ area
  area_last a is = ap (λ (n : ℕ). get_or (earlier ++ area ∷ []) n no_area) is ∙ get_or-append_seam earlier area [] no_area

  pub wholes_more : ((a : ℕ) → a < length earlier → IsWhole (area_in earlier a)) → IsWhole area → (a : ℕ) → a < length (earlier ++ area ∷ []) → IsWhole (area_in (earlier ++ area ∷ []) a)
  wholes_more wholes whole a lt = elim (cases_lt a (length earlier)) [
    | inl below ↦ subst IsWhole (sym (area_before a below)) (wholes a below)
    | inr ge ↦ subst IsWhole (sym (area_last a (omega (arith, lt, one_longer)))) whole
  ]

  pub names_more : ((a b : ℕ) → a < b → b < length earlier → (area_in earlier a).key.i ≢ (area_in earlier b).key.i) → ((a : ℕ) → a < length earlier → (area_in earlier a).key.i ≢ area.key.i)
      → (a b : ℕ) → a < b → b < length (earlier ++ area ∷ []) → (area_in (earlier ++ area ∷ []) a).key.i ≢ (area_in (earlier ++ area ∷ []) b).key.i
  names_more names names_last a b lt le same = elim (cases_lt b (length earlier)) [
    | inl below ↦ names a b lt below (ap (λ (v : AreaView). v.key.i) (sym (area_before a (omega arith))) ∙ same ∙ ap (λ (v : AreaView). v.key.i) (area_before b below))
    | inr ge ↦
        let last : b ≡ length earlier = omega (arith, le, one_longer, ge) in
        names_last a (omega (arith, last, lt)) (ap (λ (v : AreaView). v.key.i) (sym (area_before a (omega (arith, last, lt)))) ∙ same ∙ ap (λ (v : AreaView). v.key.i) (area_last b last))
  ]

  module _ (x : List ℕ) (base : ℕ) (named : Option (List ℕ)) (read : HasRead earlier base named x) (is : IsReadArea area base x) (size : length area.counts ≡ slots_of area.key.kind) (named_is : IsNamed named area.key) where
    linked_next : (n : Option (List ℕ)) → IsLinkBefore (length earlier) n x → IsNamed n area.key → (a : ℕ) → suc a ≡ length earlier → text_of x (last_slot x a) ≡ link_text (public_key area.key)
    linked_next None before key_is a same = absurd (omega (arith, before, same))
    linked_next (Some key) before key_is a same =
        let where_is : a ≡ before.0 = omega (arith, before.1, same) in
        ap (λ (n : ℕ). text_of x (last_slot x n)) where_is ∙ before.2 ∙ ap (λ (k : List ℕ). link_text k) (sym key_is)

    slots_is : slots_at x (base_of x (length earlier)) ≡ length area.counts
    slots_is = ap (λ (b : ℕ). slots_at x b) read.based ∙ ap (λ (k : KeyOf). slots_of k.kind) (sym is.key) ∙ sym size

    pub more_read : (key : List ℕ) → IsLastLink area.counts base (Some key) x → length earlier < 7 → HasRead (earlier ++ area ∷ []) (place_in base (length area.counts)) (Some key) x
    more_read key link few =
        let longer = one_longer in
        record {
          is_open = subst (λ (n : ℕ). IsAreaOpen x n) (sym longer) (Areas.next_open x (length earlier) read.is_open (link_read x earlier base named read area is size key link) few);
          based = ap (λ (n : ℕ). base_of x n) longer ∙ Areas.base_next x (length earlier) ∙ ap (λ (n : ℕ). place_in (base_of x (length earlier)) n) slots_is ∙ ap (λ (b : ℕ). place_in b (length area.counts)) read.based;
          each = λ a lt. elim (cases_lt a (length earlier)) [
            | inl below ↦ subst (λ (v : AreaView). IsReadArea v (base_of x a) x) (sym (area_before a below)) (read.each a below)
            | inr ge ↦
                let last : a ≡ length earlier = omega (arith, lt, longer, ge) in
                subst (λ (v : AreaView). IsReadArea v (base_of x a) x) (sym (area_last a last)) (subst (λ (b : ℕ). IsReadArea area b x) (sym (ap (λ (n : ℕ). base_of x n) last ∙ read.based)) is)
          ];
          linked = λ a lt. elim (cases_lt (suc a) (length earlier)) [
            | inl below ↦ read.linked a below ∙ ap (λ (v : AreaView). link_text (public_key v.key)) (sym (area_before (suc a) below))
            | inr ge ↦
                let last : suc a ≡ length earlier = omega (arith, lt, longer, ge) in
                linked_next named read.before named_is a last ∙ ap (λ (v : AreaView). link_text (public_key v.key)) (sym (area_last (suc a) last))
          ];
          before = (
            length earlier,
            longer,
            ap (λ (n : ℕ). text_at x (place_in (base_of x (length earlier)) (n - 1))) slots_is ∙ ap (λ (b : ℕ). text_at x (place_in b (length area.counts - 1))) read.based ∙ link.1.is,
          );
        }

    -- the first key is that of the first block
    pub first_read : key_of (desk_of earlier base area) 0 ≡ key_at x 0
    first_read = elim (cases_lt 0 (length earlier)) [
      | inl some ↦ let first = read.each 0 some in key_in_area (desk_of earlier base area) 0 some ∙ first.key ∙ ap (λ (b : ℕ). key_at x b) (Areas.base_first x)
      | inr none ↦
          let zero_is : 0 ≡ length earlier = omega arith in
          key_here (desk_of earlier base area) 0 zero_is ∙ is.key ∙ ap (λ (b : ℕ). key_at x b) (sym read.based ∙ ap (λ (n : ℕ). base_of x n) (sym zero_is) ∙ Areas.base_first x)
    ]
