-- Near ids in the list, and near ids outside it.
use Rattle.std.proofs.Common.{◌≡◌, ℕ, ◌++◌, nat_eq, true, Option, None, Some, List, inl, inr, refl, ap, sym, ◌∙◌, subst}
use Rattle.std.specs.List.{IsDistinct, Contains, filter}
use Rattle.std.specs.Option.{option_map}
use Rattle.std.proofs.lemmas.List.Elements.{Contains-append_left, Contains-append_right, Contains-append_cases}
use Rattle.road_map.specs.Places.{place_in}
use Rattle.road_map.proofs.Among.{contains_at, place_at}
use Rattle.road_map.proofs.RisingLaws.{rise_apart, stands, found}
use Rattle.road_search.specs.declared.label.Label.{Label}
use Rattle.road_search.specs.declared.marks.Mark.{Mark}
use Rattle.road_search.specs.Listing.{mark_by, listed_by, IsListing, is_near_at}
use Rattle.road_search.specs.Marking.{mark_at}
use Rattle.road_search.specs.Nearness.{is_within}
use Rattle.road_search.proofs.NearIds.{distinct_both, among, passes, keeps, filter_distinct, near_some}

module _ (ids : List ℕ) (by_place : ℕ → Option Mark) (others : List (ℕ × Mark)) (most : ℕ) (far : List ℕ) (l : IsListing ids others) (same : (id : ℕ) → (Contains far id → is_within most (option_map (λ (m : Label). m.length) (option_map (λ (m : Mark). m.label) (mark_at others id))) ≡ true) × (is_within most (option_map (λ (m : Label). m.length) (option_map (λ (m : Mark). m.label) (mark_at others id))) ≡ true → Contains far id)) where
  -- an id in the list has an index
  placed : (id : ℕ) → Contains ids id → (k : ℕ) × (place_in ids id ≡ Some k)
  placed id c = let p = place_at ids id c in (p.0, found ids id p.0 l.rise (id, p.1, refl))

  pub both_distinct : IsDistinct nat_eq far → IsDistinct nat_eq (filter (is_near_at ids by_place most) ids ++ far)
  both_distinct d = distinct_both (filter (is_near_at ids by_place most) ids) far (filter_distinct (is_near_at ids by_place most) ids (rise_apart ids l.rise)) d (λ x c f.
      let k = placed x (among (is_near_at ids by_place most) ids x c) in
      let none : place_in ids x ≡ None = l.apart x (near_some most (mark_at others x) ((same x).0 f)) in
      let bad : Some k.0 ≡ None = sym k.1 ∙ none in
      cc)

  pub both_same : (id : ℕ) → (Contains (filter (is_near_at ids by_place most) ids ++ far) id → is_within most (option_map (λ (m : Label). m.length) (option_map (λ (m : Mark). m.label) (listed_by ids by_place others id))) ≡ true) × (is_within most (option_map (λ (m : Label). m.length) (option_map (λ (m : Mark). m.label) (listed_by ids by_place others id))) ≡ true → Contains (filter (is_near_at ids by_place most) ids ++ far) id)
  both_same id = (λ c. forth c, back (place_in ids id) refl)
    where
      forth : Contains (filter (is_near_at ids by_place most) ids ++ far) id → is_within most (option_map (λ (m : Label). m.length) (option_map (λ (m : Mark). m.label) (listed_by ids by_place others id))) ≡ true
      forth c = elim (Contains-append_cases (filter (is_near_at ids by_place most) ids) far id c) [
        | inl d ↦ (let k = placed id (among (is_near_at ids by_place most) ids id d) in
            ap (λ o. is_within most (option_map (λ (m : Label). m.length) (option_map (λ (m : Mark). m.label) (mark_by by_place (mark_at others id) o)))) k.1 ∙ (sym (ap (λ o. is_within most (option_map (λ (m : Label). m.length) (option_map (λ (m : Mark). m.label) (mark_by by_place None o)))) k.1) ∙ passes (is_near_at ids by_place most) ids id d))
        | inr f ↦ (let none : place_in ids id ≡ None = l.apart id (near_some most (mark_at others id) ((same id).0 f)) in
            ap (λ o. is_within most (option_map (λ (m : Label). m.length) (option_map (λ (m : Mark). m.label) (mark_by by_place (mark_at others id) o)))) none ∙ (same id).0 f)
      ]

      back : (o : Option ℕ) → place_in ids id ≡ o → is_within most (option_map (λ (m : Label). m.length) (option_map (λ (m : Mark). m.label) (listed_by ids by_place others id))) ≡ true → Contains (filter (is_near_at ids by_place most) ids ++ far) id
      back None e t = Contains-append_right (filter (is_near_at ids by_place most) ids) far id ((same id).1 (sym (ap (λ o. is_within most (option_map (λ (m : Label). m.length) (option_map (λ (m : Mark). m.label) (mark_by by_place (mark_at others id) o)))) e) ∙ t))
      back (Some k) e t =
          let at = stands ids id k e in
          let here : Contains ids id = subst (Contains ids) at.2 (contains_at ids k at.0 at.1) in
          Contains-append_left (filter (is_near_at ids by_place most) ids) far id (keeps (is_near_at ids by_place most) ids id here (ap (λ o. is_within most (option_map (λ (m : Label). m.length) (option_map (λ (m : Mark). m.label) (mark_by by_place None o)))) e ∙ (sym (ap (λ o. is_within most (option_map (λ (m : Label). m.length) (option_map (λ (m : Mark). m.label) (mark_by by_place (mark_at others id) o)))) e) ∙ t)))
