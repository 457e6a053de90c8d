-- Marks by index, and marks of other ids by id.
use Rattle.std.proofs.Common.{◌≡◌, ℕ, nat_eq, cond, Bool, true, false, Option, None, Some, IsSome, List, [], refl, ap, sym, ◌∙◌, subst}
use Rattle.road_map.specs.Places.{AreRising, place_in}
use Rattle.road_map.proofs.RisingLaws.{differ, same, is_same, one_id}
use Rattle.road_search.specs.declared.marks.Mark.{Mark}
use Rattle.road_search.specs.Marking.{mark_at}
use Rattle.road_search.specs.MarkLists.{MarkList}
use Rattle.road_search.specs.Pages.{paged}
use Rattle.road_search.specs.Listing.{mark_by, Listing, listed_by, listed, IsListing}

-- the mark of an id in the list changes
pub placed_turn : (ids : List ℕ) (id k : ℕ) (new : Mark) (old after : ℕ → Option Mark) (others : List (ℕ × Mark)) → place_in ids id ≡ Some k → ((p : ℕ) → after p ≡ cond (nat_eq k p) (Some new) (old p)) → (v : ℕ) → listed_by ids after others v ≡ cond (nat_eq id v) (Some new) (listed_by ids old others v)
placed_turn ids id k new old after others at h v = by_place (place_in ids v) refl
  where
    by_place : (o : Option ℕ) → place_in ids v ≡ o → mark_by after (mark_at others v) o ≡ cond (nat_eq id v) (Some new) (mark_by old (mark_at others v) o)
    by_place None e = sym (ap (λ b. cond b (Some new) (mark_at others v)) (differ id v (λ eq. let bad : Some k ≡ None = sym at ∙ (ap (place_in ids) eq ∙ e) in cc)))
    by_place (Some p) e = h p ∙ ap (λ b. cond b (Some new) (old p)) (by_number (nat_eq k p) refl)
      where
        by_number : (b : Bool) → nat_eq k p ≡ b → b ≡ nat_eq id v
        by_number true t = sym (same id v (one_id ids id v p (at ∙ ap Some (is_same k p t)) e))
        by_number false t = sym (differ id v (λ eq.
            let one : Some k ≡ Some p = sym at ∙ (ap (place_in ids) eq ∙ e) in
            let number : k ≡ p = cc in
            let bad : true ≡ false = sym (same k p number) ∙ t in
            cc))

-- the mark of an id outside the list changes
pub other_turn : (ids : List ℕ) (id : ℕ) (new : Mark) (by_place : ℕ → Option Mark) (old after : List (ℕ × Mark)) → place_in ids id ≡ None → ((v : ℕ) → mark_at after v ≡ cond (nat_eq id v) (Some new) (mark_at old v)) → (v : ℕ) → listed_by ids by_place after v ≡ cond (nat_eq id v) (Some new) (listed_by ids by_place old v)
other_turn ids id new by_place old after at h v = by_kind (place_in ids v) refl
  where
    by_kind : (o : Option ℕ) → place_in ids v ≡ o → mark_by by_place (mark_at after v) o ≡ cond (nat_eq id v) (Some new) (mark_by by_place (mark_at old v) o)
    by_kind None e = h v
    by_kind (Some p) e = sym (ap (λ b. cond b (Some new) (by_place p)) (differ id v (λ eq. let bad : None ≡ Some p = sym at ∙ (ap (place_in ids) eq ∙ e) in cc)))

pub others_apart : (ids : List ℕ) (id : ℕ) (new : Mark) (old after : List (ℕ × Mark)) → place_in ids id ≡ None → ((v : ℕ) → mark_at after v ≡ cond (nat_eq id v) (Some new) (mark_at old v)) → IsListing ids old → IsListing ids after
others_apart ids id new old after at h was = record { rise = was.rise; apart = λ v there. by_test v (nat_eq id v) refl (subst IsSome (h v) there) }
  where
    by_test : (v : ℕ) (b : Bool) → nat_eq id v ≡ b → IsSome (cond b (Some new) (mark_at old v)) → place_in ids v ≡ None
    by_test v true t there = subst (λ i. place_in ids i ≡ None) (is_same id v t) at
    by_test v false t there = was.apart v there

-- no other id has a mark
pub none_other : (ids : List ℕ) → AreRising ids → IsListing ids []
none_other ids rise = record { rise = rise; apart = λ id there. absurd (bad there) }
  where
    bad : false ≡ true → ⊥
    bad e = cc

pub by_place_none : (ids : List ℕ) (by_place : ℕ → Option Mark) (id : ℕ) → ((p : ℕ) → by_place p ≡ None) → listed_by ids by_place [] id ≡ None
by_place_none ids by_place id none = by_kind (place_in ids id)
  where
    by_kind : (o : Option ℕ) → mark_by by_place None o ≡ None
    by_kind None = refl
    by_kind (Some p) = none p

pub none_marked : (l : Listing) (marks : List MarkList) → l.others ≡ [] → l.marks ≡ marks → ((p : ℕ) → paged marks p ≡ None) → (id : ℕ) → listed l id ≡ None
none_marked l marks alone there none id = by_kind (place_in l.ids id)
  where
    by_kind : (o : Option ℕ) → mark_by (paged l.marks) (mark_at l.others id) o ≡ None
    by_kind None = ap (λ es. mark_at es id) alone
    by_kind (Some p) = ap (λ ms. paged ms p) there ∙ none p

-- the mark of this id
pub with_place : (ids : List ℕ) (by_place : ℕ → Option Mark) (others : List (ℕ × Mark)) (id k : ℕ) → place_in ids id ≡ Some k → by_place k ≡ listed_by ids by_place others id
with_place ids by_place others id k at = sym (ap (mark_by by_place (mark_at others id)) at)

pub without_place : (ids : List ℕ) (by_place : ℕ → Option Mark) (others : List (ℕ × Mark)) (id : ℕ) → place_in ids id ≡ None → mark_at others id ≡ listed_by ids by_place others id
without_place ids by_place others id at = sym (ap (mark_by by_place (mark_at others id)) at)
