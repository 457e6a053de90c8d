-- Marks in pages.
use Rattle.std.proofs.Common.{◌≡◌, ℕ, zero, suc, ◌+◌, ◌*◌, ◌/◌, ◌%◌, ◌<◌, ◌≤◌, nat_eq, cond, Bool, true, false, Option, None, Some, inl, inr, List, [], ◌∷◌, ◌++◌, length, map, slice_get, get_or, take, min, ◌-◌, refl, arith, ap, sym, ◌∙◌, subst}
use Rattle.std.specs.Option.{option_map, unwrap_or}
use Rattle.std.proofs.Math.Nat.{div-add-mod}
use Rattle.std.proofs.lemmas.Nat.{div-mul-add}
use Rattle.std.proofs.lemmas.Bool.{cases_lt}
use Rattle.std.proofs.lemmas.List.{take_all}
use Rattle.std.proofs.lemmas.Option.{slice_get-map, slice_get-get_or}
use Rattle.road_map.specs.Places.{AreRising}
use Rattle.road_map.proofs.RisingLaws.{found, differ, same, is_same}
use Rattle.road_search.specs.declared.marks.Mark.{Mark}
use Rattle.road_search.specs.Listing.{mark_by, listed_by, is_near_at}
use Rattle.road_search.specs.Nearness.{is_within}
use Rattle.road_search.specs.declared.label.Label.{Label}
use Rattle.road_search.specs.Marking.{marked}
use Rattle.road_search.specs.MarkLists.{MarkList}
use Rattle.road_search.specs.Pages.{on_page, paged}

-- one more page without marks changes nothing
page_behind : (pages : List MarkList) (page : MarkList) → page.items ≡ [] → (p v : ℕ) → on_page (slice_get (pages ++ page ∷ []) p) v ≡ on_page (slice_get pages p) v
page_behind [] page none zero v = ap (λ xs. marked xs v) none
page_behind [] page none (suc p) v = refl
page_behind (q ∷ qs) page none zero v = refl
page_behind (q ∷ qs) page none (suc p) v = page_behind qs page none p v

pub one_page_more : (pages : List MarkList) (page : MarkList) → page.items ≡ [] → (v : ℕ) → paged (pages ++ page ∷ []) v ≡ paged pages v
one_page_more pages page none v = page_behind pages page none (v / 64) (v % 64)

-- two numbers with the same page and the same index are equal
one_number : (n v : ℕ) → n / 64 ≡ v / 64 → n % 64 ≡ v % 64 → n ≡ v
one_number n v page place =
    let a : 64 * (n / 64) + n % 64 ≡ n = div-add-mod n 64 in
    let b : 64 * (v / 64) + v % 64 ≡ v = div-add-mod v 64 in
    sym a ∙ (ap (λ x. 64 * x + n % 64) page ∙ (ap (λ x. 64 * (v / 64) + x) place ∙ b))

-- a mark at an index of one page
pub one_put : (old new : List MarkList) (n : ℕ) (mark : Mark) → ((r : ℕ) → on_page (slice_get new (n / 64)) r ≡ cond (nat_eq (n % 64) r) (Some mark) (on_page (slice_get old (n / 64)) r)) → ((p : ℕ) → nat_eq (n / 64) p ≡ false → slice_get new p ≡ slice_get old p) → (v : ℕ) → paged new v ≡ cond (nat_eq n v) (Some mark) (paged old v)
one_put old new n mark here others v = by_page (nat_eq (n / 64) (v / 64)) refl
  where
    by_place : n / 64 ≡ v / 64 → (b : Bool) → nat_eq (n % 64) (v % 64) ≡ b → cond b (Some mark) (paged old v) ≡ cond (nat_eq n v) (Some mark) (paged old v)
    by_place page true t = ap (λ b. cond b (Some mark) (paged old v)) (sym (same n v (one_number n v page (is_same (n % 64) (v % 64) t))))
    by_place page false t = ap (λ b. cond b (Some mark) (paged old v)) (sym (differ n v (λ e. (let bad : true ≡ false = sym (same (n % 64) (v % 64) (ap (λ x. x % 64) e)) ∙ t in cc))))

    by_page : (b : Bool) → nat_eq (n / 64) (v / 64) ≡ b → paged new v ≡ cond (nat_eq n v) (Some mark) (paged old v)
    by_page true t =
        let page : n / 64 ≡ v / 64 = is_same (n / 64) (v / 64) t in
        subst (λ p. on_page (slice_get new p) (v % 64) ≡ cond (nat_eq (n % 64) (v % 64)) (Some mark) (on_page (slice_get old p) (v % 64))) page (here (v % 64)) ∙ by_place page (nat_eq (n % 64) (v % 64)) refl
    by_page false t = ap (λ o. on_page o (v % 64)) (others (v / 64) t) ∙ ap (λ b. cond b (Some mark) (paged old v)) (sym (differ n v (λ e. (let bad : true ≡ false = sym (same (n / 64) (v / 64) (ap (λ x. x / 64) e)) ∙ t in cc))))

-- pages, each of which was converted
pub paged_map : (f : Option Mark → Option Mark) → f None ≡ None → (pages : List MarkList) (v : ℕ) → paged (map (λ (page : MarkList). record { items = map f page.items }) pages) v ≡ f (paged pages v)
paged_map f none pages v = ap (λ o. on_page o (v % 64)) (slice_get-map (λ (page : MarkList). record { items = map f page.items }) pages (v / 64)) ∙ by_page (slice_get pages (v / 64))
  where
    by_mark : (o : Option (Option Mark)) → unwrap_or (option_map f o) None ≡ f (unwrap_or o None)
    by_mark None = sym none
    by_mark (Some m) = refl

    by_page : (o : Option MarkList) → on_page (option_map (λ (page : MarkList). record { items = map f page.items }) o) (v % 64) ≡ f (on_page o (v % 64))
    by_page None = sym none
    by_page (Some page) = ap (λ (o : Option (Option Mark)). unwrap_or o None) (slice_get-map f page.items (v % 64)) ∙ by_mark (slice_get page.items (v % 64))

-- the mark of the id at an index
pub mark_there : (ids : List ℕ) (by_place : ℕ → Option Mark) (k : ℕ) → AreRising ids → k < length ids → listed_by ids by_place [] (get_or ids k 0) ≡ by_place k
mark_there ids by_place k rise lt = ap (mark_by by_place None) (found ids (get_or ids k 0) k rise (get_or ids k 0, slice_get-get_or ids k 0 lt, refl))

-- whether the id at an index is near
pub near_there : (ids : List ℕ) (by_place : ℕ → Option Mark) (most k : ℕ) (o : Option Mark) → AreRising ids → k < length ids → o ≡ by_place k → is_near_at ids by_place most (get_or ids k 0) ≡ is_within most (option_map (λ (l : Label). l.length) (option_map (λ (m : Mark). m.label) o))
near_there ids by_place most k o rise lt is = ap (λ o. is_within most (option_map (λ (l : Label). l.length) (option_map (λ (m : Mark). m.label) o))) (mark_there ids by_place k rise lt ∙ sym is)

-- a number from the first of a page on and before the page's end is on that page
pub page_of : (index k : ℕ) → index * 64 ≤ k → k < index * 64 + 64 → k / 64 ≡ index
page_of index k low high =
    let rest : index * 64 + (k - index * 64) ≡ k = omega (arith, low) in
    ap (λ x. x / 64) (sym rest) ∙ div-mul-add index 64 (k - index * 64) (omega (arith, low, high))

pub take_least : (xs : List ℕ) (n end : ℕ) → end ≡ min n (length xs) → take end xs ≡ take n xs
take_least xs n end is = elim (cases_lt n (length xs)) [
  | inl lt ↦ ap (λ k. take k xs) (omega (arith, is, lt))
  | inr ge ↦ take_all end xs (omega (arith, is, ge)) ∙ sym (take_all n xs (omega (arith, ge)))
]
