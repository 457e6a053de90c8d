-- Marks by id, in a map of the library.
use Rattle.std.proofs.Common.{◌≡◌, ℕ, ◌<◌, nat_eq, get_or, false, cond, Some, List, [], ◌∷◌, refl, arith, ap, sym, ◌∙◌}
use Rattle.std.specs.Map.{lookup}
use Rattle.std.specs.BTreeMap.{is_at}
use Rattle.std.specs.Ordering.{nat_cmp}
use Rattle.std.specs.List.{IsDistinct}
use Rattle.std.proofs.lemmas.Map.Keys.{IsDistinct-from_apart, below_from_sorted}
use Rattle.std.specs.List.Sorted.{IsStrictlySortedBy}
use Rattle.road_search.specs.declared.marks.Mark.{Mark}
use Rattle.road_search.specs.Marking.{mark_at}

same_test : (id k : ℕ) → is_at (nat_cmp id) k ≡ nat_eq id k
same_test id k = grind arith

-- the entry whose key equals an id has the id's mark
pub found_mark : (id : ℕ) (es : List (ℕ × Mark)) → lookup (is_at (nat_cmp id)) es ≡ mark_at es id
found_mark id [] = refl
found_mark id (e ∷ es) = ap (λ b. cond b (Some e.1) (lookup (is_at (nat_cmp id)) es)) (same_test id e.0) ∙ ap (λ o. cond (nat_eq id e.0) (Some e.1) o) (found_mark id es)

-- an id has the mark that it was given last
pub marked_last : (id : ℕ) (new : Mark) (es fs : List (ℕ × Mark)) → ((q : ℕ) → lookup (is_at (nat_cmp q)) fs ≡ cond (is_at (nat_cmp id) q) (Some new) (lookup (is_at (nat_cmp q)) es)) → (v : ℕ) → mark_at fs v ≡ cond (nat_eq id v) (Some new) (mark_at es v)
marked_last id new es fs h v = sym (found_mark v fs) ∙ (h v ∙ (ap (λ b. cond b (Some new) (lookup (is_at (nat_cmp v)) es)) (same_test id v) ∙ ap (λ o. cond (nat_eq id v) (Some new) o) (found_mark v es)))

-- ascending ids differ
pub rising_apart : (xs : List ℕ) → IsStrictlySortedBy nat_cmp xs → IsDistinct nat_eq xs
rising_apart xs sorted = IsDistinct-from_apart nat_eq xs (λ i j d lt within.
    let below : get_or xs i d < get_or xs j d = below_from_sorted xs i j d sorted lt within in
    apart (get_or xs i d) (get_or xs j d) below)
  where
    apart : (a b : ℕ) → a < b → nat_eq a b ≡ false
    apart a b lt = grind (arith, lt)
