-- Listed marks in order.
use Rattle.std.proofs.Common.{◌≡◌, ℕ, ◌+◌, ◌<◌, ◌≤◌, Bool, true, false, cond, List, [], ◌∷◌, ◌⊎◌, inl, inr, Result, Ok, Err, is_ok, refl, arith, ap, sym, ◌∙◌, subst, length, get_or, take, nat_eq}
use Rattle.std.specs.Prelude.{MatchResult}
use Rattle.std.specs.List.{Contains, AllPairs, IsDistinct, filter, list_any}
use Rattle.std.specs.List.Sorted.{IsPermutation, IsSorted, IsStrictlySortedBy}
use Rattle.std.specs.Ordering.{nat_cmp, ordering_then, is_lt}
use Rattle.std.specs.Cmp.{IsTotalOrder, nat_cmp_total, on_total, then_total}
use Rattle.std.specs.declared.cmp.Ordering.TheVariants.{Less}
use Rattle.std.proofs.lemmas.Bool.Decides.{nat_tests}
use Rattle.std.proofs.lemmas.Cmp.{nat_eq_equiv}
use Rattle.std.proofs.lemmas.List.{get_or_default, get_or-map, length-map}
use Rattle.std.proofs.lemmas.List.Folds.{list_any_at, list_any_none}
use Rattle.std.proofs.lemmas.List.Kept.{AllPairs-filter}
use Rattle.std.proofs.lemmas.List.Sorted.{Contains-permutation, IsPermutation-sym}
use Rattle.std.proofs.lemmas.Map.Keys.{sorted_from_all_adjacent, apart_from_distinct, below_from_sorted, IsDistinct-from_apart, IsDistinct-IsPermutation}
use Rattle.std.proofs.lemmas.Map.Views.{Contains-from_any, list_any-from_Contains}
use Rattle.road_map.proofs.Among.{Contains-none, Contains-here, Contains-there, Contains-cases}
use Rattle.proof_octets.specs.declared.marks.Mark.{Mark}
use Rattle.proof_octets.specs.Radius.{marked_ids}
use Rattle.route_client.specs.declared.picking.Picked.{Picked}
use Rattle.route_client.specs.Nearest.{nearer_cmp, PicksNearest}

-- ---- a search among ids in ascending order, possibly repeated

pub same_number : (x y : ℕ) → nat_eq x y ≡ true → x ≡ y
same_number x y h = grind (arith, nat_tests, h)

itself : (x y : ℕ) → y ≡ x → nat_eq x y ≡ true
itself x y h = grind (arith, nat_tests, h)

below_it : (x y : ℕ) → y < x → nat_eq x y ≡ false
below_it x y h = grind (arith, nat_tests, h)

above_it : (x y : ℕ) → x < y → nat_eq x y ≡ false
above_it x y h = grind (arith, nat_tests, h)

pub side : (k i : ℕ) → (k < i) ⊎ (i ≤ k)
side k i = grind arith

pub found_is : (xs : List ℕ) (x : ℕ) (r : Result ℕ ℕ) → MatchResult r (λ i. (i < length xs) × (get_or xs i 0 ≡ x)) (λ i. (i ≤ length xs) × ((k : ℕ) → k < i → get_or xs k 0 < x) × ((k : ℕ) → i ≤ k → k < length xs → x < get_or xs k 0))
    → is_ok r ≡ list_any (nat_eq x) xs
found_is xs x (Ok i) h = sym (list_any_at (nat_eq x) xs i 0 h.0 (itself x (get_or xs i 0) h.1))
found_is xs x (Err i) h = sym (list_any_none (nat_eq x) xs (λ k d lt. at k d lt (side k i)))
  where
    at : (k d : ℕ) → k < length xs → (k < i) ⊎ (i ≤ k) → nat_eq x (get_or xs k d) ≡ false
    at k d lt (inl low) = subst (λ (y : ℕ). nat_eq x y ≡ false) (get_or_default xs k 0 d lt) (below_it x (get_or xs k 0) (h.1 k low))
    at k d lt (inr high) = subst (λ (y : ℕ). nat_eq x y ≡ false) (get_or_default xs k 0 d lt) (above_it x (get_or xs k 0) (h.2 k high lt))

-- ---- the items that pass a test

kept_from : (test : Mark → Bool) (xs : List Mark) (x : Mark) → Contains (filter test xs) x → Contains xs x × (test x ≡ true)
kept_from test [] x c = absurd (Contains-none x c)
kept_from test (z ∷ xs) x c = by_head (test z) refl c (kept_from test xs x)
  where
    by_head : (b : Bool) → test z ≡ b → Contains (cond b (z ∷ filter test xs) (filter test xs)) x → (Contains (filter test xs) x → Contains xs x × (test x ≡ true)) → Contains (z ∷ xs) x × (test x ≡ true)
    by_head true e c rest = elim (Contains-cases z x (filter test xs) c) [
      | inl same ↦ (subst (Contains (z ∷ xs)) same (Contains-here z xs), ap test (sym same) ∙ e)
      | inr d ↦ (let r : Contains xs x × (test x ≡ true) = rest d in (Contains-there z x xs r.0, r.1))
    ]
    by_head false e c rest = let r : Contains xs x × (test x ≡ true) = rest c in (Contains-there z x xs r.0, r.1)

kept_to : (test : Mark → Bool) (xs : List Mark) (x : Mark) → Contains xs x → test x ≡ true → Contains (filter test xs) x
kept_to test [] x c is = absurd (Contains-none x c)
kept_to test (z ∷ xs) x c is = by_head (test z) refl (Contains-cases z x xs c) (λ d. kept_to test xs x d is)
  where
    by_head : (b : Bool) → test z ≡ b → (z ≡ x) ⊎ Contains xs x → (Contains xs x → Contains (filter test xs) x) → Contains (cond b (z ∷ filter test xs) (filter test xs)) x
    by_head true e (inl same) rest = subst (Contains (z ∷ filter test xs)) same (Contains-here z (filter test xs))
    by_head true e (inr d) rest = Contains-there z x (filter test xs) (rest d)
    by_head false e (inl same) rest = absurd (let bad : false ≡ true = sym e ∙ (ap test same ∙ is) in cc)
    by_head false e (inr d) rest = rest d

-- ---- marks with distinct ids, sorted

abbrev same_id : Mark → Mark → Bool
same_id one other = nat_eq one.id other.id

flips : (one other : Mark) → same_id one other ≡ same_id other one
flips one other = nat_eq_equiv.symm one.id other.id

apart : (marks : List Mark) → IsStrictlySortedBy nat_cmp (marked_ids marks) → AllPairs (λ one other. same_id one other ≡ false) marks
apart marks rising i j d lt within =
    let id : Mark → ℕ = λ m. m.id in
    let first : i < length marks = omega (arith, lt, within) in
    let low : get_or (marked_ids marks) i 0 < get_or (marked_ids marks) j 0 = below_from_sorted (marked_ids marks) i j 0 rising lt (omega (arith, within, length-map marks id)) in
    above_it (get_or marks i d).id (get_or marks j d).id (omega (arith, low, get_or-map id marks i d 0 first, get_or-map id marks j d 0 within))

pub nearer_total : IsTotalOrder nearer_cmp
nearer_total = then_total (on_total (λ (m : Mark). m.distance) nat_cmp_total) (on_total (λ (m : Mark). m.id) nat_cmp_total)

strict : (a b c d : ℕ) → is_lt (ordering_then (nat_cmp b a) (nat_cmp d c)) ≡ false → nat_eq c d ≡ false → ordering_then (nat_cmp a b) (nat_cmp c d) ≡ Less
strict a b c d h k = grind (arith, nat_tests, h, k)

none_mark : Mark
none_mark = record { id = 0; distance = 0 }

rises : (found ranked : List Mark) → AllPairs (λ one other. same_id one other ≡ false) found → IsPermutation found ranked → IsSorted nearer_cmp ranked → IsStrictlySortedBy nearer_cmp ranked
rises found ranked distinct moved sorted =
    let once : IsDistinct same_id ranked = IsDistinct-IsPermutation same_id flips found ranked moved (IsDistinct-from_apart same_id found distinct) in
    sorted_from_all_adjacent nearer_total ranked none_mark (λ k lt.
    let one = get_or ranked k none_mark in
    let other = get_or ranked (k + 1) none_mark in
    strict one.distance other.distance one.id other.id (sorted k none_mark (omega arith) lt) (apart_from_distinct same_id ranked k (k + 1) none_mark once (omega arith) lt))

-- ---- the pick

pub picks : (within : List Mark) (ids sorted : List ℕ) (found ranked : List Mark) (most : ℕ) (x : Picked) → IsStrictlySortedBy nat_cmp (marked_ids within) → IsPermutation ids sorted
    → found ≡ filter (λ m. list_any (nat_eq m.id) sorted) within → IsPermutation found ranked → IsSorted nearer_cmp ranked → x.nodes ≡ take most ranked → x.count ≡ length ranked
    → PicksNearest (λ m. Contains within m) ids most x
picks within ids sorted found ranked most x rising same_ids passed moved order nodes count = record {
  all = ranked;
  ranked = record {
    rising = rises found ranked (subst (AllPairs (λ one other. same_id one other ≡ false)) (sym passed) (AllPairs-filter (λ one other. same_id one other ≡ false) test within (apart within rising))) moved order;
    same = λ m. (
      λ c. from m (kept_from test within m (subst (λ (ms : List Mark). Contains ms m) passed (Contains-permutation ranked found m (IsPermutation-sym found ranked moved) c))),
      λ h. Contains-permutation found ranked m moved (subst (λ (ms : List Mark). Contains ms m) (sym passed) (kept_to test within m h.0 (to m h.1))),
    );
  };
  nodes = nodes;
  count = count;
}
  where
    test : Mark → Bool
    test m = list_any (nat_eq m.id) sorted

    from : (m : Mark) → Contains within m × (test m ≡ true) → Contains within m × Contains ids m.id
    from m h = (h.0, Contains-permutation sorted ids m.id (IsPermutation-sym ids sorted same_ids) (Contains-from_any same_number m.id sorted h.1))

    to : (m : Mark) → Contains ids m.id → test m ≡ true
    to m c = list_any-from_Contains nat_eq_equiv m.id sorted (Contains-permutation ids sorted m.id same_ids c)
