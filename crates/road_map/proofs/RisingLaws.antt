-- Ascending ids and their indices.
use Rattle.std.proofs.Common.{◌≡◌, ℕ, ◌<◌, nat_eq, nat_lt, cond, true, false, None, Some, List, [], Result, Ok, Err, length, map, get_or, arith, ap, sym, ◌∙◌, subst}
use Rattle.std.specs.Result.{result_ok}
use Rattle.std.specs.List.{position_or_len, IsDistinct}
use Rattle.std.specs.Ordering.{nat_cmp}
use Rattle.std.specs.List.Sorted.{IsStrictlySortedBy, IsSearchInRange, IsBinarySearchResult}
use Rattle.std.proofs.lemmas.List.Sums.{position_or_len_is}
use Rattle.std.proofs.lemmas.List.Quantifiers.{position-Some}
use Rattle.std.proofs.lemmas.Option.{slice_get-get_or, slice_get_within, get_or_from_slice_get}
use Rattle.std.proofs.lemmas.Map.Keys.{below_from_sorted, IsDistinct-from_apart}
use Rattle.road_map.specs.Places.{RiseBy, StandsAt, AreRising, place_in}
use Rattle.road_map.proofs.Among.{map_place}
use Rattle.road_map.proofs.PlaceLaws.{some_clause, none_clause}

pub differ : (x y : ℕ) → (x ≡ y → ⊥) → nat_eq x y ≡ false
differ x y ne = grind (arith, ne)

pub same : (x y : ℕ) → x ≡ y → nat_eq x y ≡ true
same x y e = grind (arith, e)

pub is_same : (x y : ℕ) → nat_eq x y ≡ true → x ≡ y
is_same x y h = grind (arith, h)

yes : (x y : ℕ) → x < y → nat_lt x y ≡ true
yes x y h = grind (arith, h)

no : (x : ℕ) → nat_lt x x ≡ false
no x = grind arith

-- sorted ids ascend
pub rise_from_sorted : (ids : List ℕ) → IsStrictlySortedBy nat_cmp ids → AreRising ids
rise_from_sorted ids sorted i j x y lt a b =
    let less : get_or ids i 0 < get_or ids j 0 = below_from_sorted ids i j 0 sorted lt (slice_get_within ids j y b) in
    let p : get_or ids i 0 ≡ x = get_or_from_slice_get ids i x 0 a in
    let q : get_or ids j 0 ≡ y = get_or_from_slice_get ids j y 0 b in
    omega arith

pub rise_apart : (ids : List ℕ) → AreRising ids → IsDistinct nat_eq ids
rise_apart ids rise = IsDistinct-from_apart nat_eq ids (λ i j d lt within.
    let less : get_or ids i d < get_or ids j d = rise i j (get_or ids i d) (get_or ids j d) lt (slice_get-get_or ids i d (omega arith)) (slice_get-get_or ids j d within) in
    differ (get_or ids i d) (get_or ids j d) (λ e. absurd (omega arith)))

pub none_rise : (ids : List ℕ) → ids ≡ [] → AreRising ids
none_rise ids none = subst AreRising (sym none) (λ i j x y lt a b. cc)

-- ---- the index of an id

pub stands : (ids : List ℕ) (id k : ℕ) → place_in ids id ≡ Some k → StandsAt (λ i. i) ids id k
stands ids id k h =
    let p = position-Some (nat_eq id) ids k 0 h in
    (get_or ids k 0, slice_get-get_or ids k 0 p.0, sym (is_same id (get_or ids k 0) p.1))

pub found : (ids : List ℕ) (id k : ℕ) → AreRising ids → StandsAt (λ i. i) ids id k → place_in ids id ≡ Some k
found ids id k rise at = placed (position_or_len (nat_eq id) ids) first
  where
    lt : k < length ids
    lt = slice_get_within ids k at.0 at.1

    here : get_or ids k 0 ≡ id
    here = get_or_from_slice_get ids k at.0 0 at.1 ∙ at.2

    first : position_or_len (nat_eq id) ids ≡ k
    first = position_or_len_is (nat_eq id) ids k 0 (omega (arith, lt)) (λ j before. differ id (get_or ids j 0) (λ e.
        let less : get_or ids j 0 < at.0 = rise j k (get_or ids j 0) at.0 before (slice_get-get_or ids j 0 (omega (arith, lt))) at.1 in
        absurd (omega (arith, at.2)))) (λ within. same id (get_or ids k 0) (sym here))

    placed : (p : ℕ) → p ≡ k → cond (nat_lt p (length ids)) (Some p) None ≡ Some k
    placed p e = ap (λ b. cond b (Some p) None) (yes p (length ids) (omega (arith, lt, e))) ∙ ap Some e

pub missing : (ids : List ℕ) (id : ℕ) → ((k : ℕ) → StandsAt (λ i. i) ids id k → ⊥) → place_in ids id ≡ None
missing ids id none = placed (position_or_len (nat_eq id) ids) last
  where
    last : position_or_len (nat_eq id) ids ≡ length ids
    last = position_or_len_is (nat_eq id) ids (length ids) 0 (omega arith) (λ j before. differ id (get_or ids j 0) (λ e. none j (get_or ids j 0, slice_get-get_or ids j 0 before, sym e))) (λ within. absurd (omega arith))

    placed : (p : ℕ) → p ≡ length ids → cond (nat_lt p (length ids)) (Some p) None ≡ None
    placed p e = ap (λ n. cond (nat_lt n (length ids)) (Some n) None) e ∙ ap (λ b. cond b (Some (length ids)) None) (no (length ids))

-- the result of a search by halves
pub by_halves : (ids : List ℕ) (id : ℕ) (r : Result ℕ ℕ) → AreRising ids → IsSearchInRange r (length ids) → IsBinarySearchResult (λ y. nat_cmp y id) ids r → result_ok r ≡ place_in ids id
by_halves ids id (Ok k) rise bound is = sym (found ids id k rise (some_clause (λ i. i) ids id (Ok k) bound is 0))
by_halves ids id (Err k) rise bound is = sym (missing ids id (none_clause (λ i. i) ids id (Err k) rise bound is))

pub placed_within : (ids : List ℕ) (id k : ℕ) → place_in ids id ≡ Some k → k < length ids
placed_within ids id k h = let at = stands ids id k h in slice_get_within ids k at.0 at.1

-- at an index there is only one id
pub one_id : (ids : List ℕ) (a b k : ℕ) → place_in ids a ≡ Some k → place_in ids b ≡ Some k → a ≡ b
one_id ids a b k x y =
    let p = stands ids a k x in
    let q = stands ids b k y in
    let e : Some p.0 ≡ Some q.0 = sym p.1 ∙ q.1 in
    let id : p.0 ≡ q.0 = cc in
    sym p.2 ∙ (id ∙ q.2)

-- the keys of items that ascend by them
pub keys_rise : {X : Type 0} (key : X → ℕ) (xs : List X) → RiseBy key xs → AreRising (map key xs)
keys_rise key xs rise i j x y lt a b =
    let p = map_place key xs i x a in
    let q = map_place key xs j y b in
    let less : key p.0 < key q.0 = rise i j p.0 q.0 lt p.1 q.1 in
    omega (arith, less, p.2, q.2)
