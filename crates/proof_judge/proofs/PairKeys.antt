-- Pair items sorted by their two ids, and the first of them that names two ids.
use Rattle.std.proofs.Common.{◌≡◌, ℕ, zero, suc, ◌+◌, ◌<◌, ◌≤◌, ◌==◌, ◌&&◌, nat_lt, Bool, true, false, not, cond, None, Some, List, [], ◌∷◌, ◌⊎◌, inl, inr, refl, arith, ap, sym, ◌∙◌, subst, length, slice_get, get_or}
use Rattle.std.specs.List.{find, filter, IsAllAdjacentAnswer}
use Rattle.std.specs.List.Sorted.{IsSortedByKey, IsStableByKey, IsPartitionedBy, IsPartitionPoint, ties}
use Rattle.std.specs.Ordering.{nat_cmp, ordering_then, is_lt}
use Rattle.std.specs.declared.cmp.Ordering.{Ordering}
use Rattle.std.proofs.lemmas.List.Elements.{filter_agree}
use Rattle.std.proofs.lemmas.Option.{slice_get-get_or, slice_get_within, get_or_from_slice_get}
use Rattle.road_leaf.specs.declared.pair.PairLeaf.{PairLeaf}
use Rattle.proof_judge.specs.ById.{named_in, is_before, AreSorted}

abbrev pub ids_cmp : ℕ × ℕ → ℕ × ℕ → Ordering
ids_cmp x y = ordering_then (nat_cmp x.0 y.0) (nat_cmp x.1 y.1)

abbrev pub ids_of : PairLeaf → ℕ × ℕ
ids_of p = (p.a, p.b)

lt_before : (a b c d : ℕ) → is_lt (ordering_then (nat_cmp a c) (nat_cmp b d)) ≡ is_before a b c d
lt_before a b c d = grind arith

not_before_itself : (a b : ℕ) → is_before a b a b ≡ false
not_before_itself a b = grind arith

not_before_trans : (a b c d e f : ℕ) → is_before a b c d ≡ false → is_before c d e f ≡ false → is_before a b e f ≡ false
not_before_trans a b c d e f h k = grind (arith, h, k)

last_or_before : (i j : ℕ) → i ≤ suc j → (i ≡ suc j) ⊎ (i ≤ j)
last_or_before i j le = grind (arith, le)

abbrev no_earlier : PairLeaf → PairLeaf → Bool
no_earlier y x = is_before y.a y.b x.a x.b

-- a fact about all neighbours implies it for all items
pub neighbours_sorted : (xs : List PairLeaf) → ((j : ℕ) (d : PairLeaf) → j + 1 < length xs → no_earlier (get_or xs (j + 1) d) (get_or xs j d) ≡ false) → AreSorted xs
neighbours_sorted xs h i j d le lt = by_end j i le lt
  where
    itself : (k : ℕ) → no_earlier (get_or xs k d) (get_or xs k d) ≡ false
    itself k = not_before_itself (get_or xs k d).a (get_or xs k d).b

    by_end : (j i : ℕ) → i ≤ j → j < length xs → no_earlier (get_or xs j d) (get_or xs i d) ≡ false
    by_end zero i le lt = let e : 0 ≡ i = omega (arith, le) in subst (λ k. no_earlier (get_or xs 0 d) (get_or xs k d) ≡ false) e (itself 0)
    by_end (suc j) i le lt = elim (last_or_before i j le) [
      | inl e ↦ subst (λ k. no_earlier (get_or xs (suc j) d) (get_or xs k d) ≡ false) (sym e) (itself (suc j))
      | inr less ↦
          let next : j + 1 ≡ suc j = omega arith in
          let x : PairLeaf = get_or xs (suc j) d in
          let y : PairLeaf = get_or xs j d in
          let z : PairLeaf = get_or xs i d in
          let step : no_earlier x y ≡ false = subst (λ k. no_earlier (get_or xs k d) y ≡ false) next (h j d (omega (arith, lt))) in
          not_before_trans x.a x.b y.a y.b z.a z.b step (by_end j i less (omega (arith, lt)))
    ]

pub all_sorted : (xs : List PairLeaf) → IsSortedByKey ids_of ids_cmp xs → AreSorted xs
all_sorted xs h = neighbours_sorted xs (λ j d lt. sym (lt_before (get_or xs (j + 1) d).a (get_or xs (j + 1) d).b (get_or xs j d).a (get_or xs j d).b) ∙ h j d (omega arith) lt)

-- the test whether an item does not come before the previous one
abbrev pub in_order : PairLeaf → PairLeaf → Bool
in_order x y = not (no_earlier y x)

not_true : (b : Bool) → true ≡ not b → b ≡ false
not_true b h = grind (arith, h)

pub tested_sorted : (xs : List PairLeaf) (r : Bool) → r ≡ true → IsAllAdjacentAnswer (λ x y b. b ≡ in_order x y) xs r → AreSorted xs
tested_sorted xs true is h = neighbours_sorted xs (λ j d lt. not_true _ (h j d lt))
tested_sorted xs false is h = cc

-- ---- the first in another order

-- the item found is the first that passes
find_filter : (t : PairLeaf → Bool) (xs : List PairLeaf) → find t xs ≡ slice_get (filter t xs) 0
find_filter t [] = refl
find_filter t (x ∷ xs) = by_test (t x) (find_filter t xs)
  where
    by_test : (b : Bool) → find t xs ≡ slice_get (filter t xs) 0 → cond b (Some x) (find t xs) ≡ slice_get (cond b (x ∷ filter t xs) (filter t xs)) 0
    by_test true h = refl
    by_test false h = h

tied : (a b c d : ℕ) → (not (is_lt (ordering_then (nat_cmp a c) (nat_cmp b d))) && not (is_lt (ordering_then (nat_cmp c a) (nat_cmp d b)))) ≡ ((c == a) && (d == b))
tied a b c d = grind arith

-- a stable sort keeps the first item that names two ids
pub same_first : (xs ys : List PairLeaf) → IsStableByKey ids_of ids_cmp xs ys → (a b : ℕ) → named_in ys a b ≡ named_in xs a b
same_first xs ys h a b =
    let t : PairLeaf → Bool = λ p. (p.a == a) && (p.b == b) in
    let x : PairLeaf = record { a = a; b = b; distance = 0 } in
    let u : PairLeaf → Bool = λ y. ties (λ p q. is_lt (ids_cmp (ids_of p) (ids_of q))) x y in
    let same : (y : PairLeaf) → u y ≡ t y = λ y. tied a b y.a y.b in
    find_filter t ys ∙ (ap (λ zs. slice_get zs 0) (sym (filter_agree u t same ys) ∙ (h x ∙ filter_agree u t same xs)) ∙ sym (find_filter t xs))

-- ---- the search by halves

abbrev pub before : ℕ → ℕ → PairLeaf → Bool
before a b p = is_before p.a p.b a b

stays_before : (a b c d e f : ℕ) → is_before c d a b ≡ false → is_before c d e f ≡ true → is_before a b e f ≡ true
stays_before a b c d e f h k = grind (arith, h, k)

pub partitioned : (xs : List PairLeaf) → AreSorted xs → (a b : ℕ) → IsPartitionedBy (before a b) xs
partitioned xs sorted a b i j d le lt h = stays_before (get_or xs i d).a (get_or xs i d).b (get_or xs j d).a (get_or xs j d).b a b (sorted i j d le lt) h

names_not : (a b c d : ℕ) → is_before a b c d ≡ true → ((a == c) && (b == d)) ≡ false
names_not a b c d h = grind (arith, h)

after_other : (a b c d e f : ℕ) → is_before a b e f ≡ false → ((a == e) && (b == f)) ≡ false → is_before c d a b ≡ false → ((c == e) && (d == f)) ≡ false
after_other a b c d e f h k up = grind (arith, h, k, up)

-- the first item that passes is at an index before which no item passes
pub find_at : (t : PairLeaf → Bool) (xs : List PairLeaf) (i : ℕ) (x : PairLeaf) → ((k : ℕ) (y : PairLeaf) → k < i → slice_get xs k ≡ Some y → t y ≡ false) → slice_get xs i ≡ Some x → t x ≡ true → find t xs ≡ Some x
find_at t [] i x none is passes = cc
find_at t (y ∷ ys) zero x none is passes = let same : y ≡ x = cc in ap (λ b. cond b (Some y) (find t ys)) (ap t same ∙ passes) ∙ ap Some same
find_at t (y ∷ ys) (suc i) x none is passes = ap (λ b. cond b (Some y) (find t ys)) (none 0 y (omega arith) refl) ∙ find_at t ys i x (λ k z lt at. none (suc k) z (omega (arith, lt)) at) is passes

pub find_never : (t : PairLeaf → Bool) (xs : List PairLeaf) → ((k : ℕ) (y : PairLeaf) → slice_get xs k ≡ Some y → t y ≡ false) → find t xs ≡ None
find_never t [] none = refl
find_never t (y ∷ ys) none = ap (λ b. cond b (Some y) (find t ys)) (none 0 y refl) ∙ find_never t ys (λ k z at. none (suc k) z at)

module _ (xs : List PairLeaf) (sorted : AreSorted xs) (a b place : ℕ) (point : IsPartitionPoint (λ y. before a b y ≡ true) (λ y. before a b y ≡ false) xs place) where
  below : (k : ℕ) (y : PairLeaf) → k < place → slice_get xs k ≡ Some y → ((y.a == a) && (y.b == b)) ≡ false
  below k y lt at =
      let here : get_or xs k y ≡ y = get_or_from_slice_get xs k y y at in
      names_not y.a y.b a b (ap (before a b) (sym here) ∙ point.0 k y (omega arith) lt)

  side : (k : ℕ) → (k < place) ⊎ (place ≤ k)
  side k = grind arith

  pub named_here : (x : PairLeaf) → slice_get xs place ≡ Some x → ((x.a == a) && (x.b == b)) ≡ true → Some x ≡ named_in xs a b
  named_here x at passes = sym (find_at (λ p. (p.a == a) && (p.b == b)) xs place x below at passes)

  pub named_past : length xs ≤ place → None ≡ named_in xs a b
  named_past past = sym (find_never (λ p. (p.a == a) && (p.b == b)) xs (λ k y at. let lt : k < length xs = slice_get_within xs k y at in below k y (omega (arith, lt, past)) at))

  pub named_not : (x : PairLeaf) → slice_get xs place ≡ Some x → ((x.a == a) && (x.b == b)) ≡ false → None ≡ named_in xs a b
  named_not x at other = sym (find_never (λ p. (p.a == a) && (p.b == b)) xs (λ k y is. elim (side k) [
    | inl lt ↦ below k y lt is
    | inr ge ↦
        let within : k < length xs = slice_get_within xs k y is in
        let here : get_or xs place x ≡ x = get_or_from_slice_get xs place x x at in
        let there : get_or xs k x ≡ y = get_or_from_slice_get xs k y x is in
        let not_before : is_before x.a x.b a b ≡ false = ap (before a b) (sym here) ∙ point.1 place x (omega arith) (omega arith) in
        let up : is_before y.a y.b x.a x.b ≡ false = ap (λ (p : PairLeaf). is_before p.a p.b x.a x.b) (sym there) ∙ (ap (λ (p : PairLeaf). is_before (get_or xs k x).a (get_or xs k x).b p.a p.b) (sym here) ∙ sorted place k x ge within) in
        after_other x.a x.b y.a y.b a b not_before other up
  ]))

-- the item that a look-up by index found is at that index
pub stands : (xs : List PairLeaf) (i : ℕ) (x : PairLeaf) → true ≡ nat_lt i (length xs) → x ≡ get_or xs i x → slice_get xs i ≡ Some x
stands xs i x lt is = slice_get-get_or xs i x (grind (arith, lt)) ∙ ap Some (sym is)
