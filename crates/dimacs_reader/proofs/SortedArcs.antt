-- Indices of arcs among sorted arcs, and the number left there.
use Rattle.std.proofs.Common.{◌≡◌, ℕ, ◌+◌, ◌-◌, ◌<◌, ◌≤◌, ◌==◌, ◌&&◌, ◌||◌, nat_eq, nat_lt, Bool, true, false, cond, Option, None, Some, IsSome, is_some, List, ◌⊎◌, inl, inr, length, get_or, set, take, count_by, refl, arith, ap, sym, ◌∙◌, subst, get_or-set_other, get_or-set_same}
use Rattle.std.proofs.lemmas.List.{get_or_default, length-take}
use Rattle.std.specs.List.{position, position_or_len}
use Rattle.std.specs.List.Sorted.{IsNonDecreasingBy, IsPartitionedBy, IsPartitionPoint, IsPermutation}
use Rattle.std.specs.Ordering.{nat_cmp, ordering_then, ordering_index}
use Rattle.std.specs.Cmp.{IsTotalOrder, nat_cmp_total, on_total, then_total}
use Rattle.std.proofs.lemmas.List.Sorted.{searchable_from_sorted, IsPartitionedBy-ltb, sum_by-IsPermutation}
use Rattle.std.proofs.lemmas.List.Sums.{position_or_len_is, fails_before_first, sum_by_more, count_by-le-length}
use Rattle.std.proofs.lemmas.List.Quantifiers.{position-Some}
use Rattle.std.proofs.lemmas.Bool.{cases_eq}
use Rattle.dimacs_reader.specs.declared.arc.Arc.{Arc}
use Rattle.dimacs_reader.specs.Dimacs.{is_arc, turned}
use Rattle.dimacs_reader.specs.Left.{three_of, three_cmp, rank, precedes, AreSorted, place_in, left_at, left_of, has_back, TakesBack}

three_total : IsTotalOrder three_cmp
three_total = then_total (then_total (on_total (λ t. t.0) nat_cmp_total) (on_total (λ t. t.1) nat_cmp_total)) (on_total (λ t. t.2) nat_cmp_total)

with_it : (arc other : Arc) → is_arc arc other ≡ nat_eq (rank arc other) 1
with_it arc other = grind arith

same_arc : (a b : Arc) → is_arc a b ≡ true → a ≡ b
same_arc a b h =
    let x : a.from ≡ b.from = grind (arith, h) in
    let y : a.to ≡ b.to = grind (arith, h) in
    let z : a.length ≡ b.length = grind (arith, h) in
    let A : ℕ → ℕ → ℕ → Arc = λ f t l. record { from = f; to = t; length = l } in
    ap (λ f. A f a.to a.length) x ∙ (ap (λ t. A b.from t a.length) y ∙ ap (λ l. A b.from b.to l) z)

is_arc_itself : (a : Arc) → is_arc a a ≡ true
is_arc_itself a = grind arith

yes : (x y : ℕ) → x < y → nat_lt x y ≡ true
yes x y h = grind (arith, h)

no : (x : ℕ) → nat_lt x x ≡ false
no x = grind arith

module _ (xs : List Arc) (sorted : AreSorted xs) (arc : Arc) where
  ranks_rise : IsNonDecreasingBy (rank arc) xs
  ranks_rise = searchable_from_sorted three_total three_of xs (three_of arc) sorted

  pub partitioned : IsPartitionedBy (precedes arc) xs
  partitioned = IsPartitionedBy-ltb (rank arc) xs 1 ranks_rise

  module _ (place : ℕ) (point : IsPartitionPoint (λ y. precedes arc y ≡ true) (λ y. precedes arc y ≡ false) xs place) where
    low : (r : ℕ) → nat_lt r 1 ≡ true → nat_eq r 1 ≡ false
    low r h = grind (arith, h)

    before : (k : ℕ) (d : Arc) → k < place → k < length xs → is_arc arc (get_or xs k d) ≡ false
    before k d lt within = with_it arc (get_or xs k d) ∙ low (rank arc (get_or xs k d)) (point.0 k d (omega arith) lt)

    pub place_here : (d : Arc) → place < length xs → is_arc arc (get_or xs place d) ≡ true → Some place ≡ place_in xs arc
    place_here d within is = sym (placed (position_or_len (is_arc arc) xs) (position_or_len_is (is_arc arc) xs place d (omega (arith, within)) (λ k lt. before k d lt (omega (arith, lt, within))) (λ w. is)))
      where
        placed : (p : ℕ) → p ≡ place → cond (nat_lt p (length xs)) (Some p) None ≡ Some place
        placed p e = ap (λ b. cond b (Some p) None) (yes p (length xs) (omega (arith, within, e))) ∙ ap Some e

    nowhere : (d : Arc) → ((k : ℕ) → k < length xs → is_arc arc (get_or xs k d) ≡ false) → None ≡ place_in xs arc
    nowhere d none = sym (placed (position_or_len (is_arc arc) xs) (position_or_len_is (is_arc arc) xs (length xs) d (omega arith) (λ k lt. none k lt) (λ w. absurd (omega (arith, w)))))
      where
        placed : (p : ℕ) → p ≡ length xs → cond (nat_lt p (length xs)) (Some p) None ≡ None
        placed p e = ap (λ n. cond (nat_lt n (length xs)) (Some n) None) e ∙ ap (λ b. cond b (Some (length xs)) None) (no (length xs))

    pub place_past : Arc → length xs ≤ place → None ≡ place_in xs arc
    place_past d past = nowhere d (λ k lt. before k d (omega (arith, lt, past)) lt)

    side : (k : ℕ) → (k < place) ⊎ (place ≤ k)
    side k = grind arith

    high : (r s : ℕ) → nat_lt r 1 ≡ false → nat_eq r 1 ≡ false → r ≤ s → nat_eq s 1 ≡ false
    high r s h ne le = grind (arith, h, ne, le)

    pub place_not : (d : Arc) → place < length xs → is_arc arc (get_or xs place d) ≡ false → None ≡ place_in xs arc
    place_not d within other = nowhere d (λ k lt. elim (side k) [
      | inl less ↦ before k d less lt
      | inr ge ↦ with_it arc (get_or xs k d) ∙ high (rank arc (get_or xs place d)) (rank arc (get_or xs k d)) (point.1 place d (omega arith) within) (sym (with_it arc (get_or xs place d)) ∙ other) (ranks_rise place k d ge lt)
    ])

-- the arc at the index that was found
stands : (xs : List Arc) (arc : Arc) (k : ℕ) → place_in xs arc ≡ Some k → (k < length xs) × (is_arc arc (get_or xs k arc) ≡ true)
stands xs arc k h = let p = position-Some (is_arc arc) xs k arc h in (p.0, p.1)

pub within_arcs : (xs : List Arc) (arc : Arc) (k : ℕ) → Some k ≡ place_in xs arc → k < length xs
within_arcs xs arc k h = (stands xs arc k (sym h)).0

-- an arc of the list has an index
pub has_place : (xs : List Arc) (i : ℕ) (arc : Arc) → i < length xs → arc ≡ get_or xs i arc → IsSome (place_in xs arc)
has_place xs i arc within at = placed (position_or_len (is_arc arc) xs) refl
  where
    passes : is_arc arc (get_or xs i arc) ≡ true
    passes = subst (λ x. is_arc arc x ≡ true) at (is_arc_itself arc)

    placed : (p : ℕ) → position_or_len (is_arc arc) xs ≡ p → is_some (cond (nat_lt p (length xs)) (Some p) None) ≡ true
    placed p e = elim (order i p) [
      | inl lt ↦ absurd (let fails : is_arc arc (get_or xs i arc) ≡ false = fails_before_first (is_arc arc) xs i arc (omega (arith, lt, e)) in let bad : true ≡ false = sym passes ∙ fails in cc)
      | inr le ↦ ap (λ b. is_some (cond b (Some p) None)) (yes p (length xs) (omega (arith, le, within)))
    ]
      where
        order : (m n : ℕ) → (m < n) ⊎ (n ≤ m)
        order m n = grind arith

not_it : (b : Bool) → (b ≡ true → ⊥) → b ≡ false
not_it true h = absurd (h refl)
not_it false h = refl

-- the number at the index of an arc changes
pub left_turn : (xs : List Arc) (left : List ℕ) (arc : Arc) (k count : ℕ) → length left ≡ length xs → Some k ≡ place_in xs arc → (other : Arc) → left_of xs (set left k count) other ≡ cond (is_arc arc other) count (left_of xs left other)
left_turn xs left arc k count long at other = by_place (place_in xs other) refl
  where
    same_place : is_arc arc other ≡ true → place_in xs other ≡ Some k
    same_place t = ap (place_in xs) (sym (same_arc arc other t)) ∙ sym at

    by_place : (o : Option ℕ) → place_in xs other ≡ o → left_at (set left k count) o ≡ cond (is_arc arc other) count (left_at left o)
    by_place None e = sym (ap (λ b. cond b count 0) (not_it (is_arc arc other) (λ t. let bad : None ≡ Some k = sym e ∙ same_place t in cc)))
    by_place (Some p) e = elim (cases_eq p k) [
      | inl eq ↦ (
          let here = stands xs arc k (sym at) in
          let there = stands xs other p e in
          let one : arc ≡ get_or xs k arc = same_arc arc (get_or xs k arc) here.1 in
          let two : other ≡ get_or xs p other = same_arc other (get_or xs p other) there.1 in
          let read : get_or xs p other ≡ get_or xs k arc = ap (λ i. get_or xs i other) eq ∙ get_or_default xs k other arc here.0 in
          let it : is_arc arc other ≡ true = subst (λ x. is_arc arc x ≡ true) (one ∙ (sym read ∙ sym two)) (is_arc_itself arc) in
          let lt : k < length left = omega (arith, long, here.0) in
          ap (λ i. get_or (set left k count) i 0) eq ∙ (get_or-set_same left k count 0 lt ∙ sym (ap (λ b. cond b count (get_or left p 0)) it)))
      | inr ne ↦ (
          get_or-set_other left k p count 0 ne ∙ sym (ap (λ b. cond b count (get_or left p 0)) (not_it (is_arc arc other) (λ t. let eq : Some p ≡ Some k = sym e ∙ same_place t in let number : p ≡ k = cc in ne number))))
    ]

-- one more at the index of an arc
pub one_more : (xs : List Arc) (left : List ℕ) (arc : Arc) (k index : ℕ) → length left ≡ length xs → Some k ≡ place_in xs arc → index < length xs → arc ≡ get_or xs index arc → ((other : Arc) → left_of xs left other ≡ count_by (is_arc other) (take index xs)) → (other : Arc) → left_of xs (set left k (get_or left k 0 + 1)) other ≡ count_by (is_arc other) (take (index + 1) xs)
one_more xs left arc k index long at within is so_far other =
    left_turn xs left arc k (get_or left k 0 + 1) long at other
    ∙ (by_test (is_arc other arc) refl
    ∙ sym (sum_by_more (λ x. cond (is_arc other x) 1 0) xs index arc within ∙ ap (λ x. count_by (is_arc other) (take index xs) + cond (is_arc other x) 1 0) (sym is)))
  where
    flips : (a b : Arc) → is_arc a b ≡ is_arc b a
    flips a b = grind arith

    by_test : (b : Bool) → is_arc other arc ≡ b → cond (is_arc arc other) (get_or left k 0 + 1) (left_of xs left other) ≡ count_by (is_arc other) (take index xs) + cond (is_arc other arc) 1 0
    by_test true t =
        let same : other ≡ arc = same_arc other arc t in
        let here : left_of xs left other ≡ get_or left k 0 = ap (left_of xs left) same ∙ sym (ap (left_at left) at) in
        ap (λ b. cond b (get_or left k 0 + 1) (left_of xs left other)) (flips arc other ∙ t) ∙ (ap (λ n. n + 1) (sym here ∙ so_far other) ∙ sym (ap (λ b. count_by (is_arc other) (take index xs) + cond b 1 0) t))
    by_test false t =
        ap (λ b. cond b (get_or left k 0 + 1) (left_of xs left other)) (flips arc other ∙ t) ∙ (so_far other ∙ (omega arith ∙ sym (ap (λ b. count_by (is_arc other) (take index xs) + cond b 1 0) t)))

-- the counts over sorted arcs are those of the arcs
pub same_counts : (xs ys : List Arc) → IsPermutation xs ys → (arc : Arc) → count_by (is_arc arc) ys ≡ count_by (is_arc arc) xs
same_counts xs ys h arc = sum_by-IsPermutation (λ (x : Arc). cond (is_arc arc x) 1 0) xs ys h

-- one less at the index of the reverse arc
pub takes_back : (xs : List Arc) (left : List ℕ) (arc : Arc) (k : ℕ) → length left ≡ length xs → Some k ≡ place_in xs (turned arc) → 0 < get_or left k 0 → TakesBack (left_of xs left) (left_of xs (set left k (get_or left k 0 - 1))) arc
takes_back xs left arc k long at some other apart =
    ap (λ n. n + cond (is_arc (turned other) arc) 1 0) (left_turn xs left (turned arc) k (get_or left k 0 - 1) long at other) ∙ by_test (is_arc (turned arc) other) refl
  where
    turns : (a b : Arc) → is_arc (turned a) b ≡ is_arc (turned b) a
    turns a b = grind arith

    by_test : (b : Bool) → is_arc (turned arc) other ≡ b → cond (is_arc (turned arc) other) (get_or left k 0 - 1) (left_of xs left other) + cond (is_arc (turned other) arc) 1 0 ≡ left_of xs left other
    by_test true t =
        let same : turned arc ≡ other = same_arc (turned arc) other t in
        let here : left_of xs left other ≡ get_or left k 0 = ap (left_of xs left) (sym same) ∙ sym (ap (left_at left) at) in
        ap (λ b. cond b (get_or left k 0 - 1) (left_of xs left other) + cond (is_arc (turned other) arc) 1 0) t ∙ (ap (λ b. (get_or left k 0 - 1) + cond b 1 0) (turns other arc ∙ t) ∙ omega (arith, some, here))
    by_test false t =
        ap (λ b. cond b (get_or left k 0 - 1) (left_of xs left other) + cond (is_arc (turned other) arc) 1 0) t ∙ (ap (λ b. left_of xs left other + cond b 1 0) (turns other arc ∙ t) ∙ omega arith)

-- an index tells how many arcs are left
pub at_place : (xs : List Arc) (left : List ℕ) (arc : Arc) (k : ℕ) → Some k ≡ place_in xs arc → left_of xs left arc ≡ get_or left k 0
at_place xs left arc k at = sym (ap (left_at left) at)

pub at_none : (xs : List Arc) (left : List ℕ) (arc : Arc) → None ≡ place_in xs arc → left_of xs left arc ≡ 0
at_none xs left arc at = sym (ap (left_at left) at)

-- if no number is above 0, nothing is left
pub none_left : (xs : List Arc) (left : List ℕ) → ((k : ℕ) → get_or left k 0 ≡ 0) → (other : Arc) → left_of xs left other ≡ 0
none_left xs left zero other = by_place (place_in xs other)
  where
    by_place : (o : Option ℕ) → left_at left o ≡ 0
    by_place None = refl
    by_place (Some k) = zero k

-- whether an arc between two nodes has a reverse arc
pub back_there : (xs : List Arc) (left : List ℕ) (arc : Arc) (b : Bool) (n : ℕ) → (arc.from ≡ arc.to → ⊥) → left_of xs left (turned arc) ≡ n → b ≡ nat_lt 0 n → b ≡ has_back (left_of xs left) arc
back_there xs left arc b n apart same is =
    let differ : (arc.from == arc.to) ≡ false = grind (arith, apart) in
    is ∙ (ap (nat_lt 0) (sym same) ∙ sym (ap (λ t. t || nat_lt 0 (left_of xs left (turned arc))) differ))

-- an arc from a node to itself takes no reverse arc
pub loop_takes : (left : Arc → ℕ) (arc : Arc) → arc.from ≡ arc.to → TakesBack left left arc
loop_takes left arc same other apart =
    let no_turn : is_arc (turned other) arc ≡ false = not_it (is_arc (turned other) arc) (λ t.
    let x : other.to ≡ arc.from = ap (λ (a : Arc). a.from) (same_arc (turned other) arc t) in
    let y : other.from ≡ arc.to = ap (λ (a : Arc). a.to) (same_arc (turned other) arc t) in
    apart (y ∙ (sym same ∙ sym x))) in
    ap (λ b. left other + cond b 1 0) no_turn ∙ omega arith

pub first_of : (o : Option ℕ) {p : Option ℕ} → o ≡ p → IsSome p → IsSome o
first_of o same there = subst IsSome (sym same) there

pub few_counted : (t : Arc → Bool) (xs : List Arc) (i : ℕ) → count_by t (take i xs) ≤ i
few_counted t xs i = omega (arith, count_by-le-length t (take i xs), length-take {A = Arc} i xs)
