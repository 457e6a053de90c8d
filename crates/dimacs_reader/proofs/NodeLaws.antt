-- Nodes by their ids, from places with distinct ids.
use Rattle.std.proofs.Common.{◌≡◌, ℕ, zero, suc, ◌+◌, ◌-◌, ◌<◌, ◌≤◌, ◌==◌, nat_eq, nat_lt, Bool, true, false, cond, Option, None, Some, List, [], ◌∷◌, inl, inr, length, slice_get, get_or, count_by, refl, sym, ◌∙◌, ap, subst, ⊎_elim, arith}
use Rattle.std.specs.List.{Contains, All, IsDistinct, AllByRecursion, find, list_any, range_with_len, cons_option, filter_map}
use Rattle.std.specs.List.Sorted.{IsPermutation, IsNonDecreasingBy, IsStrictlySortedBy}
use Rattle.std.specs.Cmp.{nat_eq_equiv}
use Rattle.std.specs.Ordering.{nat_cmp}
use Rattle.std.specs.declared.cmp.Ordering.TheVariants.{Less}
use Rattle.std.proofs.lemmas.Bool.{cases_lt}
use Rattle.std.proofs.lemmas.List.{length-map}
use Rattle.std.proofs.lemmas.List.Elements.{All-contains}
use Rattle.std.proofs.lemmas.List.FromFn.{length-range_with_len, get_or-range_with_len}
use Rattle.std.proofs.lemmas.Map.Keys.{IsDistinct-cons, IsDistinct-from_apart}
use Rattle.std.proofs.lemmas.Map.Made.{length-le_from_is_member}
use Rattle.std.proofs.lemmas.Map.Views.{list_any-from_Contains, Contains-from_any}
use Rattle.std.proofs.lemmas.Option.{slice_get-get_or}
use Rattle.road_map.specs.declared.parts.Node.{Node}
use Rattle.road_map.specs.Least.{IsLeast}
use Rattle.road_map.specs.Maps.{StandsTwice, IsById}
use Rattle.road_map.specs.Walks.{ids}
use Rattle.road_map.proofs.Among.{Contains-none, Contains-here, Contains-there, Contains-cases, contains_at, place_at, map_place, Contains-from_map}
use Rattle.road_map.proofs.Twice.{is_at, two_count, twice_from_count}
use Rattle.road_map.proofs.OrderLaws.{by_id_from_sorted, least_repeated, IsById-unique}
use Rattle.dimacs_reader.specs.Dimacs.{placed_twice, nodes_of}
use Rattle.dimacs_reader.proofs.Ranges.{find_some, find_none, none_found}

-- each id is from 1 to the number of nodes
abbrev pub InRange : List Node → ℕ → Type 0
InRange places nodes = All (λ (n : Node). (1 ≤ n.id) × (n.id ≤ nodes)) places

-- no id occurs twice
abbrev pub Distinct : List Node → Type 0
Distinct places = (id : ℕ) → StandsTwice places id → ⊥

twice_passes : (places : List Node) (id : ℕ) → StandsTwice places id → nat_lt 1 (count_by (is_at id) places) ≡ true
twice_passes places id twice = let n = count_by (is_at id) places in let two : 2 ≤ n = twice in grind (arith, two)

once_fails : (places : List Node) (id : ℕ) → (StandsTwice places id → ⊥) → nat_lt 1 (count_by (is_at id) places) ≡ false
once_fails places id once = by_number (count_by (is_at id) places) once
  where
    by_number : (n : ℕ) → (2 ≤ n → ⊥) → nat_lt 1 n ≡ false
    by_number n few = ⊎_elim (λ (more : 1 < n). absurd (few (omega arith))) (λ (less : n ≤ 1). grind (arith, less)) (cases_lt 1 n)

fails_once : (n : ℕ) → nat_lt 1 n ≡ false → 2 ≤ n → ⊥
fails_once n fails two = absurd (grind (arith, fails, two))

pub placed_once : (nodes : ℕ) (places : List Node) → Distinct places → placed_twice nodes places ≡ None
unfolding placed_twice
placed_once nodes places distinct = find_none (λ id. nat_lt 1 (count_by (is_at id) places)) 1 nodes (λ id low high. once_fails places id (distinct id))

pub twice_placed : (nodes : ℕ) (places : List Node) (id : ℕ) → InRange places nodes → IsLeast (StandsTwice places) (Some id) → placed_twice nodes places ≡ Some id
unfolding placed_twice
twice_placed nodes places id within least =
    let two = twice_from_count id places least.0 in
    let range : (1 ≤ two.m.id) × (two.m.id ≤ nodes) = All-contains (λ (n : Node). (1 ≤ n.id) × (n.id ≤ nodes)) places two.m within (contains_at places two.i two.m two.first) in
    let same : two.m.id ≡ id = two.same_first in
    let low : 1 ≤ id = omega (arith, range.0) in
    let high : id < 1 + nodes = omega (arith, range.1) in
    find_some (λ id. nat_lt 1 (count_by (is_at id) places)) 1 nodes id low high (twice_passes places id least.0) (λ k above less. once_fails places k (λ bad. let le : id ≤ k = least.1 k bad in absurd (omega arith)))

-- if the range has no id with two places, no id has two places
pub all_once : (nodes : ℕ) (places : List Node) → InRange places nodes → placed_twice nodes places ≡ None → Distinct places
unfolding placed_twice
all_once nodes places within none id twice =
    let two = twice_from_count id places twice in
    let range : (1 ≤ two.m.id) × (two.m.id ≤ nodes) = All-contains (λ (n : Node). (1 ≤ n.id) × (n.id ≤ nodes)) places two.m within (contains_at places two.i two.m two.first) in
    let same : two.m.id ≡ id = two.same_first in
    let low : 1 ≤ id = omega (arith, range.0) in
    let high : id < 1 + nodes = omega (arith, range.1) in
    fails_once (count_by (is_at id) places) (none_found (λ id. nat_lt 1 (count_by (is_at id) places)) 1 nodes none id low high) twice

-- ---- the item found

is_id : (a id : ℕ) → (a == id) ≡ true → a ≡ id
is_id a id h = grind (arith, h)

same_id : (a id : ℕ) → a ≡ id → (a == id) ≡ true
same_id a id h = grind (arith, h)

pub find_is : (id : ℕ) (places : List Node) (n : Node) → find (is_at id) places ≡ Some n → Contains places n × (n.id ≡ id)
find_is id [] n h = cc
find_is id (x ∷ xs) n h = by_head (x.id == id) refl h (find_is id xs n)
  where
    by_head : (b : Bool) → (x.id == id) ≡ b → cond b (Some x) (find (is_at id) xs) ≡ Some n → (find (is_at id) xs ≡ Some n → Contains xs n × (n.id ≡ id)) → Contains (x ∷ xs) n × (n.id ≡ id)
    by_head true e found later =
        let same : x ≡ n = cc in
        (subst (λ y. Contains (x ∷ xs) y) same (Contains-here x xs), subst (λ (y : Node). y.id ≡ id) same (is_id x.id id e))
    by_head false e found later = let rest : Contains xs n × (n.id ≡ id) = later found in (Contains-there x n xs rest.0, rest.1)

pub found : (id : ℕ) (places : List Node) (n : Node) → Contains places n → n.id ≡ id → (m : Node) × (find (is_at id) places ≡ Some m)
found id [] n h same = absurd (Contains-none n h)
found id (x ∷ xs) n h same = by_head (x.id == id) refl (found id xs n)
  where
    by_head : (b : Bool) → (x.id == id) ≡ b → (Contains xs n → n.id ≡ id → (m : Node) × (find (is_at id) xs ≡ Some m)) → (m : Node) × (cond b (Some x) (find (is_at id) xs) ≡ Some m)
    by_head true e later = (x, refl)
    by_head false e later = elim (Contains-cases x n xs h) [
      | inl first ↦ let passes : (x.id == id) ≡ true = same_id x.id id (ap (λ (y : Node). y.id) first ∙ same) in cc
      | inr rest ↦ later rest same
    ]

-- a node is found by its id
pub one_of_id : (places : List Node) → Distinct places → (m n : Node) → Contains places m → Contains places n → m.id ≡ n.id → m ≡ n
one_of_id places distinct m n a b same =
    let p : (p : ℕ) × (slice_get places p ≡ Some m) = place_at places m a in
    let q : (q : ℕ) × (slice_get places q ≡ Some n) = place_at places n b in
    ⊎_elim
    (λ (less : p.0 < q.0). absurd (distinct n.id (two_count n.id places p.0 q.0 m n less p.1 q.1 same refl)))
    (λ (le : q.0 ≤ p.0). ⊎_elim
    (λ (less : q.0 < p.0). absurd (distinct n.id (two_count n.id places q.0 p.0 n m less q.1 p.1 refl same)))
    (λ (ge : p.0 ≤ q.0). let here : p.0 ≡ q.0 = omega arith in let both : Some m ≡ Some n = sym p.1 ∙ (ap (slice_get places) here ∙ q.1) in cc)
    (cases_lt q.0 p.0))
    (cases_lt p.0 q.0)

pub found_is : (places : List Node) → Distinct places → (n : Node) → Contains places n → find (is_at n.id) places ≡ Some n
found_is places distinct n h =
    let m : (m : Node) × (find (is_at n.id) places ≡ Some m) = found n.id places n h refl in
    let is : Contains places m.0 × (m.0.id ≡ n.id) = find_is n.id places m.0 m.1 in
    m.1 ∙ ap Some (one_of_id places distinct m.0 n is.0 h is.1)

-- ---- the numbers of a range

pub in_range : (a n k : ℕ) → a ≤ k → k < a + n → Contains (range_with_len a n) k
in_range a n k low high =
    let at : get_or (range_with_len a n) (k - a) k ≡ a + (k - a) = get_or-range_with_len a n (k - a) k (omega arith) in
    let long : length (range_with_len a n) ≡ n = length-range_with_len a n in
    (k - a, omega arith, at ∙ omega arith)

-- ---- the nodes of a range

listed : List Node → ℕ → ℕ → List Node
listed places a n = filter_map (λ id. find (is_at id) places) (range_with_len a n)

-- each node is one of the places, and its id is in the range
from_listed : (places : List Node) (a n : ℕ) (node : Node) → Contains (listed places a n) node → Contains places node × (a ≤ node.id) × (node.id < a + n)
unfolding listed
from_listed places a zero node h = absurd (Contains-none node h)
from_listed places a (suc n) node h = by_head (find (is_at a) places) refl h (from_listed places (a + 1) n node)
  where
    by_head : (o : Option Node) → find (is_at a) places ≡ o → Contains (cons_option o (listed places (a + 1) n)) node → (Contains (listed places (a + 1) n) node → Contains places node × (a + 1 ≤ node.id) × (node.id < a + 1 + n)) → Contains places node × (a ≤ node.id) × (node.id < a + suc n)
    by_head None e c later = let rest : Contains places node × (a + 1 ≤ node.id) × (node.id < a + 1 + n) = later c in (rest.0, omega (arith, rest.1), omega (arith, rest.2))
    by_head (Some m) e c later = elim (Contains-cases m node (listed places (a + 1) n) c) [
      | inl same ↦
          let is : Contains places m × (m.id ≡ a) = find_is a places m e in
          let id : node.id ≡ a = subst (λ (y : Node). y.id ≡ a) same is.1 in
          (subst (λ y. Contains places y) same is.0, omega (arith, id), omega (arith, id))
      | inr more ↦ let rest : Contains places node × (a + 1 ≤ node.id) × (node.id < a + 1 + n) = later more in (rest.0, omega (arith, rest.1), omega (arith, rest.2))
    ]

to_listed : (places : List Node) → Distinct places → (a n : ℕ) (node : Node) → Contains places node → a ≤ node.id → node.id < a + n → Contains (listed places a n) node
unfolding listed
to_listed places distinct a zero node h low high = absurd (omega arith)
to_listed places distinct a (suc n) node h low high =
    ⊎_elim
    (λ (less : a < node.id). past (find (is_at a) places) (to_listed places distinct (a + 1) n node h (omega arith) (omega arith)))
    (λ (le : node.id ≤ a).
    let same : node.id ≡ a = omega arith in
    let is : find (is_at a) places ≡ Some node = subst (λ id. find (is_at id) places ≡ Some node) same (found_is places distinct node h) in
    rw is (Contains-here node (listed places (a + 1) n)))
    (cases_lt a node.id)
  where
    past : (o : Option Node) → Contains (listed places (a + 1) n) node → Contains (cons_option o (listed places (a + 1) n)) node
    past None c = c
    past (Some m) c = Contains-there m node (listed places (a + 1) n) c

less_cmp : (a b : ℕ) → a < b → nat_cmp a b ≡ Less
less_cmp a b h = grind (arith, h)

all_above : (id : ℕ) (xs : List Node) → ((n : Node) → Contains xs n → id < n.id) → AllByRecursion (λ y. nat_cmp id y ≡ Less) (ids xs)
all_above id [] h = tt
all_above id (x ∷ xs) h = (less_cmp id x.id (h x (Contains-here x xs)), all_above id xs (λ n c. h n (Contains-there x n xs c)))

listed_rises : (places : List Node) (a n : ℕ) → IsStrictlySortedBy nat_cmp (ids (listed places a n))
unfolding listed IsStrictlySortedBy
listed_rises places a zero = tt
listed_rises places a (suc n) = by_head (find (is_at a) places) refl (listed_rises places (a + 1) n)
  where
    by_head : (o : Option Node) → find (is_at a) places ≡ o → IsStrictlySortedBy nat_cmp (ids (listed places (a + 1) n)) → IsStrictlySortedBy nat_cmp (ids (cons_option o (listed places (a + 1) n)))
    by_head None e rest = rest
    by_head (Some m) e rest =
        let is : Contains places m × (m.id ≡ a) = find_is a places m e in
        (all_above m.id (listed places (a + 1) n) (λ node c. let low : Contains places node × (a + 1 ≤ node.id) × (node.id < a + 1 + n) = from_listed places (a + 1) n node c in omega (arith, is.1, low.1)), rest)

pub nodes_of_rise : (nodes : ℕ) (places : List Node) → InRange places nodes → Distinct places → IsById places (nodes_of nodes places)
unfolding listed nodes_of
nodes_of_rise nodes places within distinct = record {
  rising = listed_rises places 1 nodes;
  same = λ node. (
    λ c. let range : (1 ≤ node.id) × (node.id ≤ nodes) = All-contains (λ (n : Node). (1 ≤ n.id) × (n.id ≤ nodes)) places node within c in to_listed places distinct 1 nodes node c range.0 (omega (arith, range.1)),
    λ c. (from_listed places 1 nodes node c).0,
  );
}

pub of_places : (nodes : ℕ) (places : List Node) (node : Node) → Contains (nodes_of nodes places) node → Contains places node
unfolding listed nodes_of
of_places nodes places node h = (from_listed places 1 nodes node h).0

listed_few : (places : List Node) (a n : ℕ) → length (listed places a n) ≤ n
unfolding listed
listed_few places a zero = omega arith
listed_few places a (suc n) = by_head (find (is_at a) places) (listed_few places (a + 1) n)
  where
    by_head : (o : Option Node) → length (listed places (a + 1) n) ≤ n → length (cons_option o (listed places (a + 1) n)) ≤ suc n
    by_head None le = omega arith
    by_head (Some m) le = omega arith

pub nodes_of_few : (nodes : ℕ) (places : List Node) → length (nodes_of nodes places) ≤ nodes
unfolding listed nodes_of
nodes_of_few nodes places = listed_few places 1 nodes

-- sorted places with distinct ids
pub sorted_nodes_of : (nodes : ℕ) (places sorted : List Node) → InRange places nodes → IsPermutation places sorted → IsNonDecreasingBy (λ (n : Node). n.id) sorted → IsLeast (StandsTwice sorted) None → (placed_twice nodes places ≡ None) × (sorted ≡ nodes_of nodes places)
sorted_nodes_of nodes places sorted within same rise none =
    let distinct : Distinct places = least_repeated places sorted None same none in
    (placed_once nodes places distinct, IsById-unique places sorted (nodes_of nodes places) (by_id_from_sorted places sorted same rise none) (nodes_of_rise nodes places within distinct))

pub sorted_twice : (nodes : ℕ) (places sorted : List Node) (id : ℕ) → InRange places nodes → IsPermutation places sorted → IsLeast (StandsTwice sorted) (Some id) → placed_twice nodes places ≡ Some id
sorted_twice nodes places sorted id within same least = twice_placed nodes places id within (least_repeated places sorted (Some id) same least)

-- ---- this many places with distinct ids have every id

ids_distinct : (places : List Node) → Distinct places → IsDistinct nat_eq (ids places)
ids_distinct places distinct = IsDistinct-from_apart nat_eq (ids places) (λ i j d less within. not_same (get_or (ids places) i d) (get_or (ids places) j d) (λ e. clash i j d less within e))
  where
    not_same : (a b : ℕ) → (a ≡ b → ⊥) → nat_eq a b ≡ false
    not_same a b apart = grind (arith, apart)

    clash : (i j d : ℕ) → i < j → j < length (ids places) → get_or (ids places) i d ≡ get_or (ids places) j d → ⊥
    clash i j d less within e =
        let a : (m : Node) × (slice_get places i ≡ Some m) × (m.id ≡ get_or (ids places) i d) = map_place (λ (n : Node). n.id) places i (get_or (ids places) i d) (slice_get-get_or (ids places) i d (omega arith)) in
        let b : (m : Node) × (slice_get places j ≡ Some m) × (m.id ≡ get_or (ids places) j d) = map_place (λ (n : Node). n.id) places j (get_or (ids places) j d) (slice_get-get_or (ids places) j d within) in
        distinct b.0.id (two_count b.0.id places i j a.0 b.0 less a.1 b.1 (a.2 ∙ (e ∙ sym b.2)) refl)

none_by_recursion : (test : ℕ → Bool) (xs : List ℕ) → list_any test xs ≡ false → AllByRecursion (λ y. test y ≡ false) xs
none_by_recursion test [] h = tt
none_by_recursion test (x ∷ xs) h = by_head (test x) refl h (none_by_recursion test xs)
  where
    by_head : (b : Bool) → test x ≡ b → list_any test (x ∷ xs) ≡ false → (list_any test xs ≡ false → AllByRecursion (λ y. test y ≡ false) xs) → AllByRecursion (λ y. test y ≡ false) (x ∷ xs)
    by_head true e any later = cc
    by_head false e any later = (e, later (let rest : list_any test xs ≡ false = cc in rest))

same_number : (x y : ℕ) → nat_eq x y ≡ true → x ≡ y
same_number x y h = grind (arith, h)

pub each_placed : (nodes : ℕ) (places : List Node) → InRange places nodes → Distinct places → length places ≡ nodes → (id : ℕ) → 1 ≤ id → id ≤ nodes → Contains (ids places) id
each_placed nodes places within distinct long id low high = by_test (list_any (nat_eq id) (ids places)) refl
  where
    all_within : (q : ℕ) → list_any (nat_eq q) (id ∷ ids places) ≡ true → list_any (nat_eq q) (range_with_len 1 nodes) ≡ true
    all_within q any = list_any-from_Contains nat_eq_equiv q (range_with_len 1 nodes) (elim (Contains-cases id q (ids places) (Contains-from_any same_number q (id ∷ ids places) any)) [
      | inl e ↦ in_range 1 nodes q (omega arith) (omega arith)
      | inr c ↦
          let n : (n : Node) × Contains places n × (n.id ≡ q) = Contains-from_map (λ (n : Node). n.id) places q c in
          let range : (1 ≤ n.0.id) × (n.0.id ≤ nodes) = All-contains (λ (n : Node). (1 ≤ n.id) × (n.id ≤ nodes)) places n.0 within n.1 in
          in_range 1 nodes q (omega (arith, range.0, n.2)) (omega (arith, range.1, n.2))
    ])

    by_test : (b : Bool) → list_any (nat_eq id) (ids places) ≡ b → Contains (ids places) id
    by_test true e = Contains-from_any same_number id (ids places) e
    by_test false e = absurd (
        let more : length (id ∷ ids places) ≤ length (range_with_len 1 nodes) =
        length-le_from_is_member nat_eq_equiv (id ∷ ids places) (range_with_len 1 nodes) (IsDistinct-cons nat_eq id (ids places) (none_by_recursion (nat_eq id) (ids places) e) (ids_distinct places distinct)) all_within in
        omega (arith, more, length-map places (λ (n : Node). n.id), length-range_with_len 1 nodes)
        )
