-- The test of parts is true exactly if they are a map.
use Rattle.std.proofs.Common.{◌≡◌, ◌≢◌, ◌⊎◌, ℕ, ◌^◌, ◌≤◌, ◌<◌, ◌==◌, nat_eq, nat_lt, nat_le, not, ◌&&◌, Bool, true, Some, List, [], ◌∷◌, inl, inr, refl, arith, ap, sym, ◌∙◌, subst, length, slice_get, count_by}
use Rattle.std.specs.List.{Contains, list_all, list_any}
use Rattle.std.specs.Cmp.{nat_eq_equiv}
use Rattle.std.proofs.lemmas.Option.{slice_get_within}
use Rattle.std.proofs.lemmas.Bool.{and_from, and_parts}
use Rattle.std.proofs.lemmas.Bool.Decides.{nat_tests}
use Rattle.std.proofs.lemmas.Map.Views.{list_any-from_Contains, Contains-from_any}
use Rattle.road_map.specs.declared.parts.Node.{Node}
use Rattle.road_map.specs.declared.parts.Road.{Road}
use Rattle.road_map.specs.declared.parts.Parts.{Parts}
use Rattle.road_map.specs.Walks.{ids}
use Rattle.road_map.specs.ArcsOut.{arcs_out}
use Rattle.road_map.specs.Maps.{IsMap, IsSized, IsDistinct, IsCrowded, JoinsTwo, JoinTwoBelow}
use Rattle.road_map.proofs.Among.{Contains-here, Contains-there, Contains-cases, Contains-from_map, contains_at, place_at}
use Rattle.road_map.proofs.Twice.{Once, once_from_count}
use Rattle.road_map.proofs.ChartLaws.{crowded_known}
use Rattle.road_map.specs.MapTests.{is_sized, stands_once, joins_two, is_uncrowded, is_map}

same_number : (x y : ℕ) → nat_eq x y ≡ true → x ≡ y
same_number x y h = grind (arith, nat_tests, h)

-- a test of all items holds exactly if it holds for each item
all_true : {X : Type 0} (p : X → Bool) (xs : List X) → ((x : X) → Contains xs x → p x ≡ true) → list_all p xs ≡ true
all_true p [] each = refl
all_true p (x ∷ xs) each = and_from (p x) (list_all p xs) (each x (Contains-here x xs)) (all_true p xs (λ y h. each y (Contains-there x y xs h)))

each_true : {X : Type 0} (p : X → Bool) (xs : List X) (x : X) → list_all p xs ≡ true → Contains xs x → p x ≡ true
each_true p [] x all h = absurd (omega (arith, h.1))
each_true p (y ∷ xs) x all h =
    let parts = and_parts (p y) (list_all p xs) all in
    elim (Contains-cases y x xs h) [ inl here ↦ ap p (sym here) ∙ parts.0 | inr there ↦ each_true p xs x parts.1 there ]

sized_true : (parts : Parts) → IsSized parts → is_sized parts ≡ true
sized_true parts h = let a = h.0 in let b = h.1 in let c = h.2 in grind (arith, nat_tests, a, b, c)

sized_from : (parts : Parts) → is_sized parts ≡ true → IsSized parts
sized_from parts h =
    let first = and_parts (nat_lt 0 (length parts.nodes) && nat_le (length parts.nodes) 65536) (nat_le (length parts.roads) 262144) h in
    let second = and_parts (nat_lt 0 (length parts.nodes)) (nat_le (length parts.nodes) 65536) first.0 in
    (below second.0, within second.1, within first.1)
  where
    below : {m n : ℕ} → nat_lt m n ≡ true → m < n
    below e = grind (arith, nat_tests, e)

    within : {m n : ℕ} → nat_le m n ≡ true → m ≤ n
    within e = grind (arith, nat_tests, e)

-- no second node has the same id
not_two : (k : ℕ) → (2 ≤ k → ⊥) → not (nat_le 2 k) ≡ true
not_two k h = elim (cases k) [ inl two ↦ absurd (h two) | inr one ↦ grind (arith, nat_tests, one) ]
  where
    cases : (k : ℕ) → (2 ≤ k) ⊎ (k < 2)
    cases k = grind arith

two_not : (k : ℕ) → not (nat_le 2 k) ≡ true → 2 ≤ k → ⊥
two_not k e two = grind (arith, nat_tests, e, two)

distinct_true : (parts : Parts) → IsDistinct parts → list_all (stands_once parts.nodes) parts.nodes ≡ true
distinct_true parts h = all_true (stands_once parts.nodes) parts.nodes (λ n here. not_two (count_by (λ m. m.id == n.id) parts.nodes) (h n.id))

distinct_from : (parts : Parts) → list_all (stands_once parts.nodes) parts.nodes ≡ true → IsDistinct parts
distinct_from parts all = λ id twice.
    let o : Once id parts.nodes = once_from_count id parts.nodes (omega (arith, twice)) in
    let test : stands_once parts.nodes o.m ≡ true = each_true (stands_once parts.nodes) parts.nodes o.m all (contains_at parts.nodes o.i o.m o.at) in
    two_not (count_by (λ m. m.id == o.m.id) parts.nodes) test (subst (λ i. 2 ≤ count_by (λ m. m.id == i) parts.nodes) (sym o.same) twice)

two_true : (xs : List ℕ) (r : Road) → Contains xs r.a → Contains xs r.b → r.a ≢ r.b → r.length < 2 ^ 32 → joins_two xs r ≡ true
two_true xs r a b apart fits =
    let ends = and_from (list_any (nat_eq r.a) xs) (list_any (nat_eq r.b) xs) (list_any-from_Contains nat_eq_equiv r.a xs a) (list_any-from_Contains nat_eq_equiv r.b xs b) in
    and_from _ (nat_lt r.length (2 ^ 32)) (and_from _ (not (r.a == r.b)) ends (differ r.a r.b apart)) (below r.length (2 ^ 32) fits)
  where
    differ : (m n : ℕ) → m ≢ n → not (m == n) ≡ true
    differ m n h = grind (arith, nat_tests, h)

    below : (m n : ℕ) → m < n → nat_lt m n ≡ true
    below m n h = grind (arith, nat_tests, h)

two_from : (parts : Parts) (r : Road) → joins_two (ids parts.nodes) r ≡ true → JoinsTwo parts r
two_from parts r h =
    let xs = ids parts.nodes in
    let fits = and_parts (list_any (nat_eq r.a) xs && list_any (nat_eq r.b) xs && not (r.a == r.b)) (nat_lt r.length (2 ^ 32)) h in
    let apart = and_parts (list_any (nat_eq r.a) xs && list_any (nat_eq r.b) xs) (not (r.a == r.b)) fits.0 in
    let ends = and_parts (list_any (nat_eq r.a) xs) (list_any (nat_eq r.b) xs) apart.0 in
    (Contains-from_any same_number r.a xs ends.0, Contains-from_any same_number r.b xs ends.1, differ r.a r.b apart.1, below r.length (2 ^ 32) fits.1)
  where
    differ : (m n : ℕ) → not (m == n) ≡ true → m ≢ n
    differ m n e same = grind (arith, nat_tests, e, same)

    below : (m n : ℕ) → nat_lt m n ≡ true → m < n
    below m n e = grind (arith, nat_tests, e)

joined_true : (parts : Parts) → JoinTwoBelow parts (length parts.roads) → list_all (joins_two (ids parts.nodes)) parts.roads ≡ true
joined_true parts h = all_true (joins_two (ids parts.nodes)) parts.roads (λ r here.
    let p : (p : ℕ) × (slice_get parts.roads p ≡ Some r) = place_at parts.roads r here in
    let two = h p.0 r (within p.0 r p.1) p.1 in
    two_true (ids parts.nodes) r two.0 two.1 two.2 two.3)
  where
    within : (p : ℕ) (r : Road) → slice_get parts.roads p ≡ Some r → p < length parts.roads
    within p r at = slice_get_within parts.roads p r at

joined_from : (parts : Parts) → list_all (joins_two (ids parts.nodes)) parts.roads ≡ true → JoinTwoBelow parts (length parts.roads)
joined_from parts all = λ k r lt at. two_from parts r (each_true (joins_two (ids parts.nodes)) parts.roads r all (contains_at parts.roads k r at))

few_true : (parts : Parts) → ((id : ℕ) → ¬ IsCrowded parts id) → list_all (is_uncrowded parts.roads) parts.nodes ≡ true
few_true parts h = all_true (is_uncrowded parts.roads) parts.nodes (λ n here. few (length (arcs_out parts.roads n.id)) (h n.id))
  where
    few : (k : ℕ) → ¬ (255 < k) → not (nat_lt 255 k) ≡ true
    few k h = elim (cases k) [ inl many ↦ absurd (h many) | inr e ↦ grind (arith, nat_tests, e) ]
      where
        cases : (k : ℕ) → (255 < k) ⊎ (k ≤ 255)
        cases k = grind arith

few_from : (parts : Parts) → JoinTwoBelow parts (length parts.roads) → list_all (is_uncrowded parts.roads) parts.nodes ≡ true → (id : ℕ) → ¬ IsCrowded parts id
few_from parts joined all = λ id many.
    let n : (n : Node) × Contains parts.nodes n × (n.id ≡ id) = Contains-from_map (λ (m : Node). m.id) parts.nodes id (crowded_known parts joined id many) in
    let test : is_uncrowded parts.roads n.0 ≡ true = each_true (is_uncrowded parts.roads) parts.nodes n.0 all n.1 in
    never (length (arcs_out parts.roads n.0.id)) test (subst (λ i. 255 < length (arcs_out parts.roads i)) (sym n.2) many)
  where
    never : (k : ℕ) → not (nat_lt 255 k) ≡ true → 255 < k → ⊥
    never k e many = grind (arith, nat_tests, e, many)

pub map_true : (parts : Parts) → IsMap parts → is_map parts ≡ true
unfolding is_map
map_true parts h =
    and_from _ (list_all (is_uncrowded parts.roads) parts.nodes)
    (and_from _ (list_all (joins_two (ids parts.nodes)) parts.roads)
    (and_from (is_sized parts) (list_all (stands_once parts.nodes) parts.nodes) (sized_true parts h.sized) (distinct_true parts h.distinct))
    (joined_true parts h.joined))
    (few_true parts h.uncrowded)

pub map_from : (parts : Parts) → is_map parts ≡ true → IsMap parts
unfolding is_map
map_from parts h =
    let few = and_parts (is_sized parts && list_all (stands_once parts.nodes) parts.nodes && list_all (joins_two (ids parts.nodes)) parts.roads) (list_all (is_uncrowded parts.roads) parts.nodes) h in
    let joined = and_parts (is_sized parts && list_all (stands_once parts.nodes) parts.nodes) (list_all (joins_two (ids parts.nodes)) parts.roads) few.0 in
    let sized = and_parts (is_sized parts) (list_all (stands_once parts.nodes) parts.nodes) joined.0 in
    record {
      sized = sized_from parts sized.0;
      distinct = distinct_from parts sized.1;
      joined = joined_from parts joined.1;
      uncrowded = few_from parts (joined_from parts joined.1) few.1;
    }
