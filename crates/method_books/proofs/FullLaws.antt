-- The pairs of FULL.
use Rattle.std.proofs.Common.{◌≡◌, ◌≢◌, ℕ, ◌+◌, ◌*◌, ◌^◌, ◌≤◌, ◌<◌, min, max, nat_lt, nat_eq, Bool, true, false, cond, Option, None, Some, IfSome, IfNone, IsSome, List, [], ◌∷◌, ◌⊎◌, inl, inr, refl, arith, ap, sym, ◌∙◌, subst, length, slice_get, get_or}
use Rattle.std.specs.List.{Contains, IsDistinct, list_any}
use Rattle.std.specs.List.Sorted.{IsStrictlySortedBy, IsPermutation}
use Rattle.std.specs.Ordering.{nat_cmp, is_lt}
use Rattle.std.specs.Cmp.{nat_cmp_total}
use Rattle.std.specs.declared.cmp.Ordering.TheVariants.{Less}
use Rattle.std.proofs.Math.Nat.{mul-le-mul_right, mul-le-mul_left}
use Rattle.std.proofs.lemmas.Map.Keys.{sorted_from_all_adjacent, apart_from_distinct, IsDistinct-IsPermutation}
use Rattle.std.proofs.lemmas.List.Sorted.{Contains-permutation, IsPermutation-sym}
use Rattle.std.proofs.lemmas.Map.Views.{Contains-from_any}
use Rattle.std.proofs.lemmas.Option.{slice_get_within}
use Rattle.road_map.specs.declared.parts.Node.{Node}
use Rattle.road_map.specs.declared.parts.Parts.{Parts}
use Rattle.road_map.specs.Laws.{DistanceLaws}
use Rattle.road_map.specs.Walks.{ids, Knows, Joins, IsDistance, distance}
use Rattle.road_map.specs.Maps.{IsMap, IsById}
use Rattle.road_map.specs.Routes.{IsShortest}
use Rattle.road_map.proofs.Among.{Contains-none, Contains-here, Contains-cases, contains_at, place_at, place_map}
use Rattle.road_map.proofs.WalkLaws.{distance-is}
use Rattle.road_search.specs.Headed.{IsLowerBound}
use Rattle.road_leaf.specs.declared.pair.PairLeaf.{PairLeaf}
use Rattle.book_model.specs.declared.items.Query.{Query}
use Rattle.book_model.specs.declared.settings.Settings.{Settings}
use Rattle.book_model.specs.declared.settings.PlanError.TheVariants.{TooManyNodes}
use Rattle.book_model.specs.Orders.{by_id}
use Rattle.book_model.specs.Pairs.{said, pair_leaf, pairs_of}
use Rattle.book_model.specs.Books.{Full, count_fault}
use Rattle.book_model.proofs.ById.{by_id-is, by_id-length, ids_kept}
use Rattle.pair_dist.specs.Rising.{is_before, PairsRise}
use Rattle.pair_dist.proofs.TableLaws.{table_rises, pair_stands, table_few}
use Rattle.proof_method.specs.declared.found.Found.{Found}
use Rattle.proof_method.specs.Gathering.{Lists, Wanted, AreEnds, IsPairAt, IsWantedAt, IsFound, AreUnjoined}
use Rattle.proof_method.specs.Apart.{IsEnd, WantedApart, IsFoundApart}
use Rattle.proof_method.proofs.Along.{Joins-turn}
use Rattle.proof_method.proofs.RouteLaws.{roads_known}
use Rattle.method_books.specs.PlainBooks.{plain_book, said_of, said_from}

-- ---- ids that ascend

less_between : (x y : ℕ) → is_lt (nat_cmp y x) ≡ false → nat_eq x y ≡ false → nat_cmp x y ≡ Less
less_between x y h k = grind (arith, h, k)

flips : (x y : ℕ) → nat_eq x y ≡ nat_eq y x
flips x y = grind arith

-- distinct ids, sorted
pub sorted_lists : (ids sorted : List ℕ) → IsDistinct nat_eq ids → IsPermutation ids sorted → ((k d : ℕ) → 0 ≤ k → k + 1 < length sorted → is_lt (nat_cmp (get_or sorted (k + 1) d) (get_or sorted k d)) ≡ false) → Lists (λ id. Contains ids id) sorted
sorted_lists ids sorted distinct same ordered =
    let once : IsDistinct nat_eq sorted = IsDistinct-IsPermutation nat_eq flips ids sorted same distinct in
    record {
      rising = sorted_from_all_adjacent nat_cmp_total sorted 0 (λ k lt. less_between (get_or sorted k 0) (get_or sorted (k + 1) 0) (ordered k 0 (omega arith) lt) (apart_from_distinct nat_eq sorted k (k + 1) 0 once (omega arith) lt));
      same = λ id. (Contains-permutation sorted ids id (IsPermutation-sym ids sorted same), Contains-permutation ids sorted id same);
    }

-- ---- the table of a map

small : (n : ℕ) → n ≤ 65536 → n * n ≤ 65536 * 65536
small n le = let a : n * n ≤ 65536 * n = mul-le-mul_right n le in let b : 65536 * n ≤ 65536 * 65536 = mul-le-mul_left 65536 le in omega (arith, a, b)

least : (a b : ℕ) → a < b → (min a b ≡ a) × (max a b ≡ b)
least a b lt = (omega (arith, lt), omega (arith, lt))

greatest : (a b : ℕ) → b < a → (min a b ≡ b) × (max a b ≡ a)
greatest a b lt = (omega (arith, lt), omega (arith, lt))

order : (m n : ℕ) → (m < n) ⊎ ((n ≡ m) ⊎ (n < m))
order m n = grind arith

-- the leaf of two ids is at an index
abbrev pub StandsAt : List PairLeaf → ℕ → ℕ → ℕ → Type 0
StandsAt pairs a b place = (l : PairLeaf) × (slice_get pairs place ≡ Some l) × (l.a ≡ a) × (l.b ≡ b)

pub at_found : (P : ℕ → Type 0) (o : Option ℕ) (place : ℕ) → o ≡ Some place → IfSome o P → P place
at_found P None place e h = cc
at_found P (Some p) place e h = subst P (let same : p ≡ place = cc in same) h

not_before_itself : (a b : ℕ) → is_before a b a b ≡ true → ⊥
not_before_itself a b h = grind (arith, h)

-- ascending leaves have two ids at most at one index
one_place : (pairs : List PairLeaf) → PairsRise pairs → (a b m n : ℕ) → StandsAt pairs a b m → StandsAt pairs a b n → m ≡ n
one_place pairs rise a b m n h k = elim (order m n) [
  | inl lt ↦ absurd (apart m n h k lt)
  | inr (inl e) ↦ sym e
  | inr (inr lt) ↦ absurd (apart n m k h lt)
]
  where
    apart : (i j : ℕ) → StandsAt pairs a b i → StandsAt pairs a b j → i < j → ⊥
    apart i j x y lt =
        let up : is_before x.0.a x.0.b y.0.a y.0.b ≡ true = rise i j x.0 y.0 lt x.1 y.1 in
        let left : is_before a b y.0.a y.0.b ≡ true = subst (λ b'. is_before a b' y.0.a y.0.b ≡ true) x.3 (subst (λ a'. is_before a' x.0.b y.0.a y.0.b ≡ true) x.2 up) in
        not_before_itself a b (subst (λ b'. is_before a b a b' ≡ true) y.3 (subst (λ a'. is_before a b a' y.0.b ≡ true) y.2 left))

module _ (parts : Parts) (nodes : List Node) (m : IsMap parts) (by : IsById parts.nodes nodes) (pairs : List PairLeaf) (all : pairs ≡ pairs_of (distance parts) (by_id parts.nodes)) where
  ids_sorted : IsStrictlySortedBy nat_cmp (by_id parts.nodes)
  ids_sorted = subst (IsStrictlySortedBy nat_cmp) (sym (by_id-is parts nodes m by)) by.rising

  ids_known : (id : ℕ) → Knows parts id → Contains (by_id parts.nodes) id
  ids_known id known = subst (λ xs. Contains xs id) (sym (by_id-is parts nodes m by)) (ids_kept parts.nodes nodes (λ n. (by.same n).0) id known)

  pub full_rises : PairsRise pairs
  full_rises = subst PairsRise (sym all) (table_rises (distance parts) (by_id parts.nodes) ids_sorted)

  has : (a b : ℕ) → Knows parts a → Knows parts b → a < b → (place : ℕ) × StandsAt pairs a b place
  has a b known there lt =
      let c : Contains pairs (pair_leaf (distance parts) a b) = subst (λ xs. Contains xs (pair_leaf (distance parts) a b)) (sym all) (pair_stands (distance parts) (by_id parts.nodes) a b ids_sorted (ids_known a known) (ids_known b there) lt) in
      let p : (p : ℕ) × (slice_get pairs p ≡ Some (pair_leaf (distance parts) a b)) = place_at pairs (pair_leaf (distance parts) a b) c in
      (p.0, (pair_leaf (distance parts) a b, p.1, refl, refl))

  has_ends : (s t : ℕ) → Knows parts s → Knows parts t → s ≢ t → (place : ℕ) × StandsAt pairs (min s t) (max s t) place
  has_ends s t known there apart = by_order (order s t)
    where
      by_order : (s < t) ⊎ ((t ≡ s) ⊎ (t < s)) → (place : ℕ) × StandsAt pairs (min s t) (max s t) place
      by_order (inl lt) = let h : (place : ℕ) × StandsAt pairs s t place = has s t known there lt in (h.0, (h.1.0, h.1.1, h.1.2 ∙ sym (least s t lt).0, h.1.3 ∙ sym (least s t lt).1))
      by_order (inr (inl e)) = absurd (apart (sym e))
      by_order (inr (inr lt)) = let h : (place : ℕ) × StandsAt pairs t s place = has t s there known lt in (h.0, (h.1.0, h.1.1, h.1.2 ∙ sym (greatest s t lt).0, h.1.3 ∙ sym (greatest s t lt).1))

  pub place_is_there : (s t a b : ℕ) → Knows parts s → Knows parts t → s ≢ t → a ≡ min s t → b ≡ max s t → (o : Option ℕ) → IfNone o ((place : ℕ) (l : PairLeaf) → slice_get pairs place ≡ Some l → l.a ≡ a → l.b ≢ b) → IsSome o
  place_is_there s t a b known there apart first second (Some place) none = refl
  place_is_there s t a b known there apart first second None none = absurd (let h : (place : ℕ) × StandsAt pairs (min s t) (max s t) place = has_ends s t known there apart in none h.0 h.1.0 h.1.1 (h.1.2 ∙ sym first) (h.1.3 ∙ sym second))

  -- the leaf at the index of two nodes states their distance
  pub leaf_between : (s t place : ℕ) → Knows parts s → Knows parts t → s ≢ t → StandsAt pairs (min s t) (max s t) place → slice_get pairs place ≡ Some (pair_leaf (distance parts) (min s t) (max s t))
  leaf_between s t place known there apart at =
      let here : (p : ℕ) × (slice_get pairs p ≡ Some (pair_leaf (distance parts) (min s t) (max s t))) = by_order (order s t) in
      let same : place ≡ here.0 = one_place pairs full_rises (min s t) (max s t) place here.0 at (pair_leaf (distance parts) (min s t) (max s t), here.1, refl, refl) in
      subst (λ p. slice_get pairs p ≡ Some (pair_leaf (distance parts) (min s t) (max s t))) (sym same) here.1
    where
      stood : (a b : ℕ) → Knows parts a → Knows parts b → a < b → (p : ℕ) × (slice_get pairs p ≡ Some (pair_leaf (distance parts) a b))
      stood a b known there lt = place_at pairs (pair_leaf (distance parts) a b) (subst (λ xs. Contains xs (pair_leaf (distance parts) a b)) (sym all) (pair_stands (distance parts) (by_id parts.nodes) a b ids_sorted (ids_known a known) (ids_known b there) lt))

      by_order : (s < t) ⊎ ((t ≡ s) ⊎ (t < s)) → (p : ℕ) × (slice_get pairs p ≡ Some (pair_leaf (distance parts) (min s t) (max s t)))
      by_order (inl lt) = rw ((least s t lt).0, (least s t lt).1) (stood s t known there lt)
      by_order (inr (inl e)) = absurd (apart (sym e))
      by_order (inr (inr lt)) = rw ((greatest s t lt).0, (greatest s t lt).1) (stood t s there known lt)

  pub place_is_small : (place : ℕ) (l : PairLeaf) → slice_get pairs place ≡ Some l → place < 2 ^ 32
  place_is_small place l is =
      let within : place < length pairs = slice_get_within pairs place l is in
      let same : length pairs ≡ length (pairs_of (distance parts) (by_id parts.nodes)) = ap (λ (xs : List PairLeaf). length xs) all in
      let few : length (pairs_of (distance parts) (by_id parts.nodes)) * 2 ≤ length (by_id parts.nodes) * length (by_id parts.nodes) = table_few (distance parts) (by_id parts.nodes) in
      let count : length (by_id parts.nodes) ≡ length parts.nodes = by_id-length parts.nodes in
      let most : length parts.nodes ≤ 65536 = m.sized.1 in
      let square : length (by_id parts.nodes) * length (by_id parts.nodes) ≤ 65536 * 65536 = small (length (by_id parts.nodes)) (omega (arith, count, most)) in
      omega (arith, within, same, few, square)

-- ---- the pair of the two ends

one_listed : (P : ℕ → Type 0) (place : ℕ) → P place → ((n : ℕ) → P n → n ≡ place) → Lists P (place ∷ [])
unfolding IsStrictlySortedBy
one_listed P place here only = record {
  rising = (tt, tt);
  same = λ n. (λ c. elim (Contains-cases place n [] c) [ inl e ↦ subst P e here | inr d ↦ absurd (Contains-none n d) ], λ p. subst (Contains (place ∷ [])) (sym (only n p)) (Contains-here place []));
}

none_listed : (P : ℕ → Type 0) → ((n : ℕ) → P n → ⊥) → Lists P []
unfolding IsStrictlySortedBy
none_listed P none = record { rising = tt; same = λ n. (λ c. absurd (Contains-none n c), λ p. absurd (none n p)) }

pub ends_listed : (parts : Parts) (pairs : List PairLeaf) → PairsRise pairs → (q : Query) → q.from ≢ q.to → (place : ℕ) → StandsAt pairs (min q.from q.to) (max q.from q.to) place → Lists (IsPairAt (AreEnds q) (plain_book parts pairs)) (place ∷ [])
ends_listed parts pairs rise q apart place at = one_listed (IsPairAt (AreEnds q) (plain_book parts pairs)) place
    (record { pair = at.0; stands = at.1; x = q.from; y = q.to; wanted = (refl, refl, apart); first = at.2; second = at.3 })
    (λ n w. one_place pairs rise (min q.from q.to) (max q.from q.to) n place (stands n w) at)
  where
    stands : (n : ℕ) → IsPairAt (AreEnds q) (plain_book parts pairs) n → StandsAt pairs (min q.from q.to) (max q.from q.to) n
    stands n w = (w.pair, w.stands, w.first ∙ (ap (λ x. min x w.y) w.wanted.0 ∙ ap (λ y. min q.from y) w.wanted.1), w.second ∙ (ap (λ x. max x w.y) w.wanted.0 ∙ ap (λ y. max q.from y) w.wanted.1))

pub none_wanted : (parts : Parts) (pairs : List PairLeaf) (q : Query) → q.from ≡ q.to → Lists (IsPairAt (AreEnds q) (plain_book parts pairs)) []
none_wanted parts pairs q same = none_listed (IsPairAt (AreEnds q) (plain_book parts pairs)) (λ n w. w.wanted.2 (w.wanted.0 ∙ (same ∙ sym w.wanted.1)))

-- the items that FULL gathers
pub found_full : (parts : Parts) (pairs : List PairLeaf) (q : Query) (d : ℕ) (f : Found) → IsShortest parts q.from q.to f.route d → IsDistinct nat_eq f.route → Lists (λ id. Contains f.route id) f.nodes → Lists (IsWantedAt Full (plain_book parts pairs) q d) f.pairs → IsFound Full (plain_book parts pairs) q d f
found_full parts pairs q d f short distinct nodes places = record {
  shortest = short;
  distinct = distinct;
  nodes = record { rising = nodes.rising; same = λ id. (λ c. inl ((nodes.same id).0 c), λ w. (nodes.same id).1 (on_route id w)) };
  pairs = places;
}
  where
    on_route : (id : ℕ) → Contains f.route id ⊎ Wanted Full (plain_book parts pairs) q f.route d id → Contains f.route id
    on_route id (inl c) = c
    on_route id (inr w) = absurd w

-- ---- if no route exists

-- the items that FULL gathers in this case
pub found_apart_full : (parts : Parts) (pairs : List PairLeaf) (q : Query) (f : Found) → AreUnjoined parts q → f.route ≡ [] → Lists (IsEnd q) f.nodes → Lists (IsPairAt (AreEnds q) (plain_book parts pairs)) f.pairs → IsFoundApart Full (plain_book parts pairs) q f
found_apart_full parts pairs q f un no_route nodes places = record {
  unjoined = un;
  no_route = no_route;
  nodes = record { rising = nodes.rising; same = λ id. (λ c. inl ((nodes.same id).0 c), λ w. (nodes.same id).1 (end id w)) };
  pairs = places;
}
  where
    end : (id : ℕ) → IsEnd q id ⊎ WantedApart Full (plain_book parts pairs) q id → IsEnd q id
    end id (inl e) = e
    end id (inr w) = absurd w

-- ---- too many nodes

pub too_many : (parts : Parts) (s : Settings) (n : ℕ) → n ≡ length parts.nodes → 1024 < n → count_fault Full parts s ≡ Some (TooManyNodes n)
too_many parts s n same more = by_test (nat_lt 1024 (length parts.nodes)) refl
  where
    by_test : (b : Bool) → nat_lt 1024 (length parts.nodes) ≡ b → cond b (Some (TooManyNodes (length parts.nodes))) None ≡ Some (TooManyNodes n)
    by_test true e = ap (λ k. Some (TooManyNodes k)) (sym same)
    by_test false e = absurd (grind (arith, e, same, more))

pub not_too_many : (parts : Parts) (s : Settings) (n : ℕ) → n ≡ length parts.nodes → n ≤ 1024 → count_fault Full parts s ≡ None
not_too_many parts s n same few = by_test (nat_lt 1024 (length parts.nodes)) refl
  where
    by_test : (b : Bool) → nat_lt 1024 (length parts.nodes) ≡ b → cond b (Some (TooManyNodes (length parts.nodes))) None ≡ None
    by_test false e = refl
    by_test true e = absurd (grind (arith, e, same, few))

-- ---- distances by the table

-- the table never states more than the distance
module _ (parts : Parts) (m : IsMap parts) (a b d : ℕ) (is : distance parts a b ≡ Some d) where
  there : IsDistance parts a b (Some d)
  there = subst (IsDistance parts a b) is (distance-is parts (roads_known parts m) a b)

  turned : distance parts b a ≡ Some d
  turned = by_distance (distance parts b a) refl (distance-is parts (roads_known parts m) b a)
    where
      by_distance : (o : Option ℕ) → distance parts b a ≡ o → IsDistance parts b a o → distance parts b a ≡ Some d
      by_distance None f none = absurd (none d (Joins-turn parts (roads_known parts m) a b d there.0))
      by_distance (Some e) f far =
          let low : e ≤ d = far.1 d (Joins-turn parts (roads_known parts m) a b d there.0) in
          let high : d ≤ e = there.1 e (Joins-turn parts (roads_known parts m) b a e far.0) in
          let same : e ≡ d = omega (arith, low, high) in
          f ∙ ap Some same

  at_most : (o : Option ℕ) → o ≡ Some d → said o ≤ d
  at_most o e = rw e (omega arith)

  pub said_low : said_of parts a b ≤ d
  said_low = by_same (nat_eq a b) refl
    where
      by_order : nat_eq a b ≡ false → (a < b) ⊎ ((b ≡ a) ⊎ (b < a)) → said (distance parts (min a b) (max a b)) ≤ d
      by_order apart (inl lt) = rw ((least a b lt).0, (least a b lt).1) (at_most (distance parts a b) is)
      by_order apart (inr (inl e)) = absurd (grind (arith, e, apart))
      by_order apart (inr (inr lt)) = rw ((greatest a b lt).0, (greatest a b lt).1) (at_most (distance parts b a) turned)

      by_same : (t : Bool) → nat_eq a b ≡ t → cond t 0 (said (distance parts (min a b) (max a b))) ≤ d
      by_same true e = omega arith
      by_same false e = by_order e (order a b)

-- the distance of two different nodes is the one in their leaf
pub said_apart : (parts : Parts) (a b : ℕ) → a ≢ b → said (distance parts (min a b) (max a b)) ≡ said_of parts a b
said_apart parts a b apart = by_same (nat_eq a b) refl
  where
    by_same : (t : Bool) → nat_eq a b ≡ t → said (distance parts (min a b) (max a b)) ≡ cond t 0 (said (distance parts (min a b) (max a b)))
    by_same true e = absurd (apart (grind (arith, e)))
    by_same false e = refl

-- a position that does not exist has no distance
pub none_from : (parts : Parts) (to : ℕ) (nodes : List Node) (p : ℕ) → length nodes ≤ p → 0 ≡ said_from parts to (slice_get nodes p)
none_from parts to nodes p past = by_node (slice_get nodes p) refl
  where
    by_node : (o : Option Node) → slice_get nodes p ≡ o → 0 ≡ said_from parts to o
    by_node None is = refl
    by_node (Some n) is = absurd (let lt : p < length nodes = slice_get_within nodes p n is in omega (arith, past, lt))

-- the node at a position is known, and so is an id among those of the nodes
pub known_at : (parts : Parts) (nodes : List Node) → IsById parts.nodes nodes → (p : ℕ) (n : Node) → slice_get nodes p ≡ Some n → Knows parts n.id
known_at parts nodes by p n is = ids_kept nodes parts.nodes (λ m. (by.same m).1) n.id (contains_at (ids nodes) p n.id (place_map (λ (n : Node). n.id) nodes p n is))

pub known_told : (parts : Parts) (id : ℕ) → list_any (nat_eq id) (ids parts.nodes) ≡ true → Knows parts id
known_told parts id told = Contains-from_any same_number id (ids parts.nodes) told
  where
    same_number : (x y : ℕ) → nat_eq x y ≡ true → x ≡ y
    same_number x y h = grind (arith, h)

-- so no node is nearer to an id than the table states
pub low_said : (parts : Parts) (nodes : List Node) (to : ℕ) → IsMap parts → IsLowerBound parts nodes to (λ p. said_from parts to (slice_get nodes p))
low_said parts nodes to m id p d at is = subst (λ o. said_from parts to o ≤ d) (sym at.1) (subst (λ z. said_of parts z to ≤ d) (sym at.2) (said_low parts m id to d is))

-- if the table states the greatest number, no walk joins the two
pub none_said : (parts : Parts) → IsMap parts → DistanceLaws parts → (s t : ℕ) → said_of parts s t ≡ 18446744073709551615 → (d : ℕ) → Joins parts s t d → ⊥
none_said parts m laws s t most d j = by_distance (distance parts s t) refl (laws.least s t)
  where
    by_distance : (o : Option ℕ) → distance parts s t ≡ o → IsDistance parts s t o → ⊥
    by_distance None e none = none d j
    by_distance (Some e) is far =
        let low : said_of parts s t ≤ e = said_low parts m s t e is in
        let few : e < 2 ^ 48 = laws.bound s t e is in
        omega (arith, most, low, few)

-- ---- if no distance is below the greatest number

pub none_far : (parts : Parts) → DistanceLaws parts → (s t : ℕ) → ((d : ℕ) → distance parts s t ≡ Some d → 18446744073709551615 ≤ d) → (d : ℕ) → Joins parts s t d → ⊥
none_far parts laws s t far d j = by_distance (distance parts s t) refl (laws.least s t)
  where
    by_distance : (o : Option ℕ) → distance parts s t ≡ o → IsDistance parts s t o → ⊥
    by_distance None e none = none d j
    by_distance (Some e) is least =
        let most : 18446744073709551615 ≤ e = far e is in
        let few : e < 2 ^ 48 = laws.bound s t e is in
        omega (arith, most, few)
