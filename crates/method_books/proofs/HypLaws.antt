-- The leaves of a map's cells, and the indices of border pairs.
use Rattle.std.proofs.Common.{◌≡◌, ◌≢◌, ℕ, ◌*◌, ◌<◌, ◌≤◌, ◌==◌, min, max, true, Option, None, Some, IfSome, IfNone, IsSome, List, [], ◌∷◌, ◌++◌, ◌⊎◌, inl, inr, length, slice_get, refl, arith, ap, sym, ◌∙◌, subst}
use Rattle.std.specs.List.{Contains}
use Rattle.std.specs.Option.{option_map}
use Rattle.std.specs.Ordering.{nat_cmp}
use Rattle.std.specs.List.Sorted.{IsStrictlySortedBy}
use Rattle.std.proofs.lemmas.List.Elements.{Contains-append_cases, Contains-append_left, Contains-append_right}
use Rattle.std.proofs.Math.Nat.{mul-le-mul_right, mul-le-mul_left}
use Rattle.road_map.specs.declared.parts.Node.{Node}
use Rattle.road_map.specs.declared.parts.Parts.{Parts}
use Rattle.road_map.specs.Maps.{IsMap, IsById}
use Rattle.road_map.proofs.Among.{place_at, Contains-none, Contains-here, Contains-cases}
use Rattle.road_leaf.specs.declared.leaf.Extra.{Extra}
use Rattle.road_leaf.specs.declared.pair.PairLeaf.{PairLeaf}
use Rattle.book_model.specs.Nodes.{node_at}
use Rattle.book_model.specs.Books.{leaf_by, leaf_of}
use Rattle.book_model.specs.Pairs.{pair_leaf, pairs_of}
use Rattle.pair_dist.specs.Rising.{is_before, PairsRise}
use Rattle.pair_dist.proofs.TableLaws.{table_rises, pair_stands, table_few}
use Rattle.proof_method.proofs.LeafLaws.{node_is}
use Rattle.proof_judge.proofs.ItemLaws.{find_some}
use Rattle.method_books.specs.HypBooks.{StandsAt, IsPairAt, HasPairs, Adds, AddsAll}

-- ---- leaves

pub leaf_at_place : (parts : Parts) (order : List Node) → IsMap parts → IsById parts.nodes order → (id p : ℕ) (n : Node) → slice_get order p ≡ Some n → n.id ≡ id → (e : ℕ → Extra) → leaf_of parts e id ≡ Some (leaf_by parts e n)
leaf_at_place parts order m by id p n at same e = ap (option_map (leaf_by parts e)) (node_is parts order m by id p n at same)

pub no_leaf : (parts : Parts) (order : List Node) → IsById parts.nodes order → (id : ℕ) → ((k : ℕ) (n : Node) → slice_get order k ≡ Some n → n.id ≢ id) → (e : ℕ → Extra) → leaf_of parts e id ≡ None
no_leaf parts order by id none e = by_node (node_at parts.nodes id) refl
  where
    by_node : (o : Option Node) → node_at parts.nodes id ≡ o → option_map (leaf_by parts e) o ≡ None
    by_node None is = refl
    by_node (Some n) is = absurd (
        let f : Contains parts.nodes n × ((n.id == id) ≡ true) = find_some (λ (n : Node). n.id == id) parts.nodes n is in
        let p : (p : ℕ) × (slice_get order p ≡ Some n) = place_at order n ((by.same n).0 f.0) in
        none p.0 n p.1 (grind (arith, f.1)))

-- ---- places of pairs

order_of : (m n : ℕ) → (m < n) ⊎ ((n ≡ m) ⊎ (n < m))
order_of m n = grind arith

not_before_itself : (a b : ℕ) → is_before a b a b ≡ true → ⊥
not_before_itself a b h = grind (arith, h)

-- leaves that ascend have two ids at one place at most
pub one_place : (pairs : List PairLeaf) → PairsRise pairs → (a b m n : ℕ) → StandsAt pairs a b m → StandsAt pairs a b n → m ≡ n
one_place pairs rise a b m n h k = elim (order_of m n) [
  | inl lt ↦ absurd (apart m n h k lt)
  | inr (inl e) ↦ sym e
  | inr (inr lt) ↦ absurd (apart n m k h lt)
]
  where
    apart : (i j : ℕ) → StandsAt pairs a b i → StandsAt pairs a b j → i < j → ⊥
    apart i j x y lt =
        let up : is_before x.0.a x.0.b y.0.a y.0.b ≡ true = rise i j x.0 y.0 lt x.1 y.1 in
        let left : is_before a b y.0.a y.0.b ≡ true = subst (λ b'. is_before a b' y.0.a y.0.b ≡ true) x.3 (subst (λ a'. is_before a' x.0.b y.0.a y.0.b ≡ true) x.2 up) in
        not_before_itself a b (subst (λ b'. is_before a b a b' ≡ true) y.3 (subst (λ a'. is_before a b a' y.0.b ≡ true) y.2 left))

pub pair_there : (pairs : List PairLeaf) (borders : List ℕ) → HasPairs pairs borders → (a b x y : ℕ) → Contains borders a → Contains borders b → a ≢ b → x ≡ min a b → y ≡ max a b → (o : Option ℕ) → IfNone o ((place : ℕ) (l : PairLeaf) → slice_get pairs place ≡ Some l → l.a ≡ x → l.b ≢ y) → IsSome o
pair_there pairs borders h a b x y ca cb apart first second (Some place) none = refl
pair_there pairs borders h a b x y ca cb apart first second None none = absurd (let t : (place : ℕ) × StandsAt pairs (min a b) (max a b) place = h.there a b ca cb apart in none t.0 t.1.0 t.1.1 (t.1.2 ∙ sym first) (t.1.3 ∙ sym second))

pub at_found : (P : ℕ → Type 0) (o : Option ℕ) (place : ℕ) → o ≡ Some place → IfSome o P → P place
at_found P None place e h = cc
at_found P (Some p) place e h = subst P (let same : p ≡ place = cc in same) h

min_flips : (a b : ℕ) → min a b ≡ min b a
min_flips a b = omega arith

max_flips : (a b : ℕ) → max a b ≡ max b a
max_flips a b = omega arith

least : (a b : ℕ) → a < b → (min a b ≡ a) × (max a b ≡ b)
least a b lt = (omega (arith, lt), omega (arith, lt))

-- the table over ascending ids has the pairs of all of them
pub table_has : (dist : ℕ → ℕ → Option ℕ) (ids : List ℕ) (pairs : List PairLeaf) → pairs ≡ pairs_of dist ids → IsStrictlySortedBy nat_cmp ids → HasPairs pairs ids
table_has dist ids pairs all sorted = record { there = λ a b ca cb apart. by_order a b ca cb apart (order_of a b) }
  where
    has : (a b : ℕ) → Contains ids a → Contains ids b → a < b → (place : ℕ) × StandsAt pairs a b place
    has a b ca cb lt =
        let c : Contains pairs (pair_leaf dist a b) = subst (λ xs. Contains xs (pair_leaf dist a b)) (sym all) (pair_stands dist ids a b sorted ca cb lt) in
        let p : (p : ℕ) × (slice_get pairs p ≡ Some (pair_leaf dist a b)) = place_at pairs (pair_leaf dist a b) c in
        (p.0, (pair_leaf dist a b, p.1, refl, refl))

    by_order : (a b : ℕ) → Contains ids a → Contains ids b → a ≢ b → (a < b) ⊎ ((b ≡ a) ⊎ (b < a)) → (place : ℕ) × StandsAt pairs (min a b) (max a b) place
    by_order a b ca cb apart (inl lt) = let h : (place : ℕ) × StandsAt pairs a b place = has a b ca cb lt in (h.0, (h.1.0, h.1.1, h.1.2 ∙ sym (least a b lt).0, h.1.3 ∙ sym (least a b lt).1))
    by_order a b ca cb apart (inr (inl e)) = absurd (apart (sym e))
    by_order a b ca cb apart (inr (inr lt)) = let h : (place : ℕ) × StandsAt pairs b a place = has b a cb ca lt in (h.0, (h.1.0, h.1.1, h.1.2 ∙ (sym (least b a lt).0 ∙ min_flips b a), h.1.3 ∙ (sym (least b a lt).1 ∙ max_flips b a)))

pub table_up : (dist : ℕ → ℕ → Option ℕ) (ids : List ℕ) (pairs : List PairLeaf) → pairs ≡ pairs_of dist ids → IsStrictlySortedBy nat_cmp ids → PairsRise pairs
table_up dist ids pairs all sorted = subst PairsRise (sym all) (table_rises dist ids sorted)

square_small : (n : ℕ) → n ≤ 2048 → n * n ≤ 2048 * 2048
square_small n le = let a : n * n ≤ 2048 * n = mul-le-mul_right n le in let b : 2048 * n ≤ 2048 * 2048 = mul-le-mul_left 2048 le in omega (arith, a, b)

pub table_small : (dist : ℕ → ℕ → Option ℕ) (ids : List ℕ) (pairs : List PairLeaf) → pairs ≡ pairs_of dist ids → length ids ≤ 2048 → length pairs ≤ 2097152
table_small dist ids pairs all few =
    let half : length (pairs_of dist ids) * 2 ≤ length ids * length ids = table_few dist ids in
    let same : length pairs ≡ length (pairs_of dist ids) = ap (λ (xs : List PairLeaf). length xs) all in
    let square : length ids * length ids ≤ 2048 * 2048 = square_small (length ids) few in
    omega (arith, half, same, square)

-- ---- numbers that are added

pub adds_one : (P : ℕ → Type 0) (old new : List ℕ) (k : ℕ) → P k → ((n : ℕ) → P n → n ≡ k) → new ≡ old ++ k ∷ [] → Adds P old new
adds_one P old new k here only pushed n = (
  λ c. elim (Contains-append_cases old (k ∷ []) n (subst (λ xs. Contains xs n) pushed c)) [
    | inl d ↦ inl d
    | inr d ↦ elim (Contains-cases k n [] d) [ inl e ↦ inr (subst P e here) | inr none ↦ absurd (Contains-none n none) ]
  ],
  λ h. subst (λ xs. Contains xs n) (sym pushed) (elim h [
    | inl c ↦ Contains-append_left old (k ∷ []) n c
    | inr p ↦ Contains-append_right old (k ∷ []) n (subst (Contains (k ∷ [])) (sym (only n p)) (Contains-here k []))
  ]),
)

pub adds_none : {X : Type 0} (P : X → ℕ → Type 0) (set : List ℕ) → AddsAll P [] set set
adds_none P set n = (λ c. inl c, λ h. elim h [ inl c ↦ c | inr p ↦ absurd (Contains-none p.0 p.1) ])

pub adds_more : {X : Type 0} (P : X → ℕ → Type 0) (xs : List X) (x : X) (a b c : List ℕ) → AddsAll P xs a b → Adds (P x) b c → AddsAll P (xs ++ x ∷ []) a c
adds_more P xs x a b c first second n = (
  λ h. elim ((second n).0 h) [
    | inl k ↦ elim ((first n).0 k) [ inl old ↦ inl old | inr p ↦ inr (p.0, Contains-append_left xs (x ∷ []) p.0 p.1, p.2) ]
    | inr p ↦ inr (x, Contains-append_right xs (x ∷ []) x (Contains-here x []), p)
  ],
  λ h. elim h [
    | inl old ↦ (second n).1 (inl ((first n).1 (inl old)))
    | inr p ↦ elim (Contains-append_cases xs (x ∷ []) p.0 p.1) [
      | inl l ↦ (second n).1 (inl ((first n).1 (inr (p.0, l, p.2))))
      | inr r ↦ elim (Contains-cases x p.0 [] r) [
        | inl e ↦ (second n).1 (inr (subst (λ y. P y n) (sym e) p.2))
        | inr d ↦ absurd (Contains-none p.0 d)
      ]
    ]
  ],
)

pub pair_only : (pairs : List PairLeaf) → PairsRise pairs → (most : ℕ) (near far : ℕ × ℕ) (k n : ℕ) → StandsAt pairs (min near.0 far.0) (max near.0 far.0) k → IsPairAt pairs most near far n → n ≡ k
pair_only pairs rise most near far k n at h = one_place pairs rise (min near.0 far.0) (max near.0 far.0) n k h.stands at
