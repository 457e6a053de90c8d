-- A least walk repeats no id, so with few entries it is short.
use Rattle.std.proofs.Common.{◌≡◌, ℕ, ◌+◌, ◌*◌, ◌≤◌, inl, inr, Bool, true, false, Option, None, Some, IfSome, IsSome, List, [], ◌∷◌, length, map, nat_eq, refl, arith, sym, ◌∙◌, subst}
use Rattle.std.specs.List.{Contains, IsDistinct, AllByRecursion}
use Rattle.std.specs.Option.{option_map}
use Rattle.std.specs.Cmp.{nat_eq_equiv}
use Rattle.std.proofs.lemmas.Bool.Decides.{nat_tests}
use Rattle.std.proofs.lemmas.List.{length-map}
use Rattle.std.proofs.lemmas.Map.Made.{length-le_from_is_member}
use Rattle.std.proofs.lemmas.Map.Views.{Contains-from_any, list_any-from_Contains}
use Rattle.std.proofs.lemmas.Nat.{mul-le}
use Rattle.road_map.specs.declared.arc.Arc.{Arc}
use Rattle.road_map.specs.Routes.{walk_length, stops}
use Rattle.road_map.proofs.Among.{Contains-none, Contains-cases, Contains-map}
use Rattle.road_search.specs.Labelling.{Found, IsWay, length_at, route_at}
use Rattle.road_search.specs.Passing.{Ways, Leaves, Passes}
use Rattle.road_leaf.specs.declared.leaf.NodeLeaf.{NodeLeaf}
use Rattle.proof_judge.specs.ItemWalks.{item_at, leaf_ways}
use Rattle.proof_judge.specs.SharedTests.{HasAtMost, IsNarrow}
use Rattle.proof_judge.proofs.ItemLaws.{item_found}
use Rattle.proof_judge.proofs.AllWalks.{has_way}

-- the ids from which a walk's hops leave
left : ℕ → List Arc → List ℕ
left u [] = []
left u (a ∷ walk) = u ∷ left a.to walk

left_long : (u : ℕ) (walk : List Arc) → length (left u walk) ≡ length walk
unfolding left
left_long u [] = refl
left_long u (a ∷ walk) = omega (arith, left_long a.to walk)

all_left : (P : ℕ → Type 0) (u : ℕ) (walk : List Arc) → AllByRecursion P (stops u walk) → AllByRecursion P (left u walk)
unfolding left
all_left P u [] h = tt
all_left P u (a ∷ walk) h = (h.0, all_left P a.to walk h.1)

distinct_left : (u : ℕ) (walk : List Arc) → IsDistinct nat_eq (stops u walk) → IsDistinct nat_eq (left u walk)
unfolding left IsDistinct
distinct_left u [] h = tt
distinct_left u (a ∷ walk) h = (all_left (λ y. nat_eq u y ≡ false) a.to walk h.0, distinct_left a.to walk h.1)

left_enters : (w : Ways) (u p : ℕ) (walk : List Arc) → Passes w u p walk → (x : ℕ) → Contains (left u walk) x → IsSome (w.arcs x)
unfolding left
left_enters w u p [] h x c = absurd (Contains-none x c)
left_enters w u p (a ∷ walk) h x c = elim (Contains-cases u x (left a.to walk) c) [
  | inl e ↦ (let l : Leaves w u a = h.0 in subst (λ v. IsSome (w.arcs v)) e (rw l.entry refl))
  | inr d ↦ left_enters w a.to (p + a.length) walk h.2 x d
]

walk_short : (w : Ways) → IsNarrow w → (u p : ℕ) (walk : List Arc) → Passes w u p walk → walk_length walk ≤ length walk * 4294967295
walk_short w narrow u p [] h = omega arith
walk_short w narrow u p (a ∷ walk) h = let l : Leaves w u a = h.0 in omega (arith, narrow.short u l.out a l.entry l.among, walk_short w narrow a.to (p + a.length) walk h.2)

-- a walk that repeats no id is short
way_low : (w : Ways) → IsNarrow w → (most : ℕ) → HasAtMost most w → (from limit v d : ℕ) (o : Option ℕ) (route : List ℕ) → o ≡ Some d → IsWay w from limit v o route → d ≤ most * 4294967295
way_low w narrow most few from limit v d o route is way =
    let walk = way.passes.walk in
    let same : way.d ≡ d = (let both : Some way.d ≡ Some d = sym way.long ∙ is in cc) in
    let left_few : length (left from walk) ≤ most = few (left from walk) (distinct_left from walk (subst (IsDistinct nat_eq) (sym way.passes.visits) way.distinct)) (left_enters w from 0 walk way.passes.passes) in
    let many : length walk ≤ most = omega (arith, left_few, left_long from walk) in
    let bound : walk_length walk ≤ length walk * 4294967295 = walk_short w narrow from 0 walk way.passes.passes in
    omega (arith, same, way.passes.sums, bound, mul-le (length walk) 4294967295 most 4294967295 many (omega arith))

-- so is each length that a search finds
pub found_low : (w : Ways) → IsNarrow w → (from limit : ℕ) (found : Found) → ((v : ℕ) → IfSome (route_at found v) (IsWay w from limit v (length_at found v))) → (most : ℕ) → HasAtMost most w → (v d : ℕ) → length_at found v ≡ Some d → d ≤ most * 4294967295
found_low w narrow from limit found ways most few v d is =
    let r : (r : List ℕ) × (route_at found v ≡ Some r) = has_way found v d is in
    way_low w narrow most few from limit v d (length_at found v) r.0 is (subst (λ (o : Option (List ℕ)). IfSome o (IsWay w from limit v (length_at found v))) r.1 (ways v))

same_number : (x y : ℕ) → nat_eq x y ≡ true → x ≡ y
same_number x y h = grind (arith, nat_tests)

-- ids from a list have at most as many entries as the list
pub at_most_from : (w : Ways) (ids : List ℕ) (most : ℕ) → length ids ≤ most → ((id : ℕ) → IsSome (w.arcs id) → Contains ids id) → HasAtMost most w
at_most_from w ids most few among = λ xs distinct enter. (let fewer : length xs ≤ length ids = length-le_from_is_member nat_eq_equiv xs ids distinct (λ q e. list_any-from_Contains nat_eq_equiv q ids (among q (enter q (Contains-from_any same_number q xs e)))) in omega (arith, fewer, few))

-- there are as many entries as items
pub items_at_most : (nodes : List NodeLeaf) (most : ℕ) → length nodes ≤ most → (lets : ℕ → ℕ → Bool) → HasAtMost most (leaf_ways lets (item_at nodes))
items_at_most nodes most few lets = at_most_from (leaf_ways lets (item_at nodes)) (map (λ (n : NodeLeaf). n.id) nodes) most (omega (arith, few, length-map nodes (λ (n : NodeLeaf). n.id))) (λ id some. named id (item_at nodes id) refl some)
  where
    named : (id : ℕ) (o : Option NodeLeaf) → item_at nodes id ≡ o → IsSome (option_map (λ (n : NodeLeaf). n.arcs) o) → Contains (map (λ (n : NodeLeaf). n.id) nodes) id
    named id None is some = cc
    named id (Some n) is some =
        let f : Contains nodes n × (n.id ≡ id) = item_found nodes id n is in
        subst (Contains (map (λ (n : NodeLeaf). n.id) nodes)) f.1 (Contains-map (λ (n : NodeLeaf). n.id) nodes n f.0)
