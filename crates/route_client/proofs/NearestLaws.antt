-- The nearest of listed ids, picked from the nodes within a radius of a map.
use Rattle.std.proofs.Common.{◌≡◌, ℕ, ◌<◌, ◌≤◌, Bool, true, false, Option, None, Some, List, [], ◌∷◌, ◌⊎◌, inl, inr, refl, arith, ap, sym, ◌∙◌, subst, length, get_or, take, nat_eq}
use Rattle.std.specs.List.{Contains, All, list_any}
use Rattle.std.specs.List.Sorted.{IsStrictlySortedBy}
use Rattle.std.specs.declared.cmp.Ordering.TheVariants.{Less, Equal}
use Rattle.std.proofs.lemmas.Cmp.{nat_eq_equiv, tied_itself}
use Rattle.std.proofs.lemmas.List.{get_or-take, get_or_default, length-take, length-take-le}
use Rattle.std.proofs.lemmas.List.Elements.{All-contains, All-from_recursion}
use Rattle.std.proofs.lemmas.Map.Keys.{sorted_head, sorted_tail, Less-from_sorted}
use Rattle.std.proofs.lemmas.Map.Views.{Contains-from_any, list_any-from_Contains}
use Rattle.road_map.specs.declared.parts.Parts.{Parts}
use Rattle.road_map.specs.Walks.{IsDistance, distance, ids}
use Rattle.road_map.specs.Laws.{DistanceLaws}
use Rattle.road_map.proofs.Among.{Contains-none, Contains-here, Contains-there, Contains-cases, Contains-map}
use Rattle.proof_octets.specs.declared.marks.Mark.{Mark}
use Rattle.proof_octets.specs.declared.query.NearQuery.{NearQuery}
use Rattle.proof_octets.specs.Radius.{marked_ids, IsNear, AreWithin}
use Rattle.route_client.specs.declared.picking.Picked.{Picked}
use Rattle.route_client.specs.Nearest.{nearer_cmp, PicksNearest}
use Rattle.route_client.proofs.RankLaws.{nearer_total, same_number, side}
use Rattle.route_client.specs.NearestTruth.{IsBeyond, IsBehind, AreNearest, NoNode, Unjoined, Farther, OneIsPicked}

-- ---- of a map

-- a pick for a fact is also a pick for an equivalent fact
picked_same : {P Q : Mark → Type 0} (listed : List ℕ) (most : ℕ) (x : Picked) → ((m : Mark) → (P m → Q m) × (Q m → P m)) → PicksNearest P listed most x → PicksNearest Q listed most x
picked_same listed most x same p = record {
  all = p.all;
  ranked = record {
    rising = p.ranked.rising;
    same = λ m. (
      λ c. ((same m).0 ((p.ranked.same m).0 c).0, ((p.ranked.same m).0 c).1),
      λ h. (p.ranked.same m).1 ((same m).1 h.0, h.1),
    );
  };
  nodes = p.nodes;
  count = p.count;
}

-- an id at which no walk ends
unjoined : (parts : Parts) (q : NearQuery) (id : ℕ) (b : Bool) → list_any (nat_eq id) (ids parts.nodes) ≡ b → IsDistance parts q.from id None → IsBeyond parts q id
unjoined parts q id true e none = Unjoined (Contains-from_any same_number id (ids parts.nodes) e) none
unjoined parts q id false e none =
    NoNode (λ known. let bad : false ≡ true = sym e ∙ list_any-from_Contains nat_eq_equiv id (ids parts.nodes) known in cc)

-- an item before an index of a list is among the first items
among_first : (all : List Mark) (most k : ℕ) (m : Mark) → k < most → k < length all → get_or all k m ≡ m → Contains (take most all) m
among_first all most k m low lt is = (k, longer most all low lt, get_or-take most all k m low ∙ is)
  where
    longer : (most : ℕ) (all : List Mark) → k < most → k < length all → k < length (take most all)
    longer most all low lt = omega (arith, length-take {A = Mark} most all, low, lt)

-- and an item after them comes after each of them
all_before : (all : List Mark) (most k : ℕ) (m : Mark) → IsStrictlySortedBy nearer_cmp all → most ≤ k → k < length all → get_or all k m ≡ m → All (λ n. nearer_cmp n m ≡ Less) (take most all)
all_before all most k m rising high lt is j d within =
    let size : length (take most all) ≡ most = length-take-le most all (omega (arith, high, lt)) in
    let before : j < most = omega (arith, within, size) in
    let here : get_or (take most all) j d ≡ get_or all j m = get_or-take most all j d before ∙ get_or_default all j d m (omega (arith, before, high, lt)) in
    subst (λ (n : Mark). nearer_cmp n m ≡ Less) (sym here) (subst (λ (n : Mark). nearer_cmp (get_or all j m) n ≡ Less) is (Less-from_sorted nearer_cmp all j k m rising (omega (arith, before, high)) lt))

module _ (parts : Parts) (q : NearQuery) (listed : List ℕ) (most : ℕ) (x : Picked) (laws : DistanceLaws parts) (p : PicksNearest (IsNear parts q) listed most x) where
  by_place : (m : Mark) → IsNear parts q m → ¬ Contains (marked_ids x.nodes) m.id → Contains p.all m → IsBeyond parts q m.id ⊎ IsBehind parts q most x m.id
  by_place m near not there = elim (side there.0 most) [
    | inl low ↦ absurd (not (Contains-map (λ (n : Mark). n.id) x.nodes m (subst (λ (ms : List Mark). Contains ms m) (sym p.nodes) (among_first p.all most there.0 m low there.1 there.2))))
    | inr high ↦ inr (record {
      mark = m;
      of_id = refl;
      near = near;
      full = ap length p.nodes ∙ length-take-le most p.all (omega (arith, high, there.1));
      nearer = subst (All (λ n. nearer_cmp n m ≡ Less)) (sym p.nodes) (all_before p.all most there.0 m p.ranked.rising high there.1 there.2);
    })
  ]

  by_distance : (id : ℕ) (o : Option ℕ) → distance parts q.from id ≡ o → Contains listed id → ¬ Contains (marked_ids x.nodes) id → IsBeyond parts q id ⊎ IsBehind parts q most x id
  by_distance id None e c not = inl (unjoined parts q id (list_any (nat_eq id) (ids parts.nodes)) refl (subst (IsDistance parts q.from id) e (laws.least q.from id)))
  by_distance id (Some d) e c not = elim (side q.radius d) [
    | inl far ↦ inl (Farther d (subst (IsDistance parts q.from id) e (laws.least q.from id)) far)
    | inr within ↦ (
        let m : Mark = record { id = id; distance = d } in
        let near : IsNear parts q m = record { distance_is = e; within = within } in
        by_place m near not ((p.ranked.same m).1 (near, c)))
  ]

  pub nearest : AreNearest parts q listed most x
  nearest = record {
    picks = p;
    others = λ id c not. by_distance id (distance parts q.from id) refl c not;
  }

pub are_nearest : (parts : Parts) (q : NearQuery) (nodes : List Mark) (listed : List ℕ) (most : ℕ) (x : Picked) → DistanceLaws parts → AreWithin parts q nodes → PicksNearest (λ m. Contains nodes m) listed most x → AreNearest parts q listed most x
are_nearest parts q nodes listed most x laws within p =
    nearest parts q listed most x laws (picked_same {P = λ m. Contains nodes m} {Q = IsNear parts q} listed most x (λ m. ((within.same m).0, (within.same m).1)) p)

-- ---- one pick

behind : (x m : Mark) (xs : List Mark) → IsStrictlySortedBy nearer_cmp (x ∷ xs) → Contains xs m → nearer_cmp x m ≡ Less
behind x m xs sorted c = All-contains (λ (n : Mark). nearer_cmp x n ≡ Less) xs m (All-from_recursion (λ (n : Mark). nearer_cmp x n ≡ Less) xs (sorted_head nearer_cmp x xs sorted)) c

not_itself : (x : Mark) → nearer_cmp x x ≡ Less → ⊥
not_itself x h = let bad : Less ≡ Equal = sym h ∙ tied_itself nearer_total x in cc

one_head : (x y : Mark) (xs ys : List Mark) → IsStrictlySortedBy nearer_cmp (x ∷ xs) → IsStrictlySortedBy nearer_cmp (y ∷ ys) → (y ≡ x) ⊎ Contains ys x → (x ≡ y) ⊎ Contains xs y → x ≡ y
one_head x y xs ys up down (inl e) there = sym e
one_head x y xs ys up down (inr c) (inl e) = e
one_head x y xs ys up down (inr c) (inr d) = absurd (not_itself x (nearer_total.trans x y x (behind x y xs up d) (behind y x ys down c)))

in_rest : (x y m : Mark) (xs ys : List Mark) → IsStrictlySortedBy nearer_cmp (x ∷ xs) → x ≡ y → Contains xs m → Contains (y ∷ ys) m → Contains ys m
in_rest x y m xs ys up same c d = elim (Contains-cases y m ys d) [
  | inr there ↦ there
  | inl e ↦ absurd (not_itself m (subst (λ (n : Mark). nearer_cmp n m ≡ Less) (same ∙ e) (behind x m xs up c)))
]

same_marks : (xs ys : List Mark) → IsStrictlySortedBy nearer_cmp xs → IsStrictlySortedBy nearer_cmp ys → ((m : Mark) → Contains xs m → Contains ys m) → ((m : Mark) → Contains ys m → Contains xs m) → xs ≡ ys
same_marks [] [] up down to back = refl
same_marks [] (y ∷ ys) up down to back = absurd (Contains-none y (back y (Contains-here y ys)))
same_marks (x ∷ xs) [] up down to back = absurd (Contains-none x (to x (Contains-here x xs)))
same_marks (x ∷ xs) (y ∷ ys) up down to back =
    let first : x ≡ y = one_head x y xs ys up down (Contains-cases y x ys (to x (Contains-here x xs))) (Contains-cases x y xs (back y (Contains-here y ys))) in
    let rest : xs ≡ ys =
    same_marks xs ys (sorted_tail nearer_cmp x xs up) (sorted_tail nearer_cmp y ys down)
    (λ m c. in_rest x y m xs ys up first c (to m (Contains-there x m xs c)))
    (λ m c. in_rest y x m ys xs down (sym first) c (back m (Contains-there y m ys c))) in
    ap (λ (z : Mark). z ∷ xs) first ∙ ap (λ (zs : List Mark). y ∷ zs) rest

same_pick : (x y : Picked) → x.nodes ≡ y.nodes → x.count ≡ y.count → x ≡ y
same_pick x y nodes count =
    ap (λ (ms : List Mark). let p : Picked = record { nodes = ms; count = x.count } in p) nodes ∙ ap (λ (n : ℕ). let p : Picked = record { nodes = y.nodes; count = n } in p) count

pub one : OneIsPicked
one nodes listed most x y p r =
    let all : p.all ≡ r.all = same_marks p.all r.all p.ranked.rising r.ranked.rising (λ m c. (r.ranked.same m).1 ((p.ranked.same m).0 c)) (λ m c. (p.ranked.same m).1 ((r.ranked.same m).0 c)) in
    same_pick x y (p.nodes ∙ (ap (take most) all ∙ sym r.nodes)) (p.count ∙ (ap length all ∙ sym r.count))
