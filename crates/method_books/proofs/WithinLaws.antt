-- Nodes that are at most as far as the end of a route.
use Rattle.std.proofs.Common.{◌≡◌, ℕ, ◌≤◌, IsTrue, Option, None, Some, List, [], ◌∷◌, ◌++◌, ◌^◌, ◌<◌, ◌⊎◌, inl, inr, refl, arith, sym, ◌∙◌, subst, nat_eq}
use Rattle.std.specs.List.{Contains, IsDistinct}
use Rattle.std.specs.List.Sorted.{IsStrictlySortedBy}
use Rattle.std.proofs.lemmas.List.Elements.{Contains-append_left, Contains-append_right, Contains-append_cases}
use Rattle.road_map.specs.declared.arc.Arc.{Arc}
use Rattle.road_map.specs.declared.parts.Parts.{Parts}
use Rattle.road_map.specs.declared.parts.Road.{Road}
use Rattle.road_map.specs.Walks.{ids, Knows, Joins, IsDistance, distance}
use Rattle.road_map.specs.Routes.{last_stop, walk_length, stops, AlongArcs, IsShortest}
use Rattle.road_map.specs.Maps.{IsMap}
use Rattle.road_map.specs.Laws.{DistanceLaws}
use Rattle.road_map.proofs.Among.{Contains-none, Contains-here, Contains-cases}
use Rattle.road_map.proofs.WalkLaws.{distance-is}
use Rattle.road_map.proofs.ChartLaws.{roads_known}
use Rattle.book_model.specs.declared.items.Query.{Query}
use Rattle.book_model.specs.Books.{Dij}
use Rattle.proof_method.specs.declared.found.Found.{Found}
use Rattle.proof_method.specs.Gathering.{Lists, Wanted, IsPairAt, IsWantedAt, IsFound, AreUnjoined}
use Rattle.proof_method.specs.Apart.{IsEnd, WantedApart, WantedPairApart, IsFoundApart}
use Rattle.proof_method.proofs.Along.{along_joins, Joins-known}
use Rattle.proof_method.proofs.Completes.{at_most}
use Rattle.road_search.specs.Nearness.{is_within}
use Rattle.road_search.specs.OverMap.{map_ways}
use Rattle.road_search.specs.Passing.{IsLeastPassing}
use Rattle.road_search.proofs.WholeMapLaws.{whole_same}
use Rattle.method_books.specs.PlainBooks.{plain_book}

-- a walk along arcs, up to one of its stops
record Front (roads : List Road) (u v most : ℕ) : Type 0 where
  walk : List Arc
  along : AlongArcs roads u walk
  ends : last_stop u walk ≡ v
  within : walk_length walk ≤ most

front : (roads : List Road) (u v : ℕ) (walk : List Arc) → AlongArcs roads u walk → Contains (stops u walk) v → Front roads u v (walk_length walk)
front roads u v [] along c = elim (Contains-cases u v [] c) [
  | inl same ↦ record { walk = []; along = tt; ends = same; within = omega arith }
  | inr d ↦ absurd (Contains-none v d)
]
front roads u v (a ∷ walk) along c = elim (Contains-cases u v (stops a.to walk) c) [
  | inl same ↦ record { walk = []; along = tt; ends = same; within = omega arith }
  | inr d ↦ (let f : Front roads a.to v (walk_length walk) = front roads a.to v walk along.1 d in record { walk = a ∷ f.walk; along = (along.0, f.along); ends = f.ends; within = omega (arith, f.within) })
]

-- a node on a shortest route is at most as far as its end
on_route : (parts : Parts) → IsMap parts → (s t d : ℕ) (route : List ℕ) → IsShortest parts s t route d → (v : ℕ) → Contains route v → Knows parts v × ((e : ℕ) × (distance parts s v ≡ Some e) × (e ≤ d))
on_route parts m s t d route short v c =
    let f : Front parts.roads s v (walk_length short.arcs) = front parts.roads s v short.arcs short.along (subst (λ r. Contains r v) (sym short.visits) c) in
    let j : Joins parts s v (walk_length f.walk) = subst (λ x. Joins parts s x (walk_length f.walk)) f.ends (along_joins parts s f.walk short.known.0 f.along) in
    let e : (e : ℕ) × (distance parts s v ≡ Some e) × (e ≤ walk_length f.walk) = at_most parts m s v (walk_length f.walk) j in
    (Joins-known parts (roads_known parts m.joined) s v (walk_length f.walk) j, (e.0, e.1, omega (arith, e.2, f.within, short.sums)))

-- a distance belongs to a known node
far_known : (parts : Parts) → IsMap parts → (s v e : ℕ) → distance parts s v ≡ Some e → Knows parts v
far_known parts m s v e is =
    let d : IsDistance parts s v (Some e) = subst (IsDistance parts s v) is (distance-is parts (roads_known parts m.joined) s v) in
    Joins-known parts (roads_known parts m.joined) s v e d.0

within_some : (most : ℕ) (o : Option ℕ) → IsTrue (is_within most o) → (e : ℕ) × (o ≡ Some e) × (e ≤ most)
within_some most None h = cc
within_some most (Some e) h = (e, refl, grind (arith, h))

some_within : (most e : ℕ) (o : Option ℕ) → o ≡ Some e → e ≤ most → IsTrue (is_within most o)
some_within most e None is le = cc
some_within most e (Some f) is le = let same : f ≡ e = cc in grind (arith, same, le)

-- exactly the numbers for which a fact holds
pub lists_same : {P Q : ℕ → Type 0} (xs : List ℕ) → ((n : ℕ) → (P n → Q n) × (Q n → P n)) → Lists P xs → Lists Q xs
lists_same xs same h = record { rising = h.rising; same = λ n. (λ c. (same n).0 ((h.same n).0 c), λ q. (h.same n).1 ((same n).1 q)) }

-- the items that DIJ gathers
pub found_dij : (parts : Parts) → IsMap parts → (q : Query) (d : ℕ) (f : Found) (len : ℕ → Option ℕ) → IsShortest parts q.from q.to f.route d → IsDistinct nat_eq f.route → ((v e : ℕ) → e ≤ d → (len v ≡ Some e → distance parts q.from v ≡ Some e) × (distance parts q.from v ≡ Some e → len v ≡ Some e)) → Lists (λ id. IsTrue (is_within d (len id))) f.nodes → f.pairs ≡ [] → IsFound Dij (plain_book parts []) q d f
unfolding IsStrictlySortedBy
found_dij parts m q d f len short distinct lengths listed none = record {
  shortest = short;
  distinct = distinct;
  nodes = record {
    rising = listed.rising;
    same = λ id. (
      λ c. inr (let e : (e : ℕ) × (len id ≡ Some e) × (e ≤ d) = within_some d (len id) ((listed.same id).0 c) in (e.0, (lengths id e.0 e.2).0 e.1, e.2)),
      λ w. (listed.same id).1 (wanted id w),
    );
  };
  pairs = subst (Lists (IsWantedAt Dij (plain_book parts []) q d)) (sym none) (record { rising = tt; same = λ n. (λ c. absurd (Contains-none n c), λ w. absurd w.wanted) });
}
  where
    wanted : (id : ℕ) → Contains f.route id ⊎ Wanted Dij (plain_book parts []) q f.route d id → IsTrue (is_within d (len id))
    wanted id (inl c) = let r : Knows parts id × ((e : ℕ) × (distance parts q.from id ≡ Some e) × (e ≤ d)) = on_route parts m q.from q.to d f.route short id c in some_within d r.1.0 (len id) ((lengths id r.1.0 r.1.2).1 r.1.1) r.1.2
    wanted id (inr w) = some_within d w.0 (len id) ((lengths id w.0 w.2).1 w.1) w.2

-- ---- if no walk leads to the end

-- the nodes that a search over the whole map finds, and the end
pub component_is : (parts : Parts) → IsMap parts → DistanceLaws parts → (q : Query) → AreUnjoined parts q → (len : ℕ → Option ℕ) → ((v : ℕ) → IsLeastPassing (map_ways parts) q.from 18446744073709551615 v (len v)) → (near ids : List ℕ) → ((id : ℕ) → (Contains near id → IsTrue (is_within 18446744073709551615 (len id))) × (IsTrue (is_within 18446744073709551615 (len id)) → Contains near id)) → ids ≡ near ++ q.to ∷ [] →
    (id : ℕ) → (Contains ids id → IsEnd q id ⊎ WantedApart Dij (plain_book parts []) q id) × (IsEnd q id ⊎ WantedApart Dij (plain_book parts []) q id → Contains ids id)
component_is parts m laws q un len least near ids same is id = (to, from)
  where
    far : (v : ℕ) → len v ≡ distance parts q.from v
    far v = whole_same parts m laws q.from 18446744073709551615 v (len v) un.0 (omega arith) (least v)

    to : Contains ids id → IsEnd q id ⊎ WantedApart Dij (plain_book parts []) q id
    to c = elim (Contains-append_cases near (q.to ∷ []) id (subst (λ xs. Contains xs id) is c)) [
      | inl h ↦
          (let e : (e : ℕ) × (len id ≡ Some e) × (e ≤ 18446744073709551615) = within_some 18446744073709551615 (len id) ((same id).0 h) in
          let d : IsDistance parts q.from id (Some e.0) = subst (IsDistance parts q.from id) (sym (far id) ∙ e.1) (laws.least q.from id) in
          inr (e.0, d.0))
      | inr h ↦ inl (inr (elim (Contains-cases q.to id [] h) [ inl e ↦ sym e | inr d ↦ absurd (Contains-none id d) ]))
    ]

    found : (v d : ℕ) → Joins parts q.from v d → Contains ids v
    found v d j =
        let e : (e : ℕ) × (distance parts q.from v ≡ Some e) × (e ≤ d) = at_most parts m q.from v d j in
        let low : e.0 < 2 ^ 48 = laws.bound q.from v e.0 e.1 in
        subst (λ xs. Contains xs v) (sym is) (Contains-append_left near (q.to ∷ []) v ((same v).1 (some_within 18446744073709551615 e.0 (len v) (far v ∙ e.1) (omega (arith, low)))))

    from : IsEnd q id ⊎ WantedApart Dij (plain_book parts []) q id → Contains ids id
    from (inl (inl e)) = subst (Contains ids) (sym e) (found q.from 0 (record { walk = record { start = q.from; hops = [] }; known = un.0; starts = refl; follows = tt; ends = refl; sums = refl }))
    from (inl (inr e)) = subst (λ xs. Contains xs id) (sym is) (Contains-append_right near (q.to ∷ []) id (subst (Contains (q.to ∷ [])) (sym e) (Contains-here q.to [])))
    from (inr h) = found id h.0 h.1

-- the items that DIJ gathers if no route exists
pub found_apart_dij : (parts : Parts) (q : Query) (f : Found) → AreUnjoined parts q → f.route ≡ [] → Lists (λ id. IsEnd q id ⊎ WantedApart Dij (plain_book parts []) q id) f.nodes → f.pairs ≡ [] → IsFoundApart Dij (plain_book parts []) q f
unfolding IsStrictlySortedBy
found_apart_dij parts q f un no_route nodes none = record {
  unjoined = un;
  no_route = no_route;
  nodes = nodes;
  pairs = subst (Lists (IsPairAt (WantedPairApart Dij (plain_book parts []) q) (plain_book parts []))) (sym none) (record { rising = tt; same = λ n. (λ c. absurd (Contains-none n c), λ w. absurd w.wanted) });
}

-- the items of three lists, in terms of the second and the third list
pub any_of_three : (xs ys zs all : List ℕ) (Q R : ℕ → Type 0) → all ≡ (xs ++ ys) ++ zs → ((n : ℕ) → (Contains ys n → Q n) × (Q n → Contains ys n)) → ((n : ℕ) → (Contains zs n → R n) × (R n → Contains zs n)) → (n : ℕ) → (Contains all n → Contains xs n ⊎ Q n ⊎ R n) × (Contains xs n ⊎ Q n ⊎ R n → Contains all n)
any_of_three xs ys zs all Q R is second third n = (λ c. forth (subst (λ ls. Contains ls n) is c), λ h. subst (λ ls. Contains ls n) (sym is) (back h))
  where
    forth : Contains ((xs ++ ys) ++ zs) n → Contains xs n ⊎ Q n ⊎ R n
    forth c = elim (Contains-append_cases (xs ++ ys) zs n c) [
      | inl d ↦ elim (Contains-append_cases xs ys n d) [ inl e ↦ inl e | inr f ↦ inr (inl ((second n).0 f)) ]
      | inr d ↦ inr (inr ((third n).0 d))
    ]

    back : Contains xs n ⊎ Q n ⊎ R n → Contains ((xs ++ ys) ++ zs) n
    back (inl c) = Contains-append_left (xs ++ ys) zs n (Contains-append_left xs ys n c)
    back (inr (inl q)) = Contains-append_left (xs ++ ys) zs n (Contains-append_right xs ys n ((second n).1 q))
    back (inr (inr r)) = Contains-append_right (xs ++ ys) zs n ((third n).1 r)
