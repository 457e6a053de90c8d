-- Walks from position to position of a map.
use Rattle.std.proofs.Common.{◌≡◌, nat_eq, map, false, ℕ, pos, ◌+◌, ◌<◌, Option, None, Some, List, [], ◌∷◌, ◌⊎◌, inl, inr, length, slice_get, get_or, refl, arith, ap, sym, ◌∙◌, subst, lit≤}
use Rattle.std.specs.List.{Contains, IsDistinct}
use Rattle.std.specs.Option.{option_map, unwrap_or}
use Rattle.std.proofs.lemmas.List.{length-map}
use Rattle.std.proofs.lemmas.Map.Keys.{IsDistinct-from_apart, apart_from_distinct}
use Rattle.std.proofs.lemmas.Option.{slice_get-get_or, slice_get_within, get_or_from_slice_get}
use Rattle.std.proofs.lemmas.Map.Keys.{below_from_sorted}
use Rattle.road_map.specs.declared.arc.Arc.{Arc}
use Rattle.road_map.specs.declared.parts.Node.{Node}
use Rattle.road_map.specs.declared.parts.Parts.{Parts}
use Rattle.road_map.specs.ArcsOut.{arcs_out}
use Rattle.road_map.specs.Walks.{ids, Knows, distance}
use Rattle.road_map.specs.Laws.{DistanceLaws}
use Rattle.road_map.specs.Maps.{IsMap, IsById}
use Rattle.road_map.specs.Routes.{last_stop, walk_length, stops}
use Rattle.road_map.proofs.Among.{Contains-none, Contains-here, Contains-there, Contains-cases, contains_at, place_map}
use Rattle.road_search.specs.Passing.{Leaves, Passes, Reaches, IsLeastPassing}
use Rattle.road_search.specs.OverMap.{map_ways}
use Rattle.road_map.specs.Nets.{IsPlace, Placed, IsNet}
use Rattle.road_search.specs.Nets.{net_ways, id_at}
use Rattle.road_search.specs.Labelling.{IsWay}
use Rattle.road_search.proofs.OverMapLaws.{leaves_out, out_leaves}
use Rattle.road_search.proofs.WholeMapLaws.{known_at, whole_same}

-- ---- walks

-- an arc of a row, and the arc of the map that it stands for
pub record Pair (order : List Node) (arcs row : List Arc) (a b : Arc) : Type 0 where
  pub among : Contains arcs a
  pub stands : Contains row b
  pub long : b.length ≡ a.length
  pub leads : IsPlace order a.to b.to

further : (order : List Node) (x y a b : Arc) (arcs row : List Arc) → Pair order arcs row a b → Pair order (x ∷ arcs) (y ∷ row) a b
further order x y a b arcs row p = record { among = Contains-there x a arcs p.among; stands = Contains-there y b row p.stands; long = p.long; leads = p.leads }

pub in_row : (order : List Node) (arcs row : List Arc) → Placed order arcs row → (b : Arc) → Contains row b → (a : Arc) × Pair order arcs row a b
in_row order [] [] h b c = absurd (Contains-none b c)
in_row order [] (y ∷ ys) h b c = absurd h
in_row order (x ∷ xs) [] h b c = absurd h
in_row order (x ∷ xs) (y ∷ ys) h b c = elim (Contains-cases y b ys c) [
  | inl e ↦ (x, subst (Pair order (x ∷ xs) (y ∷ ys) x) e (record { among = Contains-here x xs; stands = Contains-here y ys; long = h.0; leads = h.1 }))
  | inr d ↦ let p = in_row order xs ys h.2 b d in (p.0, further order x y p.0 b xs ys p.1)
]

pub in_arcs : (order : List Node) (arcs row : List Arc) → Placed order arcs row → (a : Arc) → Contains arcs a → (b : Arc) × Pair order arcs row a b
in_arcs order [] row h a c = absurd (Contains-none a c)
in_arcs order (x ∷ xs) [] h a c = absurd h
in_arcs order (x ∷ xs) (y ∷ ys) h a c = elim (Contains-cases x a xs c) [
  | inl e ↦ (y, subst (λ z. Pair order (x ∷ xs) (y ∷ ys) z y) e (record { among = Contains-here x xs; stands = Contains-here y ys; long = h.0; leads = h.1 }))
  | inr d ↦ let p = in_arcs order xs ys h.2 a d in (p.0, further order x y a p.0 xs ys p.1)
]

-- the id at the position of a node
pub id_there : (order : List Node) (id p : ℕ) → IsPlace order id p → id_at order p ≡ id
id_there order id p at = ap (λ o. unwrap_or (option_map (λ (n : Node). n.id) o) p) at.1 ∙ at.2

pub placed_id : (order : List Node) (p : ℕ) → p < length order → IsPlace order (id_at order p) p
placed_id order p lt =
    let d : Node = record { id = 0; x = pos 0; y = pos 0 } in
    let at : slice_get order p ≡ Some (get_or order p d) = slice_get-get_or order p d lt in
    (get_or order p d, at, sym (id_there order (get_or order p d).id p (get_or order p d, at, refl)))

order_of : (m n : ℕ) → (m < n) ⊎ ((m ≡ n) ⊎ (n < m))
order_of m n = grind arith

module _ (parts : Parts) (order : List Node) (rows : List (List Arc)) (m : IsMap parts) (by : IsById parts.nodes order) (net : IsNet parts order rows) where
  pub known : (u p : ℕ) → IsPlace order u p → Knows parts u
  known u p at = known_at parts.nodes order u p at.0 by at.1 at.2

  -- a walk over the net, and the same walk over the map
  record Same (u p len : ℕ) (over_map over_net : List Arc) : Type 0 where
    in_map : Passes (map_ways parts) u len over_map
    in_net : Passes (net_ways rows) p len over_net
    long : walk_length over_net ≡ walk_length over_map
    ends : IsPlace order (last_stop u over_map) (last_stop p over_net)
    visits : map (λ (a : Arc). a.to) over_map ≡ map (id_at order) (map (λ (b : Arc). b.to) over_net)

  longer : (u p len : ℕ) (row : List Arc) (a b : Arc) (walk net_walk : List Arc) → Knows parts u → slice_get rows p ≡ Some row → Pair order (arcs_out parts.roads u) row a b → Same a.to b.to (len + b.length) walk net_walk → Same u p len (a ∷ walk) (b ∷ net_walk)
  longer u p len row a b walk net_walk there entry pair rest = record {
    in_map = (out_leaves parts u a there pair.among, refl, subst (λ k. Passes (map_ways parts) a.to (len + k) walk) pair.long rest.in_map);
    in_net = (record { out = row; entry = entry; among = pair.stands }, refl, rest.in_net);
    long = (let l : b.length ≡ a.length = pair.long in let r : walk_length net_walk ≡ walk_length walk = rest.long in omega (arith, l, r));
    ends = rest.ends;
    visits = ap (λ i. i ∷ map (λ (a : Arc). a.to) walk) (sym (id_there order a.to b.to pair.leads)) ∙ ap (λ is. id_at order b.to ∷ is) rest.visits;
  }

  pub placed_row : (u p : ℕ) (row : List Arc) → IsPlace order u p → slice_get rows p ≡ Some row → Placed order (arcs_out parts.roads u) row
  placed_row u p row at entry = subst (λ i. Placed order (arcs_out parts.roads i) row) at.2 (net.each p at.0 row at.1 entry)

  to_map : (u p len : ℕ) (net_walk : List Arc) → IsPlace order u p → Passes (net_ways rows) p len net_walk → (walk : List Arc) × Same u p len walk net_walk
  to_map u p len [] at h = ([], record { in_map = tt; in_net = tt; long = refl; ends = at; visits = refl })
  to_map u p len (b ∷ net_walk) at h =
      let pair = in_row order (arcs_out parts.roads u) h.0.out (placed_row u p h.0.out at h.0.entry) b h.0.among in
      let rest = to_map pair.0.to b.to (len + b.length) net_walk pair.1.leads h.2 in
      (pair.0 ∷ rest.0, longer u p len h.0.out pair.0 b rest.0 net_walk (known u p at) h.0.entry pair.1 rest.1)

  pub row_at : (u p : ℕ) → IsPlace order u p → (row : List Arc) × (slice_get rows p ≡ Some row)
  row_at u p at = (get_or rows p [], slice_get-get_or rows p [] (let lt : p < length order = slice_get_within order p at.0 at.1 in omega (arith, lt, net.long)))

  to_net : (u p len : ℕ) (walk : List Arc) → IsPlace order u p → Passes (map_ways parts) u len walk → (net_walk : List Arc) × Same u p len walk net_walk
  to_net u p len [] at h = ([], record { in_map = tt; in_net = tt; long = refl; ends = at; visits = refl })
  to_net u p len (a ∷ walk) at h =
      let row = row_at u p at in
      let pair = in_arcs order (arcs_out parts.roads u) row.0 (placed_row u p row.0 at row.1) a (leaves_out parts u a h.0).0 in
      let rest = to_net a.to pair.0.to (len + pair.0.length) walk pair.1.leads (subst (λ k. Passes (map_ways parts) a.to (len + k) walk) (sym pair.1.long) h.2) in
      (pair.0 ∷ rest.0, longer u p len row.0 a pair.0 walk rest.0 (known u p at) row.1 pair.1 rest.1)

  -- an arc leads to the position of a node
  pub next_place : (u p : ℕ) (b : Arc) → IsPlace order u p → Leaves (net_ways rows) p b → (v : ℕ) × IsPlace order v b.to
  next_place u p b at h = let pair = in_row order (arcs_out parts.roads u) h.out (placed_row u p h.out at h.entry) b h.among in (pair.0.to, pair.1.leads)

  -- a position has one id, and an id one position
  pub one_id : (s t q : ℕ) → IsPlace order s q → IsPlace order t q → s ≡ t
  one_id s t q x y = let same : Some x.0 ≡ Some y.0 = sym x.1 ∙ y.1 in let node : x.0 ≡ y.0 = cc in sym x.2 ∙ (ap (λ (n : Node). n.id) node ∙ y.2)

  apart : (t p q : ℕ) → IsPlace order t p → IsPlace order t q → p < q → ⊥
  apart t p q x y lt =
      let i : slice_get (ids order) p ≡ Some x.0.id = place_map (λ (n : Node). n.id) order p x.0 x.1 in
      let j : slice_get (ids order) q ≡ Some y.0.id = place_map (λ (n : Node). n.id) order q y.0 y.1 in
      let less : get_or (ids order) p 0 < get_or (ids order) q 0 = below_from_sorted (ids order) p q 0 by.rising lt (slice_get_within (ids order) q y.0.id j) in
      let first : get_or (ids order) p 0 ≡ x.0.id = get_or_from_slice_get (ids order) p x.0.id 0 i in
      let second : get_or (ids order) q 0 ≡ y.0.id = get_or_from_slice_get (ids order) q y.0.id 0 j in
      omega (arith, less, first, second, x.2, y.2)

  pub one_place : (t p q : ℕ) → IsPlace order t p → IsPlace order t q → p ≡ q
  one_place t p q x y = elim (order_of p q) [
    | inl lt ↦ absurd (apart t p q x y lt)
    | inr (inl e) ↦ e
    | inr (inr lt) ↦ absurd (apart t q p y x lt)
  ]

  pub reach_map : (s t p q limit d : ℕ) → IsPlace order s p → IsPlace order t q → Reaches (net_ways rows) p limit q d → Reaches (map_ways parts) s limit t d
  reach_map s t p q limit d from to r =
      let w = to_map s p 0 r.1.walk from r.1.passes in
      let end : IsPlace order (last_stop s w.0) q = subst (IsPlace order (last_stop s w.0)) r.1.ends w.1.ends in
      (stops s w.0, record { walk = w.0; passes = w.1.in_map; visits = refl; ends = one_id (last_stop s w.0) t q end to; sums = sym w.1.long ∙ r.1.sums; below = r.1.below })

  pub reach_net : (s t p q limit d : ℕ) → IsPlace order s p → IsPlace order t q → Reaches (map_ways parts) s limit t d → Reaches (net_ways rows) p limit q d
  reach_net s t p q limit d from to r =
      let w = to_net s p 0 r.1.walk from r.1.passes in
      let end : IsPlace order t (last_stop p w.0) = subst (λ i. IsPlace order i (last_stop p w.0)) r.1.ends w.1.ends in
      (stops p w.0, record { walk = w.0; passes = w.1.in_net; visits = refl; ends = one_place t (last_stop p w.0) q end to; sums = w.1.long ∙ r.1.sums; below = r.1.below })

  pub least_map : (s t p q limit : ℕ) (o : Option ℕ) → IsPlace order s p → IsPlace order t q → IsLeastPassing (net_ways rows) p limit q o → IsLeastPassing (map_ways parts) s limit t o
  least_map s t p q limit None from to h = λ d r. h d (reach_net s t p q limit d from to r)
  least_map s t p q limit (Some d) from to h = (reach_map s t p q limit d from to h.0, λ e r. h.1 e (reach_net s t p q limit e from to r))

  -- the length that a search over the net finds is the distance
  pub net_distance : DistanceLaws parts → (s t p q : ℕ) (o : Option ℕ) → IsPlace order s p → IsPlace order t q → IsLeastPassing (net_ways rows) p 18446744073709551615 q o → o ≡ distance parts s t
  net_distance laws s t p q o from to h = whole_same parts m laws s 18446744073709551615 t o (known s p from) (lit≤ tt) (least_map s t p q 18446744073709551615 o from to h)

  -- the stops of a walk over the net are positions
  stops_placed : (u p len : ℕ) (walk : List Arc) → IsPlace order u p → Passes (net_ways rows) p len walk → (x : ℕ) → Contains (stops p walk) x → x < length order
  stops_placed u p len [] at h x c = elim (Contains-cases p x [] c) [
    | inl e ↦ subst (λ k. k < length order) e (slice_get_within order p at.0 at.1)
    | inr d ↦ absurd (Contains-none x d)
  ]
  stops_placed u p len (b ∷ walk) at h x c =
      let pair = in_row order (arcs_out parts.roads u) h.0.out (placed_row u p h.0.out at h.0.entry) b h.0.among in
      let deeper : Contains (stops b.to walk) x → x < length order = stops_placed pair.0.to b.to (len + b.length) walk pair.1.leads h.2 x in
      elim (Contains-cases p x (stops b.to walk) c) [ inl e ↦ subst (λ k. k < length order) e (slice_get_within order p at.0 at.1) | inr d ↦ deeper d ]

  pub way_placed : (s p q bound : ℕ) (o : Option ℕ) (route : List ℕ) → IsPlace order s p → IsWay (net_ways rows) p bound q o route → (x : ℕ) → Contains route x → x < length order
  way_placed s p q bound o route from w x c = stops_placed s p 0 w.passes.walk from w.passes.passes x (subst (λ r. Contains r x) (sym w.passes.visits) c)

  -- distinct positions have distinct ids
  ids_apart : (route : List ℕ) → IsDistinct nat_eq route → ((x : ℕ) → Contains route x → x < length order) → IsDistinct nat_eq (map (id_at order) route)
  ids_apart route distinct placed = IsDistinct-from_apart nat_eq (map (id_at order) route) (λ i j d lt within.
      let long : length (map (id_at order) route) ≡ length route = length-map route (id_at order) in
      let j_in : j < length route = omega (arith, within, long) in
      let a : ℕ = get_or route i 0 in
      let b : ℕ = get_or route j 0 in
      let ga : get_or (map (id_at order) route) i d ≡ id_at order a = get_or_from_slice_get (map (id_at order) route) i (id_at order a) d (place_map (id_at order) route i a (slice_get-get_or route i 0 (omega arith))) in
      let gb : get_or (map (id_at order) route) j d ≡ id_at order b = get_or_from_slice_get (map (id_at order) route) j (id_at order b) d (place_map (id_at order) route j b (slice_get-get_or route j 0 j_in)) in
      let ca : a < length order = placed a (contains_at route i a (slice_get-get_or route i 0 (omega arith))) in
      let cb : b < length order = placed b (contains_at route j b (slice_get-get_or route j 0 j_in)) in
      let no : nat_eq a b ≡ false = apart_from_distinct nat_eq route i j 0 distinct lt j_in in
      ap (λ k. nat_eq k (get_or (map (id_at order) route) j d)) ga ∙ (ap (λ k. nat_eq (id_at order a) k) gb ∙ differ (id_at order a) (id_at order b) (λ same. equal a b no (one_place (id_at order b) a b (subst (λ k. IsPlace order k a) same (placed_id order a ca)) (placed_id order b cb)))))
    where
      differ : (x y : ℕ) → (x ≡ y → ⊥) → nat_eq x y ≡ false
      differ x y ne = grind (arith, ne)

      equal : (x y : ℕ) → nat_eq x y ≡ false → x ≡ y → ⊥
      equal x y h e = grind (arith, h, e)

  -- a route over the net is a route over the map, by the ids of its positions
  pub way_map : (s t p q bound : ℕ) (o : Option ℕ) (route : List ℕ) → IsPlace order s p → IsPlace order t q → IsWay (net_ways rows) p bound q o route → IsWay (map_ways parts) s bound t o (map (id_at order) route)
  way_map s t p q bound o route from to w =
      let r = to_map s p 0 w.passes.walk from w.passes.passes in
      let end : IsPlace order (last_stop s r.0) q = subst (IsPlace order (last_stop s r.0)) w.passes.ends r.1.ends in
      let visits : stops s r.0 ≡ map (id_at order) (stops p w.passes.walk) = ap (λ i. i ∷ map (λ (a : Arc). a.to) r.0) (sym (id_there order s p from)) ∙ ap (λ is. id_at order p ∷ is) r.1.visits in
      record {
        distinct = ids_apart route w.distinct (way_placed s p q bound o route from w);
        d = w.d;
        long = w.long;
        passes = record { walk = r.0; passes = r.1.in_map; visits = visits ∙ ap (map (id_at order)) w.passes.visits; ends = one_id (last_stop s r.0) t q end to; sums = sym r.1.long ∙ w.passes.sums; below = w.passes.below };
      }
