-- Walks over roads, and directed walks over arcs if each arc between two nodes has a reverse arc.
use Rattle.std.proofs.Common.{◌≡◌, ◌≢◌, ℕ, ◌+◌, ◌<◌, ◌≤◌, ◌==◌, ◌&&◌, nat_lt, Bool, true, false, not, cond, Option, None, Some, List, [], ◌∷◌, inl, inr, length, take, slice_get, get_or, count_by, refl, sym, ◌∙◌, ap, subst, ⊎_elim, arith}
use Rattle.std.specs.List.{Contains, All, filter}
use Rattle.std.proofs.lemmas.Bool.{cases_lt}
use Rattle.std.proofs.lemmas.Option.{slice_get-get_or}
use Rattle.std.proofs.lemmas.List.Sums.{sum_by-cons, sum_by_more}
use Rattle.std.proofs.lemmas.List.Elements.{All-contains}
use Rattle.road_map.specs.declared.parts.Node.{Node}
use Rattle.road_map.specs.declared.parts.Road.{Road}
use Rattle.road_map.specs.declared.parts.Parts.{Parts}
use Rattle.road_map.specs.Least.{IsLeast}
use Rattle.road_map.specs.Walks as roads
use Rattle.road_map.specs.Walks.{Hop, hop_start, hop_end, end_from, ids, Knows, Joins, IsDistance, distance}
use Rattle.road_map.proofs.Among.{Contains-none, Contains-here, Contains-there, Contains-cases, Contains-map, Contains-from_map}
use Rattle.road_map.proofs.WalkLaws.{RoadsKnown, distance-is}
use Rattle.dimacs_reader.specs.declared.arc.Arc.{Arc}
use Rattle.dimacs_reader.specs.declared.graph.Graph.{Graph}
use Rattle.dimacs_reader.specs.Dimacs.{is_arc, turned, lacks_back, is_unpaired, first_unpaired, road_of, roads_of, nodes_of, placed_twice}
use Rattle.dimacs_reader.specs.ArcWalks.{Follows, end_of, total, Leads, Agrees}
use Rattle.dimacs_reader.proofs.Ranges.{none_found}
use Rattle.dimacs_reader.proofs.PairLaws.{is_arc_same}
use Rattle.dimacs_reader.proofs.NodeLaws.{InRange, Distinct, all_once, each_placed, nodes_of_rise}
use Rattle.dimacs_reader.proofs.ReadLaws.{Within}

-- ---- each arc between two nodes has a reverse arc

pub same_arc : (a b : Arc) → is_arc a b ≡ true → a ≡ b
same_arc a b h = by_fields a.from a.to a.length b.from b.to b.length (grind (arith, h)) (grind (arith, h)) (grind (arith, h))
  where
    by_fields : (f t l f' t' l' : ℕ) → f ≡ f' → t ≡ t' → l ≡ l' → (let a : Arc = record { from = f; to = t; length = l } in a) ≡ record { from = f'; to = t'; length = l' }
    by_fields f t l f' t' l' p q r = cc

pub counted : (arc : Arc) (arcs : List Arc) → 1 ≤ count_by (is_arc arc) arcs → Contains arcs arc
counted arc [] h = absurd (omega arith)
counted arc (x ∷ xs) h = by_head (is_arc arc x) refl (rw (sum_by-cons (λ y. cond (is_arc arc y) 1 0) x xs) at h) (counted arc xs)
  where
    by_head : (b : Bool) → is_arc arc x ≡ b → 1 ≤ cond b 1 0 + count_by (is_arc arc) xs → (1 ≤ count_by (is_arc arc) xs → Contains xs arc) → Contains (x ∷ xs) arc
    by_head true e le later = subst (λ y. Contains (x ∷ xs) y) (sym (same_arc arc x e)) (Contains-here x xs)
    by_head false e le later = Contains-there x arc xs (later (omega (arith, le)))

apart_test : (a b : ℕ) → a ≢ b → (a == b) ≡ false
apart_test a b h = grind (arith, h)

not_less : (a b : ℕ) → nat_lt a b ≡ false → b ≤ a
not_less a b h = grind (arith, h)

-- at an arc between two nodes, the number of all reverse arcs is at least that of such arcs so far
pub paired_at : (arcs : List Arc) → first_unpaired arcs ≡ None → (arc : Arc) → arc.from ≢ arc.to → (k : ℕ) → k < length arcs → get_or arcs k arc ≡ arc → count_by (is_arc arc) (take (k + 1) arcs) ≤ count_by (is_arc (turned arc)) arcs
unfolding first_unpaired
paired_at arcs none arc apart k within is =
    let passes : is_unpaired arcs k ≡ false = none_found (is_unpaired arcs) 0 (length arcs) none k (omega arith) (omega arith) in
    let here : slice_get arcs k ≡ Some arc = slice_get-get_or arcs k arc within ∙ ap Some is in
    let tests : (not (arc.from == arc.to) && nat_lt (count_by (is_arc (turned arc)) arcs) (count_by (is_arc arc) (take (k + 1) arcs))) ≡ false = sym (ap (lacks_back arcs k) here) ∙ passes in
    let fails : nat_lt (count_by (is_arc (turned arc)) arcs) (count_by (is_arc arc) (take (k + 1) arcs)) ≡ false = sym (ap (λ b. not b && nat_lt (count_by (is_arc (turned arc)) arcs) (count_by (is_arc arc) (take (k + 1) arcs))) (apart_test arc.from arc.to apart)) ∙ tests in
    not_less _ _ fails

pub has_turned : (arcs : List Arc) → first_unpaired arcs ≡ None → (arc : Arc) → Contains arcs arc → arc.from ≢ arc.to → Contains arcs (turned arc)
has_turned arcs none arc h apart =
    let le : count_by (is_arc arc) (take (h.0 + 1) arcs) ≤ count_by (is_arc (turned arc)) arcs = paired_at arcs none arc apart h.0 h.1 h.2 in
    let next : count_by (is_arc arc) (take (h.0 + 1) arcs) ≡ count_by (is_arc arc) (take h.0 arcs) + 1 =
    sum_by_more (λ x. cond (is_arc arc x) 1 0) arcs h.0 arc h.1 ∙ (ap (λ x. count_by (is_arc arc) (take h.0 arcs) + cond (is_arc arc x) 1 0) h.2 ∙ ap (λ b. count_by (is_arc arc) (take h.0 arcs) + cond b 1 0) (is_arc_same arc)) in
    counted (turned arc) arcs (omega arith)

-- ---- arcs and roads

kept : (p : Arc → Bool) (arcs : List Arc) (arc : Arc) → Contains arcs arc → p arc ≡ true → Contains (filter p arcs) arc
kept p [] arc h passes = absurd (Contains-none arc h)
kept p (x ∷ xs) arc h passes = elim (Contains-cases x arc xs h) [
  | inl e ↦ let first : p x ≡ true = ap p e ∙ passes in rw first (subst (λ y. Contains (x ∷ filter p xs) y) e (Contains-here x (filter p xs)))
  | inr c ↦ later (p x) (kept p xs arc c passes)
]
  where
    later : (b : Bool) → Contains (filter p xs) arc → Contains (cond b (x ∷ filter p xs) (filter p xs)) arc
    later true c = Contains-there x arc (filter p xs) c
    later false c = c

was_kept : (p : Arc → Bool) (arcs : List Arc) (arc : Arc) → Contains (filter p arcs) arc → Contains arcs arc × (p arc ≡ true)
was_kept p [] arc h = absurd (Contains-none arc h)
was_kept p (x ∷ xs) arc h = by_head (p x) refl h (was_kept p xs arc)
  where
    by_head : (b : Bool) → p x ≡ b → Contains (cond b (x ∷ filter p xs) (filter p xs)) arc → (Contains (filter p xs) arc → Contains xs arc × (p arc ≡ true)) → Contains (x ∷ xs) arc × (p arc ≡ true)
    by_head true e c later = elim (Contains-cases x arc (filter p xs) c) [
      | inl same ↦ (subst (λ y. Contains (x ∷ xs) y) same (Contains-here x xs), ap p (sym same) ∙ e)
      | inr more ↦ let rest : Contains xs arc × (p arc ≡ true) = later more in (Contains-there x arc xs rest.0, rest.1)
    ]
    by_head false e c later = let rest : Contains xs arc × (p arc ≡ true) = later c in (Contains-there x arc xs rest.0, rest.1)

less_test : (a b : ℕ) → a < b → nat_lt a b ≡ true
less_test a b h = grind (arith, h)

is_less : (a b : ℕ) → nat_lt a b ≡ true → a < b
is_less a b h = grind (arith, h)

pub has_road : (arcs : List Arc) (arc : Arc) → Contains arcs arc → arc.from < arc.to → Contains (roads_of arcs) (road_of arc)
unfolding roads_of
has_road arcs arc h less = Contains-map road_of (filter (λ a. nat_lt a.from a.to) arcs) arc (kept (λ a. nat_lt a.from a.to) arcs arc h (less_test arc.from arc.to less))

-- a road is an arc to the greater id
pub record IsOfArc (arcs : List Arc) (road : Road) : Type 0 where
  pub arc : Arc
  pub among : Contains arcs arc
  pub less : arc.from < arc.to
  pub is : road_of arc ≡ road

pub of_arc : (arcs : List Arc) (road : Road) → Contains (roads_of arcs) road → IsOfArc arcs road
unfolding roads_of
of_arc arcs road h =
    let a : (a : Arc) × Contains (filter (λ a. nat_lt a.from a.to) arcs) a × (road_of a ≡ road) = Contains-from_map road_of (filter (λ a. nat_lt a.from a.to) arcs) road h in
    let both : Contains arcs a.0 × (nat_lt a.0.from a.0.to ≡ true) = was_kept (λ a. nat_lt a.from a.to) arcs a.0 a.1 in
    record { arc = a.0; among = both.0; less = is_less a.0.from a.0.to both.1; is = a.2 }

-- ---- walks

-- an arc with the same ends as a hop
record IsHop (arcs : List Arc) (hop : Hop) : Type 0 where
  pub arc : Arc
  pub among : Contains arcs arc
  pub leaves : arc.from ≡ hop_start hop
  pub leads : arc.to ≡ hop_end hop
  pub long : arc.length ≡ hop.road.length

module _ (arcs : List Arc) (paired : first_unpaired arcs ≡ None) where
  arc_of_hop : (road : Road) (back : Bool) → Contains (roads_of arcs) road → IsHop arcs (record { road = road; back = back })
  arc_of_hop road false h = let a : IsOfArc arcs road = of_arc arcs road h in record { arc = a.arc; among = a.among; leaves = ap (λ (r : Road). r.a) a.is; leads = ap (λ (r : Road). r.b) a.is; long = ap (λ (r : Road). r.length) a.is }
  arc_of_hop road true h =
      let a : IsOfArc arcs road = of_arc arcs road h in
      let apart : a.arc.from ≢ a.arc.to = λ e. absurd (omega (arith, a.less, e)) in
      record { arc = turned a.arc; among = has_turned arcs paired a.arc a.among apart; leaves = ap (λ (r : Road). r.b) a.is; leads = ap (λ (r : Road). r.a) a.is; long = ap (λ (r : Road). r.length) a.is }

  -- a directed walk along the same nodes as some hops
  record IsWalk (u t d : ℕ) : Type 0 where
    pub walk : List Arc
    pub follows : Follows arcs u walk
    pub ends : end_of u walk ≡ t
    pub sums : total walk ≡ d

  arcs_of_hops : (u : ℕ) (hops : List Hop) → roads.Follows (roads_of arcs) u hops → IsWalk u (end_from u hops) (roads.total hops)
  arcs_of_hops u [] h = record { walk = []; follows = tt; ends = refl; sums = refl }
  arcs_of_hops u (hop ∷ hops) h =
      let first : IsHop arcs hop = arc_of_hop hop.road hop.back h.0 in
      let rest : IsWalk (hop_end hop) (end_from (hop_end hop) hops) (roads.total hops) = arcs_of_hops (hop_end hop) hops h.2 in
      record {
        walk = first.arc ∷ rest.walk;
        follows = (first.among, first.leaves ∙ h.1, subst (λ v. Follows arcs v rest.walk) (sym first.leads) rest.follows);
        ends = ap (λ v. end_of v rest.walk) first.leads ∙ rest.ends;
        sums = ap (λ l. l + total rest.walk) first.long ∙ ap (λ l. hop.road.length + l) rest.sums;
      }

  -- hops along the same nodes as a directed walk, which are not longer
  record IsHops (u t most : ℕ) : Type 0 where
    pub hops : List Hop
    pub follows : roads.Follows (roads_of arcs) u hops
    pub ends : end_from u hops ≡ t
    pub shorter : roads.total hops ≤ most

  with_hop : (u t most : ℕ) (hop : Hop) → Contains (roads_of arcs) hop.road → hop_start hop ≡ u → IsHops (hop_end hop) t most → IsHops u t (hop.road.length + most)
  with_hop u t most hop among leaves rest = record { hops = hop ∷ rest.hops; follows = (among, leaves, rest.follows); ends = rest.ends; shorter = omega (arith, rest.shorter) }

  hops_of_arcs : (u : ℕ) (walk : List Arc) → Follows arcs u walk → IsHops u (end_of u walk) (total walk)
  hops_of_arcs u [] h = record { hops = []; follows = tt; ends = refl; shorter = omega arith }
  hops_of_arcs u (arc ∷ walk) h =
      let rest : IsHops arc.to (end_of arc.to walk) (total walk) = hops_of_arcs arc.to walk h.2 in
      ⊎_elim
      (λ (up : arc.from < arc.to). with_hop u (end_of arc.to walk) (total walk) (record { road = road_of arc; back = false }) (has_road arcs arc h.0 up) h.1 rest)
      (λ (le : arc.to ≤ arc.from). ⊎_elim
      (λ (down : arc.to < arc.from).
      let apart : arc.from ≢ arc.to = λ e. absurd (omega (arith, down, e)) in
      with_hop u (end_of arc.to walk) (total walk) (record { road = road_of (turned arc); back = true }) (has_road arcs (turned arc) (has_turned arcs paired arc h.0 apart) down) h.1 rest)
      (λ (ge : arc.from ≤ arc.to).
      let here : arc.to ≡ u = omega (arith, h.1) in
      let same : IsHops u (end_of arc.to walk) (total walk) = subst (λ v. IsHops v (end_of arc.to walk) (total walk)) here rest in
      record { hops = same.hops; follows = same.follows; ends = same.ends; shorter = omega (arith, same.shorter) })
      (cases_lt arc.to arc.from))
      (cases_lt arc.from arc.to)

-- P holds of some number wherever Q does, and of one that is not greater
least_low : (P Q : ℕ → Type 0) (o : Option ℕ) → ((n : ℕ) → P n → Q n) → ((n : ℕ) → Q n → (m : ℕ) × P m × (m ≤ n)) → IsLeast P o → IsLeast Q o
least_low P Q None to low h = λ n q. h (low n q).0 (low n q).1
least_low P Q (Some d) to low h = (to d h.0, λ n q. let m : (m : ℕ) × P m × (m ≤ n) = low n q in omega (arith, h.1 m.0 m.1, m.2))

-- the parts made from a graph's nodes and from the roads of its arcs
module _ (graph : Graph) (places : List Node) (within : All (Within graph.nodes) graph.arcs) (range : InRange places graph.nodes) (long : length places ≡ graph.nodes) (once : placed_twice graph.nodes places ≡ None) (paired : first_unpaired graph.arcs ≡ None) where
  abbrev parts : Parts
  parts = record { nodes = nodes_of graph.nodes places; roads = roads_of graph.arcs }

  distinct : Distinct places
  distinct = all_once graph.nodes places range once

  known_id : (id : ℕ) → 1 ≤ id → id ≤ graph.nodes → Knows parts id
  known_id id low high =
      let n : (n : Node) × Contains places n × (n.id ≡ id) = Contains-from_map (λ (n : Node). n.id) places id (each_placed graph.nodes places range distinct long id low high) in
      subst (λ i. Knows parts i) n.2 (Contains-map (λ (n : Node). n.id) (nodes_of graph.nodes places) n.0 (((nodes_of_rise graph.nodes places range distinct).same n.0).0 n.1))

  id_known : (id : ℕ) → Knows parts id → (1 ≤ id) × (id ≤ graph.nodes)
  id_known id h =
      let n : (n : Node) × Contains (nodes_of graph.nodes places) n × (n.id ≡ id) = Contains-from_map (λ (n : Node). n.id) (nodes_of graph.nodes places) id h in
      subst (λ i. (1 ≤ i) × (i ≤ graph.nodes)) n.2 (All-contains (λ (n : Node). (1 ≤ n.id) × (n.id ≤ graph.nodes)) places n.0 range (((nodes_of_rise graph.nodes places range distinct).same n.0).1 n.1))

  known : (id : ℕ) → (Knows parts id → (1 ≤ id) × (id ≤ graph.nodes)) × ((1 ≤ id) × (id ≤ graph.nodes) → Knows parts id)
  known id = (id_known id, λ h. known_id id h.0 h.1)

  roads_known : RoadsKnown parts
  roads_known r h =
      let a : IsOfArc graph.arcs r = of_arc graph.arcs r h in
      let ends : Within graph.nodes a.arc = All-contains (Within graph.nodes) graph.arcs a.arc within a.among in
      (subst (λ (r : Road). Knows parts r.a) a.is (known_id a.arc.from ends.from.0 ends.from.1), subst (λ (r : Road). Knows parts r.b) a.is (known_id a.arc.to ends.to.0 ends.to.1))

  leads : (s t d : ℕ) → Joins parts s t d → Leads graph s t d
  leads s t d j =
      let w : IsWalk graph.arcs paired s (end_from s j.walk.hops) (roads.total j.walk.hops) = arcs_of_hops graph.arcs paired s j.walk.hops (subst (λ u. roads.Follows (roads_of graph.arcs) u j.walk.hops) j.starts j.follows) in
      record { walk = w.walk; known = id_known s j.known; follows = w.follows; ends = w.ends ∙ subst (λ u. end_from u j.walk.hops ≡ t) j.starts j.ends; sums = w.sums ∙ j.sums }

  joins : (s t d : ℕ) → Leads graph s t d → (m : ℕ) × Joins parts s t m × (m ≤ d)
  joins s t d l =
      let w : IsHops graph.arcs paired s (end_of s l.walk) (total l.walk) = hops_of_arcs graph.arcs paired s l.walk l.follows in
      let sum : total l.walk ≡ d = l.sums in
      (roads.total w.hops, record { walk = record { start = s; hops = w.hops }; known = known_id s l.known.0 l.known.1; starts = refl; follows = w.follows; ends = w.ends ∙ l.ends; sums = refl }, omega (arith, w.shorter))

  pub parts_agree : Agrees graph parts
  parts_agree = record {
    known = known;
    walks = distance-is parts roads_known;
    arcs = λ s t. least_low (Joins parts s t) (Leads graph s t) (distance parts s t) (leads s t) (joins s t) (distance-is parts roads_known s t);
  }
