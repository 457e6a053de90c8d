-- The items that LDM gathers.
use Rattle.std.proofs.Common.{Result, Err, ◌≡◌, ℕ, ◌+◌, ◌^◌, ◌<◌, ◌≤◌, nat_eq, Option, None, Some, IsSome, List, [], ◌∷◌, ◌⊎◌, inl, inr, refl, arith, ap, sym, ◌∙◌, subst, map}
use Rattle.std.specs.List.{Contains, IsDistinct}
use Rattle.std.specs.List.Sorted.{IsStrictlySortedBy}
use Rattle.std.specs.Option.{option_map}
use Rattle.road_map.specs.declared.arc.Arc.{Arc}
use Rattle.road_map.specs.declared.parts.Node.{Node}
use Rattle.road_map.specs.declared.parts.Parts.{Parts}
use Rattle.road_map.specs.Walks.{Knows, IsDistance, distance}
use Rattle.road_map.specs.Maps.{IsMap, IsById}
use Rattle.road_map.specs.ArcsOut.{arcs_out}
use Rattle.road_map.specs.Routes.{last_stop, walk_length, AlongArcs, IsShortest}
use Rattle.road_map.specs.Least.{IsLeast}
use Rattle.road_map.proofs.Among.{Contains-none}
use Rattle.road_map.proofs.ArcLaws.{HopOf, arcs_out-sound}
use Rattle.road_map.proofs.ChartLaws.{road_place}
use Rattle.road_map.proofs.WalkLaws.{distance-is}
use Rattle.road_search.specs.Passing.{Ways, PassesBy, Reaches, IsLeastPassing}
use Rattle.road_leaf.specs.declared.leaf.Extra.{Extra}
use Rattle.road_leaf.specs.declared.leaf.Extra.TheVariants.{Plain, Own, Near, Cell}
use Rattle.road_leaf.specs.declared.leaf.NodeLeaf.{NodeLeaf}
use Rattle.book_model.specs.declared.items.Query.{Query}
use Rattle.book_model.specs.declared.settings.Numbers.{Numbers}
use Rattle.book_model.specs.Nodes.{node_at}
use Rattle.book_model.specs.Books.{Book, Ldm, leaf, leaf_by}
use Rattle.book_model.proofs.ById.{ids_kept}
use Rattle.proof_method.specs.declared.found.Found.{Found}
use Rattle.proof_method.specs.declared.found.GatherError.{GatherError}
use Rattle.proof_judge.specs.Apart.{Leads, open_ways}
use Rattle.proof_judge.specs.ItemWalks.{live_ways}
use Rattle.proof_method.specs.Apart.{IsEnd, IsOpen, WantedApart, WantedPairApart, IsFoundApart}
use Rattle.proof_method.specs.Gathering.{Lists, IsMet, Wanted, WantedPair, IsPairAt, IsFound, AreUnjoined}
use Rattle.proof_method.proofs.Along.{passes_along, along_joins, reaches_joins, Joins-known}
use Rattle.proof_method.proofs.BookLaws.{book_of_map, route_known}
use Rattle.proof_method.proofs.Completes.{shortest_joins}
use Rattle.proof_method.proofs.Picks.{some_is}
use Rattle.proof_method.proofs.RouteLaws.{roads_known}
use Rattle.method_books.specs.LdmBooks.{extra_in, ldm_book, reference_of, reference_in, IsNear, IsNeeded}
use Rattle.method_judges.proofs.LiveLaws.{ShortLeaves, live_short}
use Rattle.method_books.proofs.NodeLaws.{node_has, known_node}

-- a shortest route is below 2 to the 48th
pub short_route : (parts : Parts) → IsMap parts → ((s t d : ℕ) → distance parts s t ≡ Some d → d < 2 ^ 48) → (s t d : ℕ) (route : List ℕ) → IsShortest parts s t route d → d < 2 ^ 48
short_route parts m bound s t d route short = by_distance (distance parts s t) refl (distance-is parts (roads_known parts m) s t)
  where
    by_distance : (o : Option ℕ) → distance parts s t ≡ o → IsDistance parts s t o → d < 2 ^ 48
    by_distance None is h = absurd (h d (shortest_joins parts s t d route short))
    by_distance (Some e) is h = let le : d ≤ e = short.least e h.0 in let lt : e < 2 ^ 48 = bound s t e is in omega (arith, le, lt)

-- an error that is passed on is the same error
pub err_kept : {A B : Type 0} (e f : GatherError) → ◌≡◌ {A = Result A GatherError} (Err e) (Err f) → ◌≡◌ {A = Result B GatherError} (Err e) (Err f)
err_kept e f same = let is : e ≡ f = cc in ap Err is

-- the lengths of a search below a 64-bit limit are 64-bit numbers
pub low_lengths : (w : Ways) (from limit : ℕ) (len : ℕ → Option ℕ) → limit ≤ 2 ^ 64 → ((v : ℕ) → IsLeastPassing w from limit v (len v)) → (v d : ℕ) → len v ≡ Some d → d < 2 ^ 64
low_lengths w from limit len few lengths v d is =
    let least : IsLeastPassing w from limit v (Some d) = subst (IsLeastPassing w from limit v) is (lengths v) in
    let p : PassesBy w from limit v least.0.0 d = least.0.1 in
    let below : d < limit = p.below in
    omega (arith, below, few)

reference_from : (id : ℕ) (x : Extra) → reference_of x ≡ Some id → (e : ℕ) × (x ≡ Near id e)
reference_from id Plain is = cc
reference_from id (Own codes) is = cc
reference_from id (Cell c b) is = cc
reference_from id (Near r e) is = let same : r ≡ id = cc in (e, ap (λ z. Near z e) same)

module _ (parts : Parts) (entries : List (ℕ × Extra)) (numbers : Numbers) where
  -- an id for which a fact holds, or the reference of such an id
  abbrev pub WithReferences : (ℕ → Type 0) → ℕ → Type 0
  WithReferences Side id = Side id ⊎ ((u : ℕ) × (n : NodeLeaf) × (e : ℕ) × Side u × (leaf (ldm_book parts entries numbers) u ≡ Some n) × (n.extra ≡ Near id e))

  pub no_pairs : (Wants : ℕ → ℕ → Type 0) (pairs : List ℕ) → pairs ≡ [] → ((x y : ℕ) → Wants x y → ⊥) → Lists (IsPairAt Wants (ldm_book parts entries numbers)) pairs
  unfolding IsStrictlySortedBy
  no_pairs Wants pairs none never = subst (Lists (IsPairAt Wants (ldm_book parts entries numbers))) (sym none) (record { rising = tt; same = λ n. (λ c. absurd (Contains-none n c), λ w. absurd (never w.x w.y w.wanted)) })

module _ (parts : Parts) (order : List Node) (entries : List (ℕ × Extra)) (numbers : Numbers) (by : IsById parts.nodes order) (first : List ℕ) (len : ℕ → Option ℕ) (Met : ℕ → Type 0)
    (met_from : (id : ℕ) → IsSome (len id) → Met id) (met_to : (id : ℕ) → Met id → IsSome (len id)) (first_known : (id : ℕ) → Contains first id → Knows parts id) (met_known : (id : ℕ) → Met id → Knows parts id) where
  abbrev Of : ℕ → Type 0
  Of = WithReferences parts entries numbers (λ u. Contains first u ⊎ Met u)

  near_from : (id : ℕ) → IsNear order first len id → Contains first id ⊎ Met id
  near_from id (inl h) = inl h
  near_from id (inr h) = inr (met_from id h.1)

  near_to : (id : ℕ) → Contains first id ⊎ Met id → IsNear order first len id
  near_to id (inl h) = inl h
  near_to id (inr h) = inr (ids_kept parts.nodes order (λ n. (by.same n).0) id (met_known id h), met_to id h)

  side_known : (id : ℕ) → Contains first id ⊎ Met id → Knows parts id
  side_known id (inl h) = first_known id h
  side_known id (inr h) = met_known id h

  from_needed : (id : ℕ) → IsNeeded order entries first len id → Of id
  from_needed id (inl h) = inl (near_from id h)
  from_needed id (inr r) =
      let side : Contains first r.0 ⊎ Met r.0 = near_from r.0 r.1 in
      let n : (n : Node) × (node_at parts.nodes r.0 ≡ Some n) = known_node parts.nodes r.0 (side_known r.0 side) in
      let x : (e : ℕ) × (extra_in entries r.0 ≡ Near id e) = reference_from id (extra_in entries r.0) r.2 in
      let own : n.0.id ≡ r.0 = node_has parts.nodes r.0 n.0 n.1 in
      inr (r.0, leaf_by parts (extra_in entries) n.0, x.0, side, ap (option_map (leaf_by parts (extra_in entries))) n.1, ap (extra_in entries) own ∙ x.1)

  to_needed : (id : ℕ) → Of id → IsNeeded order entries first len id
  to_needed id (inl side) = inl (near_to id side)
  to_needed id (inr r) = inr (r.0, near_to r.0 r.3, by_node (node_at parts.nodes r.0) refl r.4)
    where
      by_node : (o : Option Node) → node_at parts.nodes r.0 ≡ o → option_map (leaf_by parts (extra_in entries)) o ≡ Some r.1 → reference_in entries r.0 ≡ Some id
      by_node None is e = cc
      by_node (Some n) is e =
          let same : leaf_by parts (extra_in entries) n ≡ r.1 = cc in
          let own : n.id ≡ r.0 = node_has parts.nodes r.0 n is in
          let x : extra_in entries r.0 ≡ Near id r.2 = ap (extra_in entries) (sym own) ∙ (ap (λ (l : NodeLeaf). l.extra) same ∙ r.5) in
          ap reference_of x

  -- the ids of a list, those to which walks lead, and the references of both
  pub needed_listed : (found : List ℕ) → Lists (IsNeeded order entries first len) found → Lists Of found
  needed_listed found lists = record { rising = lists.rising; same = λ id. (λ c. from_needed id ((lists.same id).0 c), λ w. (lists.same id).1 (to_needed id w)) }

module _ (parts : Parts) (order : List Node) (entries : List (ℕ × Extra)) (numbers : Numbers) (m : IsMap parts) (by : IsById parts.nodes order) (q : Query) (d : ℕ) where
  abbrev book : Book
  book = ldm_book parts entries numbers

  abbrev live : Ways
  live = live_ways numbers.first (leaf book) q.to d

  short_leaves : ShortLeaves (leaf book)
  short_leaves u a out entry among =
      let of : (out ≡ arcs_out parts.roads u) × Knows parts u = book_of_map book live.lets u out entry in
      let h : HopOf parts.roads u a = arcs_out-sound parts.roads u a (subst (λ x. Contains x a) of.0 among) in
      let few : h.hop.road.length < 2 ^ 32 = (road_place parts h.hop.road m.joined h.among).3 in
      subst (λ n. n < 2 ^ 32) h.long few

  module _ (len : ℕ → Option ℕ) (lengths : (v : ℕ) → IsLeastPassing live q.from (d + 2 ^ 32) v (len v)) where
    met_from : (id : ℕ) → IsSome (len id) → IsMet book q d id
    met_from id some =
        let l : (l : ℕ) × (len id ≡ Some l) = some_is (len id) some in
        let least : IsLeastPassing live q.from (d + 2 ^ 32) id (Some l.0) = subst (IsLeastPassing live q.from (d + 2 ^ 32) id) l.1 (lengths id) in
        let p : PassesBy live q.from (d + 2 ^ 32) id least.0.0 l.0 = least.0.1 in
        record { walk = p.walk; passes = p.passes; ends = p.ends }

    met_to : (id : ℕ) → IsMet book q d id → IsSome (len id)
    met_to id h = by_length (len id) (lengths id)
      where
        reached : Reaches live q.from (d + 2 ^ 32) id (walk_length h.walk)
        reached = (q.from ∷ map (λ (a : Arc). a.to) h.walk, record { walk = h.walk; passes = h.passes; visits = refl; ends = h.ends; sums = refl; below = omega (arith, live_short numbers.first (leaf book) q.to d short_leaves q.from 0 h.walk (omega arith) h.passes) })

        by_length : (o : Option ℕ) → IsLeastPassing live q.from (d + 2 ^ 32) id o → IsSome o
        by_length None none = absurd (none (walk_length h.walk) reached)
        by_length (Some l) least = refl

    met_known : Knows parts q.from → (id : ℕ) → IsMet book q d id → Knows parts id
    met_known from id h =
        let along : AlongArcs parts.roads q.from h.walk = passes_along parts live (book_of_map book live.lets) q.from 0 h.walk h.passes in
        subst (Knows parts) h.ends (Joins-known parts (roads_known parts m) q.from (last_stop q.from h.walk) (walk_length h.walk) (along_joins parts q.from h.walk from along))

    pub found_ldm : (f : Found) → IsShortest parts q.from q.to f.route d → IsDistinct nat_eq f.route → Lists (IsNeeded order entries f.route len) f.nodes → f.pairs ≡ [] → IsFound Ldm book q d f
    found_ldm f short distinct lists none = record {
      shortest = short;
      distinct = distinct;
      nodes = record { rising = all.rising; same = λ id. (λ c. apart id ((all.same id).0 c), λ w. (all.same id).1 (together id w)) };
      pairs = no_pairs parts entries numbers (WantedPair Ldm book q d) f.pairs none (λ x y w. w);
    }
      where
        all : Lists (WithReferences parts entries numbers (λ u. Contains f.route u ⊎ IsMet book q d u)) f.nodes
        all = needed_listed parts order entries numbers by f.route len (IsMet book q d) met_from met_to (λ id on. route_known parts (roads_known parts m) q.from q.to d f.route short id on) (met_known short.known.0) f.nodes lists

        apart : (id : ℕ) → WithReferences parts entries numbers (λ u. Contains f.route u ⊎ IsMet book q d u) id → Contains f.route id ⊎ Wanted Ldm book q f.route d id
        apart id (inl (inl on)) = inl on
        apart id (inl (inr met)) = inr (inl met)
        apart id (inr r) = inr (inr r)

        together : (id : ℕ) → Contains f.route id ⊎ Wanted Ldm book q f.route d id → WithReferences parts entries numbers (λ u. Contains f.route u ⊎ IsMet book q d u) id
        together id (inl on) = inl (inl on)
        together id (inr (inl met)) = inl (inr met)
        together id (inr (inr r)) = inr r

-- ---- if no route exists

module _ (parts : Parts) (order : List Node) (entries : List (ℕ × Extra)) (numbers : Numbers) (m : IsMap parts) (by : IsById parts.nodes order) (q : Query) (unjoined : AreUnjoined parts q)
    (len : ℕ → Option ℕ) (lengths : (v : ℕ) → IsLeast (Leads (open_ways (leaf (ldm_book parts entries numbers)) q.to) q.from v) (len v)) (ends : List ℕ) (are_ends : Lists (IsEnd q) ends) where
  abbrev of : Book
  of = ldm_book parts entries numbers

  open_from : (id : ℕ) → IsSome (len id) → IsOpen of q id
  open_from id some =
      let l : (l : ℕ) × (len id ≡ Some l) = some_is (len id) some in
      (l.0, (subst (IsLeast (Leads (open_ways (leaf of) q.to) q.from id)) l.1 (lengths id)).0)

  open_to : (id : ℕ) → IsOpen of q id → IsSome (len id)
  open_to id h = by_length (len id) (lengths id)
    where
      by_length : (o : Option ℕ) → IsLeast (Leads (open_ways (leaf of) q.to) q.from id) o → IsSome o
      by_length None none = absurd (none h.0 h.1)
      by_length (Some l) least = refl

  open_known : (id : ℕ) → IsOpen of q id → Knows parts id
  open_known id h = Joins-known parts (roads_known parts m) q.from id h.0 (reaches_joins parts (open_ways (leaf of) q.to) (book_of_map of (open_ways (leaf of) q.to).lets) q.from (h.0 + 1) id h.0 unjoined.0 h.1)

  end_known : (id : ℕ) → Contains ends id → Knows parts id
  end_known id c = elim ((are_ends.same id).0 c) [ inl e ↦ subst (Knows parts) (sym e) unjoined.0 | inr e ↦ subst (Knows parts) (sym e) unjoined.1 ]

  abbrev Side : ℕ → Type 0
  Side u = Contains ends u ⊎ IsOpen of q u

  pub found_apart : (f : Found) → f.route ≡ [] → Lists (IsNeeded order entries ends len) f.nodes → f.pairs ≡ [] → IsFoundApart Ldm of q f
  found_apart f no_route lists none = record {
    unjoined = unjoined;
    no_route = no_route;
    nodes = record { rising = all.rising; same = λ id. (λ c. apart id ((all.same id).0 c), λ w. (all.same id).1 (together id w)) };
    pairs = no_pairs parts entries numbers (WantedPairApart Ldm of q) f.pairs none (λ x y w. w);
  }
    where
      all : Lists (WithReferences parts entries numbers Side) f.nodes
      all = needed_listed parts order entries numbers by ends len (IsOpen of q) open_from open_to end_known open_known f.nodes lists

      side_from : (u : ℕ) → Side u → IsEnd q u ⊎ IsOpen of q u
      side_from u (inl c) = inl ((are_ends.same u).0 c)
      side_from u (inr o) = inr o

      side_to : (u : ℕ) → IsEnd q u ⊎ IsOpen of q u → Side u
      side_to u (inl e) = inl ((are_ends.same u).1 e)
      side_to u (inr o) = inr o

      apart : (id : ℕ) → WithReferences parts entries numbers Side id → IsEnd q id ⊎ WantedApart Ldm of q id
      apart id (inl (inl c)) = inl ((are_ends.same id).0 c)
      apart id (inl (inr o)) = inr (inl o)
      apart id (inr r) = inr (inr (r.0, r.1, r.2, side_from r.0 r.3, r.4, r.5))

      together : (id : ℕ) → IsEnd q id ⊎ WantedApart Ldm of q id → WithReferences parts entries numbers Side id
      together id (inl e) = inl (inl ((are_ends.same id).1 e))
      together id (inr (inl o)) = inl (inr o)
      together id (inr (inr r)) = inr (r.0, r.1, r.2, side_to r.0 r.3, r.4, r.5)
