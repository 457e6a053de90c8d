-- What HYP gathers.
use Rattle.std.proofs.Common.{◌≡◌, ℕ, suc, ◌+◌, ◌<◌, ◌≤◌, ◌*◌, ◌==◌, nat_eq, nat_lt, nat_le, Bool, true, false, cond, IsTrue, Option, None, Some, List, [], ◌∷◌, ◌++◌, ◌⊎◌, inl, inr, map, length, drop, drop-cons, get_or, slice_get, count_by, refl, arith, ap, sym, ◌∙◌, subst}
use Rattle.std.specs.List.{Contains, IsDistinct, filter_map, cons_option}
use Rattle.std.specs.List.Sorted.{IsStrictlySortedBy}
use Rattle.std.specs.Ordering.{nat_cmp}
use Rattle.std.specs.Option.{option_map}
use Rattle.std.proofs.lemmas.List.{append_assoc}
use Rattle.std.proofs.lemmas.List.Kept.{IsStrictlySortedBy-filter}
use Rattle.std.proofs.lemmas.List.Sums.{length-filter, count_by-le-length}
use Rattle.road_map.specs.declared.parts.Node.{Node}
use Rattle.road_map.specs.declared.parts.Parts.{Parts}
use Rattle.road_map.specs.Walks.{ids, Knows, distance}
use Rattle.road_map.proofs.LeastLaws.{IsLeast-unique}
use Rattle.road_map.specs.Maps.{IsMap, IsById}
use Rattle.road_map.specs.Least.{IsLeast}
use Rattle.road_map.specs.Routes.{IsShortest}
use Rattle.road_map.proofs.Among.{place_at, Contains-map, Contains-from_map, Contains-none}
use Rattle.road_search.specs.Passing.{Ways, Reaches, IsLeastPassing}
use Rattle.road_search.specs.Nearness.{is_within}
use Rattle.road_leaf.specs.declared.pair.PairLeaf.{PairLeaf}
use Rattle.book_model.specs.declared.items.Query.{Query}
use Rattle.book_model.specs.declared.settings.Settings.{Settings}
use Rattle.book_model.specs.declared.settings.PlanError.TheVariants.{TooManyBorders}
use Rattle.book_model.specs.Nodes.{node_at}
use Rattle.book_model.specs.Orders.{by_id, neighbours}
use Rattle.book_model.specs.Cells.{cell_of, is_border}
use Rattle.book_model.specs.Pairs.{pairs_of}
use Rattle.book_model.specs.Books.{Hyp, Book, IsBookOf, borders, count_fault, leaf, leaf_by}
use Rattle.book_model.proofs.ById.{by_id-is, by_id-length, sorted_from, sorted_kept}
use Rattle.proof_method.specs.declared.found.Found.{Found}
use Rattle.proof_judge.specs.Apart.{Leads}
use Rattle.proof_judge.specs.ItemWalks.{inner_ways, marks}
use Rattle.proof_judge.proofs.Reaching.{Reaches-start}
use Rattle.proof_method.specs.Apart.{IsEnd, IsInnerWay, WantedApart, AreBordersApart, IsFoundApart}
use Rattle.proof_method.specs.Gathering.{Lists, Wanted, IsPairAt, IsWantedAt, IsFound, IsBorderPair, AreUnjoined}
use Rattle.proof_method.proofs.Picks.{picked_from, picked_to, kept_from, kept_to}
use Rattle.proof_judge.proofs.ItemLaws.{find_some}
use Rattle.method_books.specs.HypBooks.{hyp_book, cell_extra, with_length, IsInRow, IsWantedPlace, Adds, AddsAll}
use Rattle.method_books.proofs.HypLaws.{leaf_at_place}

same_number : (x y : ℕ) → nat_eq x y ≡ true → x ≡ y
same_number x y h = grind (arith, h)

-- ---- borders

pub border_known : (parts : Parts) (columns rows u : ℕ) → Contains (borders parts columns rows) u → Knows parts u
border_known parts columns rows u c = sorted_from (ids parts.nodes) u (kept_from (is_border (cell_of parts.nodes columns rows) (neighbours parts.roads)) (by_id parts.nodes) u c).0

pub borders_few : (parts : Parts) (columns rows : ℕ) → IsMap parts → length (borders parts columns rows) ≤ 65536
borders_few parts columns rows m =
    let same : length (borders parts columns rows) ≡ count_by (is_border (cell_of parts.nodes columns rows) (neighbours parts.roads)) (by_id parts.nodes) = length-filter (is_border (cell_of parts.nodes columns rows) (neighbours parts.roads)) (by_id parts.nodes) in
    let less : count_by (is_border (cell_of parts.nodes columns rows) (neighbours parts.roads)) (by_id parts.nodes) ≤ length (by_id parts.nodes) = count_by-le-length (is_border (cell_of parts.nodes columns rows) (neighbours parts.roads)) (by_id parts.nodes) in
    omega (arith, same, less, by_id-length parts.nodes, m.sized.1)

pub borders_sorted : (parts : Parts) (order : List Node) → IsMap parts → IsById parts.nodes order → (columns rows : ℕ) → IsStrictlySortedBy nat_cmp (borders parts columns rows)
borders_sorted parts order m by columns rows = IsStrictlySortedBy-filter nat_cmp (is_border (cell_of parts.nodes columns rows) (neighbours parts.roads)) (by_id parts.nodes) (subst (IsStrictlySortedBy nat_cmp) (sym (by_id-is parts order m by)) by.rising)

pub too_many : (parts : Parts) (s : Settings) (n : ℕ) → n ≡ length (borders parts s.p1 s.p2) → 2048 < n → count_fault Hyp parts s ≡ Some (TooManyBorders n)
too_many parts s n same more = by_test (nat_lt 2048 (length (borders parts s.p1 s.p2))) refl
  where
    by_test : (b : Bool) → nat_lt 2048 (length (borders parts s.p1 s.p2)) ≡ b → cond b (Some (TooManyBorders (length (borders parts s.p1 s.p2)))) None ≡ Some (TooManyBorders n)
    by_test true e = ap (λ k. Some (TooManyBorders k)) (sym same)
    by_test false e = absurd (grind (arith, e, same, more))

pub not_too_many : (parts : Parts) (s : Settings) (n : ℕ) → n ≡ length (borders parts s.p1 s.p2) → n ≤ 2048 → count_fault Hyp parts s ≡ None
not_too_many parts s n same few = by_test (nat_lt 2048 (length (borders parts s.p1 s.p2))) refl
  where
    by_test : (b : Bool) → nat_lt 2048 (length (borders parts s.p1 s.p2)) ≡ b → cond b (Some (TooManyBorders (length (borders parts s.p1 s.p2)))) None ≡ None
    by_test false e = refl
    by_test true e = absurd (grind (arith, e, same, few))

-- ---- lengths that are there

within_some : (most : ℕ) (o : Option ℕ) → IsTrue (is_within most o) → (e : ℕ) × (o ≡ Some e)
within_some most None h = cc
within_some most (Some e) h = (e, refl)

reach_of : (w : Ways) (from limit v e : ℕ) (o : Option ℕ) → IsLeastPassing w from limit v o → o ≡ Some e → Reaches w from limit v e
reach_of w from limit v e None h is = cc
reach_of w from limit v e (Some f) h is = let same : f ≡ e = cc in subst (Reaches w from limit v) same h.0

reach_within : (w : Ways) (from limit v e : ℕ) (o : Option ℕ) → IsLeastPassing w from limit v o → Reaches w from limit v e → IsTrue (is_within limit o)
reach_within w from limit v e None h r = absurd (h e r)
reach_within w from limit v e (Some f) h r = let below : f < limit = h.0.1.below in grind (arith, below)

-- an id with its length is one of those
pub with_is : (len : ℕ → Option ℕ) (xs : List ℕ) (b : ℕ × ℕ) → Contains (filter_map (with_length len) xs) b → Contains xs b.0 × (len b.0 ≡ Some b.1)
with_is len xs b c = let r = picked_from (with_length len) xs b c in by_length r.0 (len r.0) refl r.1 r.2
  where
    by_length : (x : ℕ) (o : Option ℕ) → len x ≡ o → Contains xs x → option_map (λ p. (x, p)) o ≡ Some b → Contains xs b.0 × (len b.0 ≡ Some b.1)
    by_length x None e c h = cc
    by_length x (Some p) e c h = let same : (x, p) ≡ b = (let s : Some (x, p) ≡ Some b = h in cc) in subst (λ (y : ℕ × ℕ). Contains xs y.0 × (len y.0 ≡ Some y.1)) same (c, e)

is_with : (len : ℕ → Option ℕ) (xs : List ℕ) (x p : ℕ) → Contains xs x → len x ≡ Some p → Contains (filter_map (with_length len) xs) (x, p)
is_with len xs x p c e = picked_to (with_length len) xs x (x, p) c (ap (option_map (λ (k : ℕ). (x, k))) e)

-- numbers that were added to none, in order
pub added_listed : (P : ℕ → Type 0) (old all v : List ℕ) → old ≡ [] → Lists (Contains all) v → Adds P old all → Lists P v
added_listed P old all v none lists adds = record {
  rising = lists.rising;
  same = λ n. (
    λ c. elim ((adds n).0 ((lists.same n).0 c)) [
      | inl o ↦ absurd (Contains-none n (subst (λ xs. Contains xs n) none o))
      | inr p ↦ p
    ],
    λ p. (lists.same n).1 ((adds n).1 (inr p)),
  );
}

-- the rows over the borders that were reached
pub rows_of : (pairs : List PairLeaf) (among : List ℕ) (near far : ℕ → Option ℕ) (most : ℕ) (xs ys : List (ℕ × ℕ)) (old new : List ℕ) → xs ≡ filter_map (with_length near) among → ys ≡ filter_map (with_length far) among → AddsAll (IsInRow pairs most ys) xs old new → Adds (IsWantedPlace pairs among near far most) old new
rows_of pairs among near far most xs ys old new e f h = subst (λ zs. Adds (λ n. (b : ℕ × ℕ) × Contains zs b × IsInRow pairs most (filter_map (with_length far) among) b n) old new) e (subst (λ zs. Adds (λ n. (b : ℕ × ℕ) × Contains xs b × IsInRow pairs most zs b n) old new) f h)

pub places_same : (pairs other : List PairLeaf) (among others : List ℕ) (near far : ℕ → Option ℕ) (most : ℕ) (places : List ℕ) → pairs ≡ other → among ≡ others → Lists (IsWantedPlace pairs among near far most) places → Lists (IsWantedPlace other others near far most) places
places_same pairs other among others near far most places e f h = subst (λ ps. Lists (IsWantedPlace ps others near far most) places) e (subst (λ xs. Lists (IsWantedPlace pairs xs near far most) places) f h)

module _ (parts : Parts) (order : List Node) (m : IsMap parts) (by : IsById parts.nodes order) (columns rows : ℕ) (pairs : List PairLeaf) where
  abbrev b : Book
  b = hyp_book parts columns rows pairs

  abbrev edge : ℕ → Bool
  edge u = is_border (cell_of parts.nodes columns rows) (neighbours parts.roads) u

  -- borders are marked
  border_marked : (u : ℕ) → Contains (borders parts columns rows) u → IsTrue (marks (leaf b u))
  border_marked u c =
      let k = kept_from edge (by_id parts.nodes) u c in
      let n = Contains-from_map (λ (n : Node). n.id) parts.nodes u (sorted_from (ids parts.nodes) u k.0) in
      let p : (p : ℕ) × (slice_get order p ≡ Some n.0) = place_at order n.0 ((by.same n.0).0 n.1) in
      ap marks (leaf_at_place parts order m by u p.0 n.0 p.1 n.2 (cell_extra parts columns rows)) ∙ (ap edge n.2 ∙ k.1)

  -- and what is marked is a border
  marked_border : (u : ℕ) → IsTrue (marks (leaf b u)) → Contains (borders parts columns rows) u
  marked_border u h = by_node (node_at parts.nodes u) refl h
    where
      by_node : (o : Option Node) → node_at parts.nodes u ≡ o → IsTrue (marks (option_map (leaf_by parts (cell_extra parts columns rows)) o)) → Contains (borders parts columns rows) u
      by_node None is h = cc
      by_node (Some n) is h =
          let f : Contains parts.nodes n × ((n.id == u) ≡ true) = find_some (λ (n : Node). n.id == u) parts.nodes n is in
          let same : n.id ≡ u = grind (arith, f.1) in
          kept_to edge (by_id parts.nodes) u (sorted_kept (ids parts.nodes) u (subst (Contains (ids parts.nodes)) same (Contains-map (λ (m : Node). m.id) parts.nodes n f.0))) (ap edge (sym same) ∙ h)

  pub found_hyp : (q : Query) (d : ℕ) (f : Found) (near far : ℕ → Option ℕ) (among : List ℕ) → among ≡ borders parts columns rows
      → IsShortest parts q.from q.to f.route d → IsDistinct nat_eq f.route
      → ((v : ℕ) → IsLeastPassing (inner_ways (leaf b)) q.from d v (near v)) → ((v : ℕ) → IsLeastPassing (inner_ways (leaf b)) q.to d v (far v))
      → Lists (λ id. Contains f.route id ⊎ IsTrue (is_within d (near id)) ⊎ IsTrue (is_within d (far id))) f.nodes
      → Lists (IsWantedPlace pairs among near far d) f.pairs → IsFound Hyp b q d f
  found_hyp q d f near far among all short distinct near_is far_is nodes places = record {
    shortest = short;
    distinct = distinct;
    nodes = record { rising = nodes.rising; same = λ id. (λ c. from_listed id ((nodes.same id).0 c), λ w. (nodes.same id).1 (to_listed id w)) };
    pairs = record { rising = places.rising; same = λ n. (λ c. to_wanted n ((places.same n).0 c), λ w. (places.same n).1 (from_wanted n w)) };
  }
    where
      from_listed : (id : ℕ) → Contains f.route id ⊎ IsTrue (is_within d (near id)) ⊎ IsTrue (is_within d (far id)) → Contains f.route id ⊎ Wanted Hyp b q f.route d id
      from_listed id (inl c) = inl c
      from_listed id (inr (inl n)) = let e = within_some d (near id) n in inr (inl (e.0, reach_of (inner_ways (leaf b)) q.from d id e.0 (near id) (near_is id) e.1))
      from_listed id (inr (inr n)) = let e = within_some d (far id) n in inr (inr (e.0, reach_of (inner_ways (leaf b)) q.to d id e.0 (far id) (far_is id) e.1))

      to_listed : (id : ℕ) → Contains f.route id ⊎ Wanted Hyp b q f.route d id → Contains f.route id ⊎ IsTrue (is_within d (near id)) ⊎ IsTrue (is_within d (far id))
      to_listed id (inl c) = inl c
      to_listed id (inr (inl r)) = inr (inl (reach_within (inner_ways (leaf b)) q.from d id r.0 (near id) (near_is id) r.1))
      to_listed id (inr (inr r)) = inr (inr (reach_within (inner_ways (leaf b)) q.to d id r.0 (far id) (far_is id) r.1))

      is_border_of : (u : ℕ) → Contains among u → IsTrue (marks (leaf b u))
      is_border_of u c = border_marked u (subst (λ xs. Contains xs u) all c)

      to_wanted : (n : ℕ) → IsWantedPlace pairs among near far d n → IsWantedAt Hyp b q d n
      to_wanted n w =
          let x = with_is near among w.0 w.1 in
          let y = with_is far among w.2.0 w.2.1 in
          let at = w.2.2 in
          record {
            pair = at.stands.0;
            stands = at.stands.1;
            x = w.0.0;
            y = w.2.0.0;
            wanted = record {
              p = w.0.1;
              r = w.2.0.1;
              differ = at.apart;
              near_mark = is_border_of w.0.0 x.0;
              far_mark = is_border_of w.2.0.0 y.0;
              near = subst (IsLeastPassing (inner_ways (leaf b)) q.from d w.0.0) x.1 (near_is w.0.0);
              far = subst (IsLeastPassing (inner_ways (leaf b)) q.to d w.2.0.0) y.1 (far_is w.2.0.0);
              below = at.below;
            };
            first = at.stands.2;
            second = at.stands.3;
          }

      from_wanted : (n : ℕ) → IsWantedAt Hyp b q d n → IsWantedPlace pairs among near far d n
      from_wanted n w =
          let i : IsBorderPair b q d w.x w.y = w.wanted in
          let p : near w.x ≡ Some i.p = IsLeast-unique (Reaches (inner_ways (leaf b)) q.from d w.x) (near w.x) (Some i.p) (near_is w.x) i.near in
          let r : far w.y ≡ Some i.r = IsLeast-unique (Reaches (inner_ways (leaf b)) q.to d w.y) (far w.y) (Some i.r) (far_is w.y) i.far in
          let among_x : Contains among w.x = subst (λ xs. Contains xs w.x) (sym all) (marked_border w.x i.near_mark) in
          let among_y : Contains among w.y = subst (λ xs. Contains xs w.y) (sym all) (marked_border w.y i.far_mark) in
          ((w.x, i.p), is_with near among w.x i.p among_x p, ((w.y, i.r), is_with far among w.y i.r among_y r, record { apart = i.differ; below = i.below; stands = (w.pair, w.stands, w.first, w.second) }))

  -- where no route exists: lengths of inner walks from an end, however long
  module _ (from : ℕ) (len : ℕ → Option ℕ) (least : (v : ℕ) → IsLeast (Leads (inner_ways (leaf b)) from v) (len v)) (low : (v d : ℕ) → len v ≡ Some d → d ≤ 65536 * 4294967295) where
    way_of : (id : ℕ) → IsTrue (is_within 18446744073709551615 (len id)) → IsInnerWay b from id
    way_of id n = let e = within_some 18446744073709551615 (len id) n in (e.0, (subst (IsLeast (Leads (inner_ways (leaf b)) from id)) e.1 (least id)).0)

    len_of : (id : ℕ) → IsInnerWay b from id → (p : ℕ) × (len id ≡ Some p)
    len_of id h = by_length (len id) refl (least id)
      where
        by_length : (o : Option ℕ) → len id ≡ o → IsLeast (Leads (inner_ways (leaf b)) from id) o → (p : ℕ) × (len id ≡ Some p)
        by_length None is none = absurd (none h.0 h.1)
        by_length (Some p) is l = (p, is)

    within_of : (id : ℕ) → IsInnerWay b from id → IsTrue (is_within 18446744073709551615 (len id))
    within_of id h = let l = len_of id h in let few : l.0 ≤ 65536 * 4294967295 = low id l.0 l.1 in subst (λ o. IsTrue (is_within 18446744073709551615 o)) (sym l.1) (is_most l.0 few)
      where
        is_most : (p : ℕ) → p ≤ 65536 * 4294967295 → IsTrue (nat_le p 18446744073709551615)
        is_most p few = grind (arith, few)

    -- an end leads to itself
    own_way : IsInnerWay b from from
    own_way = (0, Reaches-start (inner_ways (leaf b)) from 1 (omega arith))

  pub found_hyp_apart : (q : Query) (f : Found) (near far : ℕ → Option ℕ) (among : List ℕ) → AreUnjoined parts q → among ≡ borders parts columns rows → f.route ≡ []
      → ((v : ℕ) → IsLeast (Leads (inner_ways (leaf b)) q.from v) (near v)) → ((v : ℕ) → IsLeast (Leads (inner_ways (leaf b)) q.to v) (far v))
      → ((v d : ℕ) → near v ≡ Some d → d ≤ 65536 * 4294967295) → ((v d : ℕ) → far v ≡ Some d → d ≤ 65536 * 4294967295)
      → Lists (λ id. Contains f.route id ⊎ IsTrue (is_within 18446744073709551615 (near id)) ⊎ IsTrue (is_within 18446744073709551615 (far id))) f.nodes
      → Lists (IsWantedPlace pairs among near far 18446744073709551615) f.pairs → IsFoundApart Hyp b q f
  found_hyp_apart q f near far among unjoined all none near_is far_is near_low far_low nodes places = record {
    unjoined = unjoined;
    no_route = none;
    nodes = record { rising = nodes.rising; same = λ id. (λ c. from_listed id ((nodes.same id).0 c), λ w. (nodes.same id).1 (to_listed id w)) };
    pairs = record { rising = places.rising; same = λ n. (λ c. to_wanted n ((places.same n).0 c), λ w. (places.same n).1 (from_wanted n w)) };
  }
    where
      from_listed : (id : ℕ) → Contains f.route id ⊎ IsTrue (is_within 18446744073709551615 (near id)) ⊎ IsTrue (is_within 18446744073709551615 (far id)) → IsEnd q id ⊎ WantedApart Hyp b q id
      from_listed id (inl c) = absurd (Contains-none id (subst (λ xs. Contains xs id) none c))
      from_listed id (inr (inl n)) = inr (inl (way_of q.from near near_is near_low id n))
      from_listed id (inr (inr n)) = inr (inr (way_of q.to far far_is far_low id n))

      to_listed : (id : ℕ) → IsEnd q id ⊎ WantedApart Hyp b q id → Contains f.route id ⊎ IsTrue (is_within 18446744073709551615 (near id)) ⊎ IsTrue (is_within 18446744073709551615 (far id))
      to_listed id (inl (inl e)) = inr (inl (within_of q.from near near_is near_low id (subst (IsInnerWay b q.from) (sym e) (own_way q.from near near_is near_low))))
      to_listed id (inl (inr e)) = inr (inr (within_of q.to far far_is far_low id (subst (IsInnerWay b q.to) (sym e) (own_way q.to far far_is far_low))))
      to_listed id (inr (inl w)) = inr (inl (within_of q.from near near_is near_low id w))
      to_listed id (inr (inr w)) = inr (inr (within_of q.to far far_is far_low id w))

      is_border_of : (u : ℕ) → Contains among u → IsTrue (marks (leaf b u))
      is_border_of u c = border_marked u (subst (λ xs. Contains xs u) all c)

      to_wanted : (n : ℕ) → IsWantedPlace pairs among near far 18446744073709551615 n → IsPairAt (AreBordersApart b q) b n
      to_wanted n w =
          let x = with_is near among w.0 w.1 in
          let y = with_is far among w.2.0 w.2.1 in
          let at = w.2.2 in
          record {
            pair = at.stands.0;
            stands = at.stands.1;
            x = w.0.0;
            y = w.2.0.0;
            wanted = record {
              differ = at.apart;
              near_mark = is_border_of w.0.0 x.0;
              far_mark = is_border_of w.2.0.0 y.0;
              near = (w.0.1, (subst (IsLeast (Leads (inner_ways (leaf b)) q.from w.0.0)) x.1 (near_is w.0.0)).0);
              far = (w.2.0.1, (subst (IsLeast (Leads (inner_ways (leaf b)) q.to w.2.0.0)) y.1 (far_is w.2.0.0)).0);
            };
            first = at.stands.2;
            second = at.stands.3;
          }

      from_wanted : (n : ℕ) → IsPairAt (AreBordersApart b q) b n → IsWantedPlace pairs among near far 18446744073709551615 n
      from_wanted n w =
          let i : AreBordersApart b q w.x w.y = w.wanted in
          let p : (p : ℕ) × (near w.x ≡ Some p) = len_of q.from near near_is near_low w.x i.near in
          let r : (r : ℕ) × (far w.y ≡ Some r) = len_of q.to far far_is far_low w.y i.far in
          let among_x : Contains among w.x = subst (λ xs. Contains xs w.x) (sym all) (marked_border w.x i.near_mark) in
          let among_y : Contains among w.y = subst (λ xs. Contains xs w.y) (sym all) (marked_border w.y i.far_mark) in
          ((w.x, p.0), is_with near among w.x p.0 among_x p.1, ((w.y, r.0), is_with far among w.y r.0 among_y r.1, record { apart = i.differ; below = omega (arith, near_low w.x p.0 p.1, far_low w.y r.0 r.1); stands = (w.pair, w.stands, w.first, w.second) }))

-- ---- settings

pub borders_same : (parts : Parts) (c d r s : ℕ) → c ≡ d → r ≡ s → borders parts c r ≡ borders parts d s
borders_same parts c d r s e f = ap (λ k. borders parts k r) e ∙ ap (borders parts d) f

-- ---- the book of a table over the grid's borders

pub hyp_planned : (parts : Parts) (s : Settings) (order : List ℕ) (columns rows : ℕ) (ids : List ℕ) (pairs : List PairLeaf) → columns ≡ s.p1 → rows ≡ s.p2 → ids ≡ borders parts columns rows → pairs ≡ pairs_of (distance parts) ids → IsBookOf Hyp parts s order (hyp_book parts columns rows pairs)
hyp_planned parts s order columns rows ids pairs c r drawn table = record {
  of_parts = refl;
  adds = ap (λ (k : ℕ). map (cell_extra parts k rows) order) c ∙ ap (λ (k : ℕ). map (cell_extra parts s.p1 k) order) r;
  has_pairs = table ∙ ap (pairs_of (distance parts)) (drawn ∙ borders_same parts columns s.p1 rows s.p2 c r);
  first = c;
  second = r;
}

-- ---- the ids that have a length, one after the other

cut : (ids : List ℕ) (i : ℕ) → i < length ids → drop i ids ≡ get_or ids i 0 ∷ drop (i + 1) ids
cut ids i within = let k : suc i ≡ i + 1 = omega arith in subst (λ (j : ℕ). drop i ids ≡ get_or ids i 0 ∷ drop j ids) k (drop-cons ids i 0 within)

kept_at : (h : ℕ → Option (ℕ × ℕ)) (ids : List ℕ) (i : ℕ) (o : Option (ℕ × ℕ)) → i < length ids → h (get_or ids i 0) ≡ o → filter_map h (drop i ids) ≡ cons_option o (filter_map h (drop (i + 1) ids))
kept_at h ids i o within is = ap (filter_map h) (cut ids i within) ∙ ap (λ (p : Option (ℕ × ℕ)). cons_option p (filter_map h (drop (i + 1) ids))) is

pub one_kept : (h : ℕ → Option (ℕ × ℕ)) (ids : List ℕ) (i : ℕ) (old new all : List (ℕ × ℕ)) (e : ℕ × ℕ) → i < length ids → h (get_or ids i 0) ≡ Some e → new ≡ old ++ e ∷ [] → old ++ filter_map h (drop i ids) ≡ all → new ++ filter_map h (drop (i + 1) ids) ≡ all
one_kept h ids i old new all e within is pushed before =
    let rest : List (ℕ × ℕ) = filter_map h (drop (i + 1) ids) in
    ap (λ (l : List (ℕ × ℕ)). l ++ rest) pushed ∙ (append_assoc old (e ∷ []) rest ∙ (ap (λ (l : List (ℕ × ℕ)). old ++ l) (sym (kept_at h ids i (Some e) within is)) ∙ before))

pub none_kept : (h : ℕ → Option (ℕ × ℕ)) (ids : List ℕ) (i : ℕ) (old all : List (ℕ × ℕ)) → i < length ids → h (get_or ids i 0) ≡ None → old ++ filter_map h (drop i ids) ≡ all → old ++ filter_map h (drop (i + 1) ids) ≡ all
none_kept h ids i old all within is before = ap (λ (l : List (ℕ × ℕ)). old ++ l) (sym (kept_at h ids i None within is)) ∙ before
