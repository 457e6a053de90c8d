-- A search over the net of a map, with its results converted to ids.
use Rattle.std.proofs.Common.{◌≡◌, ℕ, nat_eq, Bool, true, false, Option, None, Some, IfSome, IsSome, List, ◌⊎◌, inl, inr, map, slice_get, refl, arith, ap, sym, subst}
use Rattle.std.specs.List.{Contains, list_any}
use Rattle.std.specs.Option.{option_map}
use Rattle.std.proofs.lemmas.Map.Views.{Contains-from_any}
use Rattle.road_map.specs.declared.arc.Arc.{Arc}
use Rattle.road_map.specs.declared.parts.Node.{Node}
use Rattle.road_map.specs.declared.parts.Parts.{Parts}
use Rattle.road_map.specs.Least.{IsLeast}
use Rattle.road_map.specs.Walks.{ids, Knows, Joins, distance}
use Rattle.road_map.specs.Laws.{DistanceLaws}
use Rattle.road_map.specs.Maps.{IsMap, IsById}
use Rattle.road_map.specs.Nets.{IsPlace, IsNet}
use Rattle.road_map.proofs.Among.{place_at, Contains-from_map}
use Rattle.road_map.proofs.ChartLaws.{roads_known}
use Rattle.road_search.specs.declared.marks.Mark.{Mark}
use Rattle.road_search.specs.Passing.{IsLeastPassing}
use Rattle.road_search.specs.Nearness.{below}
use Rattle.road_search.specs.declared.label.Label.{Label}
use Rattle.road_search.specs.Listing.{listed}
use Rattle.road_search.specs.Labelling.{Found, length_in, route_in, length_at, IsWay}
use Rattle.road_search.specs.OverMap.{map_ways}
use Rattle.road_search.specs.Nets.{net_ways, id_at, AreNamed}
use Rattle.road_search.proofs.OverMapLaws.{reaches_joins, joined_known}
use Rattle.road_search.proofs.WholeMapLaws.{known_at, unknown}
use Rattle.road_search.proofs.NetLaws.{known, least_map, way_map, way_placed}
use Rattle.road_search.proofs.NamingLaws.{length_named, length_other, route_named}

same_number : (x y : ℕ) → nat_eq x y ≡ true → x ≡ y
same_number x y h = grind (arith, h)

-- an id has a position, or has none
pub place_or_not : (parts : Parts) (order : List Node) → IsById parts.nodes order → (id : ℕ) → ((p : ℕ) × IsPlace order id p) ⊎ ((Knows parts id → ⊥) × ((p : ℕ) → IsPlace order id p → ⊥))
place_or_not parts order by id = by_any (list_any (nat_eq id) (ids parts.nodes)) refl
  where
    by_any : (b : Bool) → list_any (nat_eq id) (ids parts.nodes) ≡ b → ((p : ℕ) × IsPlace order id p) ⊎ ((Knows parts id → ⊥) × ((p : ℕ) → IsPlace order id p → ⊥))
    by_any true e = inl (
        let n : (n : Node) × Contains parts.nodes n × (n.id ≡ id) = Contains-from_map (λ (m : Node). m.id) parts.nodes id (Contains-from_any same_number id (ids parts.nodes) e) in
        let p : (p : ℕ) × (slice_get order p ≡ Some n.0) = place_at order n.0 ((by.same n.0).0 n.1) in
        (p.0, (n.0, p.1, n.2)))
    by_any false e = inr (unknown parts.nodes id e, λ p at. unknown parts.nodes id e (known_at parts.nodes order id p at.0 by at.1 at.2))

-- no walk leads to an id that no node has
pub no_end : (parts : Parts) → IsMap parts → DistanceLaws parts → (s t : ℕ) → (Knows parts t → ⊥) → distance parts s t ≡ None
no_end parts m laws s t none = by_distance (distance parts s t) (laws.least s t)
  where
    by_distance : (o : Option ℕ) → IsLeast (Joins parts s t) o → o ≡ None
    by_distance None h = refl
    by_distance (Some d) h = absurd (none (joined_known parts (roads_known parts m.joined) s t d h.0))

module _ (parts : Parts) (order : List Node) (rows : List (List Arc)) (m : IsMap parts) (by : IsById parts.nodes order) (net : IsNet parts order rows) (f g : ℕ → Option Mark) (h : AreNamed order f g) (s t start end bound : ℕ) (from : IsPlace order s start) (to : IsPlace order t end) where
  -- the lengths of a search over the net are those of one over the map
  pub named_lengths : ((q : ℕ) → IsLeastPassing (net_ways rows) start bound q (below bound (length_in f q))) → (v : ℕ) → IsLeastPassing (map_ways parts) s bound v (below bound (length_in g v))
  named_lengths lengths v = elim (place_or_not parts order by v) [
    | inl at ↦ subst (λ o. IsLeastPassing (map_ways parts) s bound v (below bound o)) (sym (length_named order f g h v at.0 at.1)) (least_map parts order rows m by net s v start at.0 bound (below bound (length_in f at.0)) from at.1 (lengths at.0))
    | inr none ↦ subst (λ o. IsLeastPassing (map_ways parts) s bound v (below bound o)) (sym (length_other order f g h v none.1)) (λ d r. none.0 (joined_known parts (roads_known parts m.joined) s v d (reaches_joins parts s bound v d (known parts order rows m by net s start from) r)))
  ]

  -- and so is the route to the end
  pub named_route : IfSome (route_in f end) (IsWay (net_ways rows) start bound end (length_in f end)) → IfSome (route_in g t) (IsWay (map_ways parts) s bound t (length_in g t))
  named_route way = subst (λ r. IfSome r (IsWay (map_ways parts) s bound t (length_in g t))) (sym same) (by_route (route_in f end) way)
    where
      by_route : (r : Option (List ℕ)) → IfSome r (IsWay (net_ways rows) start bound end (length_in f end)) → IfSome (option_map (map (id_at order)) r) (IsWay (map_ways parts) s bound t (length_in g t))
      by_route None w = tt
      by_route (Some route) w = subst (λ o. IsWay (map_ways parts) s bound t o (map (id_at order) route)) (sym (length_named order f g h t end to)) (way_map parts order rows m by net s t start end bound (length_in f end) route from to w)

      same : route_in g t ≡ option_map (map (id_at order)) (route_in f end)
      same = route_named order f g h t end to (λ route is x c. way_placed parts order rows m by net s start end bound (length_in f end) route from (subst (λ r. IfSome r (IsWay (net_ways rows) start bound end (length_in f end))) is way) x c)

  pub named_end : below bound (length_in f end) ≡ length_in f end → below bound (length_in g t) ≡ length_in g t
  named_end e = subst (λ o. below bound o ≡ o) (sym (length_named order f g h t end to)) e

  pub named_whole : (limit : ℕ) → (bound ≡ limit) ⊎ IsSome (length_in f end) → (bound ≡ limit) ⊎ IsSome (length_in g t)
  named_whole limit e = subst (λ o. (bound ≡ limit) ⊎ IsSome o) (sym (length_named order f g h t end to)) e

-- an id without a mark has no length
pub no_length : (found : Found) (id : ℕ) → listed found.labels id ≡ None → length_at found id ≡ None
no_length found id none = ap (λ o. option_map (λ (l : Label). l.length) (option_map (λ (m : Mark). m.label) o)) none

-- an id without a position is unknown
pub place_known : (parts : Parts) (order : List Node) → IsById parts.nodes order → (id : ℕ) → ((p : ℕ) → IsPlace order id p → ⊥) → Knows parts id → ⊥
place_known parts order by id none here = elim (place_or_not parts order by id) [ inl at ↦ none at.0 at.1 | inr h ↦ h.0 here ]
