-- A search from position to position of a map, for one end.
use Rattle.std.proofs.Common.{◌≡◌, ℕ, nat_eq, ◌≤◌, ◌⊎◌, Option, None, Some, IfSome, IsSome, List, map, lit≤, ap, sym, ◌∙◌, subst}
use Rattle.std.specs.List.{IsDistinct}
use Rattle.std.specs.Option.{option_map}
use Rattle.road_map.specs.declared.arc.Arc.{Arc}
use Rattle.road_map.specs.declared.parts.Node.{Node}
use Rattle.road_map.specs.declared.parts.Parts.{Parts}
use Rattle.road_map.specs.Laws.{DistanceLaws}
use Rattle.road_map.specs.Maps.{IsMap, IsById}
use Rattle.road_map.specs.Nets.{IsPlace, IsNet}
use Rattle.road_map.specs.Routes.{IsShortest}
use Rattle.road_map.specs.Walks.{Knows, distance}
use Rattle.road_search.specs.declared.label.Label.{Label}
use Rattle.road_search.specs.declared.marks.Mark.{Mark}
use Rattle.road_search.specs.Labelling.{length_in, route_in, way_to, IsWay}
use Rattle.road_search.specs.Marking.{label_in}
use Rattle.road_search.specs.Nearness.{below}
use Rattle.road_search.specs.Nets.{net_ways, id_at}
use Rattle.road_search.specs.OverMap.{map_ways, IsShortestWay}
use Rattle.road_search.specs.Passing.{IsLeastPassing}
use Rattle.road_search.proofs.NetLaws.{least_map, way_map}
use Rattle.road_search.proofs.WholeMapLaws.{end_same, end_ways}

module _ (parts : Parts) (order : List Node) (rows : List (List Arc)) (m : IsMap parts) (by : IsById parts.nodes order) (net : IsNet parts order rows) (laws : DistanceLaws parts) (f : ℕ → Option Mark) (s t start end bound : ℕ) (known : Knows parts s) (from : IsPlace order s start) (to : IsPlace order t end) (low : bound ≤ 18446744073709551615) (whole : (bound ≡ 18446744073709551615) ⊎ IsSome (length_in f end)) (here : IsLeastPassing (net_ways rows) start bound end (below bound (length_in f end))) (same : below bound (length_in f end) ≡ length_in f end) where
  least : IsLeastPassing (map_ways parts) s bound t (below bound (length_in f end))
  least = least_map parts order rows m by net s t start end bound (below bound (length_in f end)) from to here

  -- the length of the end is its distance
  pub length_placed : length_in f end ≡ distance parts s t
  length_placed = end_same parts m laws s bound 18446744073709551615 t (length_in f end) known (lit≤ tt) low whole least same

  by_route : (r : Option (List ℕ)) → IfSome r (IsWay (net_ways rows) start bound end (length_in f end)) → IfSome (option_map (map (id_at order)) r) (IsWay (map_ways parts) s bound t (length_in f end))
  by_route None w = tt
  by_route (Some route) w = way_map parts order rows m by net s t start end bound (length_in f end) route from to w

  -- and the route to it, by ids, is a shortest route
  pub way_placed_is_shortest : (mark : Mark) → Some mark ≡ f end → IfSome (route_in f end) (IsWay (net_ways rows) start bound end (length_in f end)) → IsShortest parts s t (map (id_at order) (way_to (label_in f) mark.label.hops end)) mark.label.length
  way_placed_is_shortest mark is way =
      let way_is : route_in f end ≡ Some (way_to (label_in f) mark.label.hops end) = ap (λ o. option_map (λ (l : Label). way_to (label_in f) l.hops end) (option_map (λ (m : Mark). m.label) o)) (sym is) in
      let length_is : length_in f end ≡ Some mark.label.length = ap (λ o. option_map (λ (l : Label). l.length) (option_map (λ (m : Mark). m.label) o)) (sym is) in
      let found : IfSome (option_map (map (id_at order)) (route_in f end)) (IsShortestWay parts s t (length_in f end)) = end_ways parts m s bound 18446744073709551615 t (length_in f end) (option_map (map (id_at order)) (route_in f end)) known (lit≤ tt) low whole least same (by_route (route_in f end) way) in
      let shortest : IsShortestWay parts s t (length_in f end) (map (id_at order) (way_to (label_in f) mark.label.hops end)) = subst (λ r. IfSome (option_map (map (id_at order)) r) (IsShortestWay parts s t (length_in f end))) way_is found in
      let long : Some shortest.d ≡ Some mark.label.length = sym shortest.long ∙ length_is in
      let equal : shortest.d ≡ mark.label.length = cc in
      subst (IsShortest parts s t (map (id_at order) (way_to (label_in f) mark.label.hops end))) equal shortest.shortest

  -- no id occurs twice on it
  pub way_placed_is_distinct : (mark : Mark) → Some mark ≡ f end → IfSome (route_in f end) (IsWay (net_ways rows) start bound end (length_in f end)) → IsDistinct nat_eq (map (id_at order) (way_to (label_in f) mark.label.hops end))
  way_placed_is_distinct mark is way =
      let way_is : route_in f end ≡ Some (way_to (label_in f) mark.label.hops end) = ap (λ o. option_map (λ (l : Label). way_to (label_in f) l.hops end) (option_map (λ (m : Mark). m.label) o)) (sym is) in
      let found : IfSome (option_map (map (id_at order)) (route_in f end)) (IsShortestWay parts s t (length_in f end)) = end_ways parts m s bound 18446744073709551615 t (length_in f end) (option_map (map (id_at order)) (route_in f end)) known (lit≤ tt) low whole least same (by_route (route_in f end) way) in
      let shortest : IsShortestWay parts s t (length_in f end) (map (id_at order) (way_to (label_in f) mark.label.hops end)) = subst (λ r. IfSome (option_map (map (id_at order)) r) (IsShortestWay parts s t (length_in f end))) way_is found in
      shortest.distinct
