use Rattle.std.proofs.Common.{◌≡◌, ◌<◌, None, Some, IfSome, lit≤, sym, ◌∙◌, ap, subst, arith}
use Rattle.std.specs.Option.{option_map}
use Rattle.road_search.specs.declared.label.Label.{Label}
use Rattle.road_search.specs.declared.marks.Mark.{Mark}
use Rattle.road_search.specs.OverMap.{IsShortestWay}
use Rattle.road_search.specs.Listing.{listed}
use Rattle.road_search.specs.Labelling.{length_at, route_at, label_at, way_to}
use Rattle.road_search.specs.Nearness.{below}
use Rattle.road_search.specs.Pages.{paged}
use Rattle.road_search.proofs.WholeMapLaws.{end_same, end_ways, near_same, below_is}
use Rattle.road_search.proofs.NamedSearch.{named_lengths, named_route, named_end, named_whole, no_end, no_length, place_known}
use Rattle.road_search.proofs.over_map.distances_by_position.Goals as goal

-- ---- an end that no node has

pub returns-in_default : goal.returns-in_default
returns-in_default c =
    let none : length_at c.in_ok-none.none c.args.to ≡ None = no_length c.in_ok-none.none c.args.to (c.in_ok-none.ensures.labels c.args.to) in
    let away : route_at c.in_ok-none.none c.args.to ≡ None = ap (λ o. option_map (λ (l : Label). way_to (label_at c.in_ok-none.none.labels) l.hops c.args.to) (option_map (λ (m : Mark). m.label) o)) (c.in_ok-none.ensures.labels c.args.to) in
    record {
      end = no_length c.in_ok-none.none c.args.to (c.in_ok-none.ensures.labels c.args.to)
          ∙ sym (no_end c.args.map.now.parts c.parts-parts.ensures.is_map (c.map_laws.ensures.distances c.args.map.now.parts c.parts-parts.ensures.is_map) c.args.from c.args.to (place_known c.args.map.now.parts c.args.map.now.order c.parts-parts.ensures.by_id c.args.to (λ p at. c.in_default.ensures.none p at.0 at.1 at.2)));
      route = subst (λ o. IfSome o (IsShortestWay c.args.map.now.parts c.args.from c.args.to (length_at c.in_ok-none.none c.args.to))) (sym away) tt;
      near = λ v d most is le. absurd (let bad : None ≡ Some most = sym none ∙ is in cc);
      missing = c.in_ok-none.ensures.missing;
    }

-- ---- an end that a node has

pub returns : goal.returns
returns c = record {
  end = end_same c.args.map.now.parts c.parts-parts.ensures.is_map (c.map_laws.ensures.distances c.args.map.now.parts c.parts-parts.ensures.is_map) c.args.from c.in_ok-_bound._bound 18446744073709551615 c.args.to (length_at c.new.result c.args.to) c.requires (lit≤ tt) c.in_ok-_bound.ensures.least (rw c.new.ensures.labels (named_whole c.args.map.now.parts c.args.map.now.order c.net-net.result.now c.parts-parts.ensures.is_map c.parts-parts.ensures.by_id c.net-net.ensures (paged c.search_to.new.marks.pages) (listed c.in_ok-found.found) c.in_ok-found.ensures c.args.from c.args.to c.place-start.result c.in-Some.end c.in_ok-_bound._bound c.place-start.ensures.place c.in-Some.ensures.found 18446744073709551615 c.in_ok-_bound.ensures.whole)) (rw c.new.ensures.labels ((named_lengths c.args.map.now.parts c.args.map.now.order c.net-net.result.now c.parts-parts.ensures.is_map c.parts-parts.ensures.by_id c.net-net.ensures (paged c.search_to.new.marks.pages) (listed c.in_ok-found.found) c.in_ok-found.ensures c.args.from c.args.to c.place-start.result c.in-Some.end c.in_ok-_bound._bound c.place-start.ensures.place c.in-Some.ensures.found c.in_ok-_bound.ensures.lengths) c.args.to)) (rw c.new.ensures.labels (named_end c.args.map.now.parts c.args.map.now.order c.net-net.result.now c.parts-parts.ensures.is_map c.parts-parts.ensures.by_id c.net-net.ensures (paged c.search_to.new.marks.pages) (listed c.in_ok-found.found) c.in_ok-found.ensures c.args.from c.args.to c.place-start.result c.in-Some.end c.in_ok-_bound._bound c.place-start.ensures.place c.in-Some.ensures.found c.in_ok-_bound.ensures.end));
  route = end_ways c.args.map.now.parts c.parts-parts.ensures.is_map c.args.from c.in_ok-_bound._bound 18446744073709551615 c.args.to (length_at c.new.result c.args.to) (route_at c.new.result c.args.to) c.requires (lit≤ tt) c.in_ok-_bound.ensures.least (rw c.new.ensures.labels (named_whole c.args.map.now.parts c.args.map.now.order c.net-net.result.now c.parts-parts.ensures.is_map c.parts-parts.ensures.by_id c.net-net.ensures (paged c.search_to.new.marks.pages) (listed c.in_ok-found.found) c.in_ok-found.ensures c.args.from c.args.to c.place-start.result c.in-Some.end c.in_ok-_bound._bound c.place-start.ensures.place c.in-Some.ensures.found 18446744073709551615 c.in_ok-_bound.ensures.whole)) (rw c.new.ensures.labels ((named_lengths c.args.map.now.parts c.args.map.now.order c.net-net.result.now c.parts-parts.ensures.is_map c.parts-parts.ensures.by_id c.net-net.ensures (paged c.search_to.new.marks.pages) (listed c.in_ok-found.found) c.in_ok-found.ensures c.args.from c.args.to c.place-start.result c.in-Some.end c.in_ok-_bound._bound c.place-start.ensures.place c.in-Some.ensures.found c.in_ok-_bound.ensures.lengths) c.args.to)) (rw c.new.ensures.labels (named_end c.args.map.now.parts c.args.map.now.order c.net-net.result.now c.parts-parts.ensures.is_map c.parts-parts.ensures.by_id c.net-net.ensures (paged c.search_to.new.marks.pages) (listed c.in_ok-found.found) c.in_ok-found.ensures c.args.from c.args.to c.place-start.result c.in-Some.end c.in_ok-_bound._bound c.place-start.ensures.place c.in-Some.ensures.found c.in_ok-_bound.ensures.end)) (rw c.new.ensures.labels (named_route c.args.map.now.parts c.args.map.now.order c.net-net.result.now c.parts-parts.ensures.is_map c.parts-parts.ensures.by_id c.net-net.ensures (paged c.search_to.new.marks.pages) (listed c.in_ok-found.found) c.in_ok-found.ensures c.args.from c.args.to c.place-start.result c.in-Some.end c.in_ok-_bound._bound c.place-start.ensures.place c.in-Some.ensures.found c.in_ok-_bound.ensures.route));
  near = λ v d most is le.
      let same : below c.in_ok-_bound._bound (length_at c.new.result c.args.to) ≡ length_at c.new.result c.args.to = rw c.new.ensures.labels (named_end c.args.map.now.parts c.args.map.now.order c.net-net.result.now c.parts-parts.ensures.is_map c.parts-parts.ensures.by_id c.net-net.ensures (paged c.search_to.new.marks.pages) (listed c.in_ok-found.found) c.in_ok-found.ensures c.args.from c.args.to c.place-start.result c.in-Some.end c.in_ok-_bound._bound c.place-start.ensures.place c.in-Some.ensures.found c.in_ok-_bound.ensures.end) in
      let short : most < c.in_ok-_bound._bound = (below_is c.in_ok-_bound._bound (length_at c.new.result c.args.to) most (same ∙ is)).1 in
      near_same c.args.map.now.parts c.parts-parts.ensures.is_map (c.map_laws.ensures.distances c.args.map.now.parts c.parts-parts.ensures.is_map) c.args.from c.in_ok-_bound._bound 18446744073709551615 v d (length_at c.new.result v) c.requires (lit≤ tt) c.in_ok-_bound.ensures.least (omega (arith, le, short)) (rw c.new.ensures.labels ((named_lengths c.args.map.now.parts c.args.map.now.order c.net-net.result.now c.parts-parts.ensures.is_map c.parts-parts.ensures.by_id c.net-net.ensures (paged c.search_to.new.marks.pages) (listed c.in_ok-found.found) c.in_ok-found.ensures c.args.from c.args.to c.place-start.result c.in-Some.end c.in_ok-_bound._bound c.place-start.ensures.place c.in-Some.ensures.found c.in_ok-_bound.ensures.lengths) v));
  missing = c.new.ensures.missing;
}
