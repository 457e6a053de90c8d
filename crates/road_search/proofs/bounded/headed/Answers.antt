use Rattle.std.proofs.Common.{◌≡◌, ◌≤◌, ℕ, Option, None, Some, is_some, inr, arith, ◌∙◌, ap, sym}
use Rattle.std.specs.Option.{option_map}
use Rattle.road_search.specs.declared.label.Label.{Label}
use Rattle.road_search.specs.declared.marks.Mark.{Mark}
use Rattle.road_search.specs.Labelling.{length_in, route_in}
use Rattle.road_search.specs.Nearness.{below}
use Rattle.road_search.specs.Pages.{paged}
use Rattle.road_search.proofs.HeadedLaws.{least_net, ways_net, far_end}
use Rattle.road_search.proofs.NamedSearch.{no_end, place_known}
use Rattle.road_search.proofs.PlacedWays.{way_placed_is_shortest, way_placed_is_distinct}
use Rattle.road_search.proofs.bounded.headed.Goals as goal

-- an end that no node has
pub returns-in_default-clause-none : goal.returns-in_default-clause-none
returns-in_default-clause-none g c = λ d is.
    let map = c.args.map.now in
    absurd (let bad : None ≡ Some d = sym (no_end map.parts c.parts-parts.ensures.is_map (c.map_laws.ensures.distances map.parts c.parts-parts.ensures.is_map) c.args.from c.args.to (place_known map.parts map.order c.parts-parts.ensures.by_id c.args.to (λ p at. c.in_default.ensures.none p at.0 at.1 at.2))) ∙ is in cc)

-- an end to which no goal-directed walk leads
pub returns-in_default-at-clause-none : goal.returns-in_default-at-clause-none
returns-in_default-at-clause-none g c = λ d is.
    let map = c.args.map.now in
    let found = c.in_ok-_bound.ensures in
    let f : ℕ → Option Mark = paged c.search_to.new.marks.pages in
    far_end map.parts map.order c.net-net.result.now c.parts-parts.ensures.is_map c.parts-parts.ensures.by_id c.net-net.ensures (c.map_laws.ensures.distances map.parts c.parts-parts.ensures.is_map) (g.B.Bound.bound c.args.bounds.now) c.args.to c.in-Some.end c.args.limit c.in-Some.ensures.found c.requires.low c.args.from c.place-start.result c.in_ok-_bound._bound d (length_in f c.in-Some.end) c.place-start.ensures.place c.requires.known found.least found.whole (ap (λ o. option_map (λ (l : Label). l.length) (option_map (λ (m : Mark). m.label) o)) (sym c.in_default-at.ensures)) (found.lengths c.in-Some.end) is

-- an end to which a walk leads
pub returns-clause-route : goal.returns-clause-route
returns-clause-route g c =
    let map = c.args.map.now in
    let found = c.in_ok-_bound.ensures in
    let f : ℕ → Option Mark = paged c.search_to.new.marks.pages in
    let long : length_in f c.in-Some.end ≡ Some c.in-Some-at.mark.label.length = ap (λ o. option_map (λ (l : Label). l.length) (option_map (λ (m : Mark). m.label) o)) (sym c.in-Some-at.ensures) in
    let low : c.in_ok-_bound._bound ≤ 18446744073709551615 = omega (arith, found.least, c.ranges.limit.fits) in
    rw (c.from_vec.ensures, c.in_ok-route.ensures, c.as_slice.ensures.value, c.in_ok-way.ensures)
    (way_placed_is_shortest map.parts map.order c.net-net.result.now c.parts-parts.ensures.is_map c.parts-parts.ensures.by_id c.net-net.ensures (c.map_laws.ensures.distances map.parts c.parts-parts.ensures.is_map) f c.args.from c.args.to c.place-start.result c.in-Some.end c.in_ok-_bound._bound c.requires.known c.place-start.ensures.place c.in-Some.ensures.found low (inr (ap is_some long)) (least_net map.parts map.order c.net-net.result.now c.parts-parts.ensures.is_map c.parts-parts.ensures.by_id c.net-net.ensures (c.map_laws.ensures.distances map.parts c.parts-parts.ensures.is_map) (g.B.Bound.bound c.args.bounds.now) c.args.to c.in-Some.end c.args.limit c.in-Some.ensures.found c.requires.low c.args.from c.place-start.result c.in_ok-_bound._bound (below c.in_ok-_bound._bound (length_in f c.in-Some.end)) c.place-start.ensures.place found.least (found.lengths c.in-Some.end)) found.end c.in-Some-at.mark c.in-Some-at.ensures (ways_net map.parts map.order c.net-net.result.now c.parts-parts.ensures.is_map c.parts-parts.ensures.by_id c.net-net.ensures (c.map_laws.ensures.distances map.parts c.parts-parts.ensures.is_map) (g.B.Bound.bound c.args.bounds.now) c.args.to c.in-Some.end c.args.limit c.in-Some.ensures.found c.requires.low c.place-start.result c.in_ok-_bound._bound (length_in f c.in-Some.end) (route_in f c.in-Some.end) found.route))

pub returns-clause-distinct : goal.returns-clause-distinct
returns-clause-distinct g c =
    let map = c.args.map.now in
    let found = c.in_ok-_bound.ensures in
    let f : ℕ → Option Mark = paged c.search_to.new.marks.pages in
    let long : length_in f c.in-Some.end ≡ Some c.in-Some-at.mark.label.length = ap (λ o. option_map (λ (l : Label). l.length) (option_map (λ (m : Mark). m.label) o)) (sym c.in-Some-at.ensures) in
    let low : c.in_ok-_bound._bound ≤ 18446744073709551615 = omega (arith, found.least, c.ranges.limit.fits) in
    rw (c.from_vec.ensures, c.in_ok-route.ensures, c.as_slice.ensures.value, c.in_ok-way.ensures)
    (way_placed_is_distinct map.parts map.order c.net-net.result.now c.parts-parts.ensures.is_map c.parts-parts.ensures.by_id c.net-net.ensures (c.map_laws.ensures.distances map.parts c.parts-parts.ensures.is_map) f c.args.from c.args.to c.place-start.result c.in-Some.end c.in_ok-_bound._bound c.requires.known c.place-start.ensures.place c.in-Some.ensures.found low (inr (ap is_some long)) (least_net map.parts map.order c.net-net.result.now c.parts-parts.ensures.is_map c.parts-parts.ensures.by_id c.net-net.ensures (c.map_laws.ensures.distances map.parts c.parts-parts.ensures.is_map) (g.B.Bound.bound c.args.bounds.now) c.args.to c.in-Some.end c.args.limit c.in-Some.ensures.found c.requires.low c.args.from c.place-start.result c.in_ok-_bound._bound (below c.in_ok-_bound._bound (length_in f c.in-Some.end)) c.place-start.ensures.place found.least (found.lengths c.in-Some.end)) found.end c.in-Some-at.mark c.in-Some-at.ensures (ways_net map.parts map.order c.net-net.result.now c.parts-parts.ensures.is_map c.parts-parts.ensures.by_id c.net-net.ensures (c.map_laws.ensures.distances map.parts c.parts-parts.ensures.is_map) (g.B.Bound.bound c.args.bounds.now) c.args.to c.in-Some.end c.args.limit c.in-Some.ensures.found c.requires.low c.place-start.result c.in_ok-_bound._bound (length_in f c.in-Some.end) (route_in f c.in-Some.end) found.route))
