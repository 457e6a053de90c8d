use Rattle.std.proofs.Common.{◌∙◌, ap, sym}
use Rattle.std.specs.Option.{option_map}
use Rattle.road_search.specs.declared.label.Label.{Label}
use Rattle.road_search.specs.declared.marks.Mark.{Mark}
use Rattle.road_search.specs.Pages.{paged}
use Rattle.road_search.proofs.NamedSearch.{no_end, place_known}
use Rattle.road_search.proofs.PlacedWays.{length_placed, way_placed_is_shortest}
use Rattle.road_search.proofs.positions.shortest_by_position.Goals as goal

-- an end that no node has
pub returns-in_default-clause-length : goal.returns-in_default-clause-length
returns-in_default-clause-length c =
    let map = c.args.map.now in
    sym (no_end map.parts c.parts-parts.ensures.is_map (c.map_laws.ensures.distances map.parts c.parts-parts.ensures.is_map) c.args.from c.args.to (place_known map.parts map.order c.parts-parts.ensures.by_id c.args.to (λ p at. c.in_default.ensures.none p at.0 at.1 at.2)))

-- an end to which no walk leads
pub returns-in_default-at-clause-length : goal.returns-in_default-at-clause-length
returns-in_default-at-clause-length c =
    let map = c.args.map.now in
    let found = c.in_ok-_bound.ensures in
    ap (λ o. option_map (λ (l : Label). l.length) (option_map (λ (m : Mark). m.label) o)) c.in_default-at.ensures
    ∙ length_placed map.parts map.order c.net-net.result.now c.parts-parts.ensures.is_map c.parts-parts.ensures.by_id c.net-net.ensures (c.map_laws.ensures.distances map.parts c.parts-parts.ensures.is_map) (paged c.search_to.new.marks.pages) c.args.from c.args.to c.place-start.result c.in-Some.end c.in_ok-_bound._bound c.requires c.place-start.ensures.place c.in-Some.ensures.found found.least found.whole (found.lengths c.in-Some.end) found.end

-- an end to which a walk leads
pub returns-clause-length : goal.returns-clause-length
returns-clause-length c =
    let map = c.args.map.now in
    let found = c.in_ok-_bound.ensures in
    ap (λ o. option_map (λ (l : Label). l.length) (option_map (λ (m : Mark). m.label) o)) c.in-Some-at.ensures
    ∙ length_placed map.parts map.order c.net-net.result.now c.parts-parts.ensures.is_map c.parts-parts.ensures.by_id c.net-net.ensures (c.map_laws.ensures.distances map.parts c.parts-parts.ensures.is_map) (paged c.search_to.new.marks.pages) c.args.from c.args.to c.place-start.result c.in-Some.end c.in_ok-_bound._bound c.requires c.place-start.ensures.place c.in-Some.ensures.found found.least found.whole (found.lengths c.in-Some.end) found.end

pub returns-clause-route : goal.returns-clause-route
returns-clause-route c =
    let map = c.args.map.now in
    let found = c.in_ok-_bound.ensures in
    rw (c.from_vec.ensures, c.in_ok-ids_at.ensures, c.as_slice.ensures.value, c.in_ok-way.ensures)
    (way_placed_is_shortest map.parts map.order c.net-net.result.now c.parts-parts.ensures.is_map c.parts-parts.ensures.by_id c.net-net.ensures (c.map_laws.ensures.distances map.parts c.parts-parts.ensures.is_map) (paged c.search_to.new.marks.pages) c.args.from c.args.to c.place-start.result c.in-Some.end c.in_ok-_bound._bound c.requires c.place-start.ensures.place c.in-Some.ensures.found found.least found.whole (found.lengths c.in-Some.end) found.end c.in-Some-at.mark c.in-Some-at.ensures found.route)
