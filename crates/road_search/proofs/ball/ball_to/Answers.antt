use Rattle.std.proofs.Common.{◌≡◌, ◌<◌, Some, ◌∙◌, ap, sym, subst}
use Rattle.std.specs.List.{filter}
use Rattle.std.specs.List.Sorted.{IsStrictlySortedBy}
use Rattle.std.specs.Ordering.{nat_cmp}
use Rattle.std.specs.Option.{option_map}
use Rattle.std.proofs.lemmas.List.Kept.{IsStrictlySortedBy-filter}
use Rattle.road_map.specs.Places.{AreRising}
use Rattle.road_map.specs.Walks.{ids}
use Rattle.road_map.proofs.RisingLaws.{rise_from_sorted}
use Rattle.road_search.specs.declared.label.Label.{Label}
use Rattle.road_search.specs.declared.marks.Mark.{Mark}
use Rattle.road_search.specs.Labelling.{length_in}
use Rattle.road_search.specs.Listing.{is_near_at}
use Rattle.road_search.specs.Pages.{paged}
use Rattle.road_search.proofs.BallLaws.{near_nodes}
use Rattle.road_search.proofs.NamedSearch.{no_end, place_known}
use Rattle.road_search.proofs.PlacedWays.{length_placed, way_placed_is_shortest, way_placed_is_distinct}
use Rattle.road_search.proofs.WholeMapLaws.{below_is}
use Rattle.road_search.proofs.ball.ball_to.Goals as goal

-- an end that no node has
pub returns-in_default-clause-length : goal.returns-in_default-clause-length
returns-in_default-clause-length c =
    let map = c.args.map.now in
    sym (no_end map.parts c.parts-parts.ensures.is_map (c.map_laws.ensures.distances map.parts c.parts-parts.ensures.is_map) c.args.from c.args.to (place_known map.parts map.order c.parts-parts.ensures.by_id c.args.to (λ p at. c.in_default.ensures.none p at.0 at.1 at.2)))

-- an end to which no walk leads
pub returns-in_default-at-clause-length : goal.returns-in_default-at-clause-length
returns-in_default-at-clause-length c =
    let map = c.args.map.now in
    let found = c.in_ok-_bound.ensures in
    ap (λ o. option_map (λ (l : Label). l.length) (option_map (λ (m : Mark). m.label) o)) c.in_default-at.ensures
    ∙ length_placed map.parts map.order c.net-net.result.now c.parts-parts.ensures.is_map c.parts-parts.ensures.by_id c.net-net.ensures (c.map_laws.ensures.distances map.parts c.parts-parts.ensures.is_map) (paged c.search_to.new.marks.pages) c.args.from c.args.to c.place-start.result c.in-Some.end c.in_ok-_bound._bound c.requires c.place-start.ensures.place c.in-Some.ensures.found found.least found.whole (found.lengths c.in-Some.end) found.end

-- an end to which a walk leads
pub returns-clause-length : goal.returns-clause-length
returns-clause-length c =
    let map = c.args.map.now in
    let found = c.in_ok-_bound.ensures in
    ap (λ o. option_map (λ (l : Label). l.length) (option_map (λ (m : Mark). m.label) o)) c.in-Some-at.ensures
    ∙ length_placed map.parts map.order c.net-net.result.now c.parts-parts.ensures.is_map c.parts-parts.ensures.by_id c.net-net.ensures (c.map_laws.ensures.distances map.parts c.parts-parts.ensures.is_map) (paged c.search_to.new.marks.pages) c.args.from c.args.to c.place-start.result c.in-Some.end c.in_ok-_bound._bound c.requires c.place-start.ensures.place c.in-Some.ensures.found found.least found.whole (found.lengths c.in-Some.end) found.end

pub returns-clause-route : goal.returns-clause-route
returns-clause-route c =
    let map = c.args.map.now in
    let found = c.in_ok-_bound.ensures in
    rw (c.from_vec.ensures, c.in_ok-route.ensures, c.as_slice.ensures.value, c.in_ok-way.ensures)
    (way_placed_is_shortest map.parts map.order c.net-net.result.now c.parts-parts.ensures.is_map c.parts-parts.ensures.by_id c.net-net.ensures (c.map_laws.ensures.distances map.parts c.parts-parts.ensures.is_map) (paged c.search_to.new.marks.pages) c.args.from c.args.to c.place-start.result c.in-Some.end c.in_ok-_bound._bound c.requires c.place-start.ensures.place c.in-Some.ensures.found found.least found.whole (found.lengths c.in-Some.end) found.end c.in-Some-at.mark c.in-Some-at.ensures found.route)

pub returns-clause-distinct : goal.returns-clause-distinct
returns-clause-distinct c =
    let map = c.args.map.now in
    let found = c.in_ok-_bound.ensures in
    rw (c.from_vec.ensures, c.in_ok-route.ensures, c.as_slice.ensures.value, c.in_ok-way.ensures)
    (way_placed_is_distinct map.parts map.order c.net-net.result.now c.parts-parts.ensures.is_map c.parts-parts.ensures.by_id c.net-net.ensures (c.map_laws.ensures.distances map.parts c.parts-parts.ensures.is_map) (paged c.search_to.new.marks.pages) c.args.from c.args.to c.place-start.result c.in-Some.end c.in_ok-_bound._bound c.requires c.place-start.ensures.place c.in-Some.ensures.found found.least found.whole (found.lengths c.in-Some.end) found.end c.in-Some-at.mark c.in-Some-at.ensures found.route)

pub returns-clause-rising : goal.returns-clause-rising
returns-clause-rising c =
    let map = c.args.map.now in
    let all : c.as_slice-2.result.now ≡ ids map.order = c.as_slice-2.ensures ∙ (c.deref.ensures ∙ c.in_ok-ids.ensures) in
    let near : c.in_ok-nodes.nodes.items ≡ filter (is_near_at (ids map.order) (paged c.search_to.new.marks.pages) c.in-Some-at.mark.label.length) (ids map.order) = c.in_ok-nodes.ensures ∙ ap (λ xs. filter (is_near_at xs (paged c.search_to.new.marks.pages) c.in-Some-at.mark.label.length) xs) all in
    subst (IsStrictlySortedBy nat_cmp) (sym (c.from_vec-2.ensures ∙ near)) (IsStrictlySortedBy-filter nat_cmp (is_near_at (ids map.order) (paged c.search_to.new.marks.pages) c.in-Some-at.mark.label.length) (ids map.order) c.parts-parts.ensures.by_id.rising)

pub returns-clause-near : goal.returns-clause-near
returns-clause-near c =
    let map = c.args.map.now in
    let found = c.in_ok-_bound.ensures in
    let long : length_in (paged c.search_to.new.marks.pages) c.in-Some.end ≡ Some c.in-Some-at.mark.label.length = ap (λ o. option_map (λ (l : Label). l.length) (option_map (λ (m : Mark). m.label) o)) (sym c.in-Some-at.ensures) in
    let short : c.in-Some-at.mark.label.length < c.in_ok-_bound._bound = (below_is c.in_ok-_bound._bound (length_in (paged c.search_to.new.marks.pages) c.in-Some.end) c.in-Some-at.mark.label.length (found.end ∙ long)).1 in
    let all : c.as_slice-2.result.now ≡ ids map.order = c.as_slice-2.ensures ∙ (c.deref.ensures ∙ c.in_ok-ids.ensures) in
    let near : c.in_ok-nodes.nodes.items ≡ filter (is_near_at (ids map.order) (paged c.search_to.new.marks.pages) c.in-Some-at.mark.label.length) (ids map.order) = c.in_ok-nodes.ensures ∙ ap (λ xs. filter (is_near_at xs (paged c.search_to.new.marks.pages) c.in-Some-at.mark.label.length) xs) all in
    near_nodes map.parts map.order c.net-net.result.now c.parts-parts.ensures.is_map c.parts-parts.ensures.by_id c.net-net.ensures (c.map_laws.ensures.distances map.parts c.parts-parts.ensures.is_map) (paged c.search_to.new.marks.pages) c.args.from c.place-start.result c.in_ok-_bound._bound c.in-Some-at.mark.label.length c.requires c.place-start.ensures.place found.least found.lengths short c.from_vec-2.result (c.from_vec-2.ensures ∙ near)

pub near_ids-requires : goal.near_ids-requires
near_ids-requires c = subst AreRising (sym (c.as_slice-2.ensures ∙ (c.deref.ensures ∙ c.in_ok-ids.ensures))) (rise_from_sorted (ids c.args.map.now.order) c.parts-parts.ensures.by_id.rising)
