use Rattle.road_search.specs.Labelling.{length_at}
use Rattle.road_search.specs.OverMap.{map_ways}
use Rattle.method_books.proofs.GatedBooks.{free_gated}
use Rattle.method_books.proofs.WithinLaws.{lists_same, component_is}
use Rattle.method_books.proofs.within.component.Goals as goal

pub lengths_through-requires : goal.lengths_through-requires
lengths_through-requires c = c.requires.0

pub returns : goal.returns
returns c =
    lists_same c.rising.result (component_is c.args.map.now.parts c.parts-parts.ensures.is_map (c.map_laws.ensures.distances c.args.map.now.parts c.parts-parts.ensures.is_map) c.args.query c.requires (length_at c.in_ok-labels.labels) (c.in_ok-labels.ensures (map_ways c.args.map.now.parts) (free_gated c.args.map.now.parts c.args.map.now.order)) c.in_ok-ids.ids.items c.push.new.list.items c.in_ok-ids.ensures.same c.in_ok-push.ensures.items) c.rising.ensures
