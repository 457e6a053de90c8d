use Rattle.std.proofs.Common.{refl}
use Rattle.road_search.specs.Labelling.{length_at}
use Rattle.road_search.specs.OverMap.{map_ways}
use Rattle.route_server.proofs.NearReach.{ids_same, ids_known}
use Rattle.route_server.proofs.reaching.ids_within.Goals as goal

pub returns-clause-known : goal.returns-clause-known
returns-clause-known c =
    ids_known c.args.map.now.parts c.parts-parts.ensures.is_map (c.map_laws.ensures.distances c.args.map.now.parts c.parts-parts.ensures.is_map) c.args.query c.requires c.limit_above-limit.result c.limit_above-limit.ensures
    (length_at c.in_ok-labels.labels) (c.in_ok-labels.ensures (map_ways c.args.map.now.parts) (record { arcs = λ id. refl; lets = λ id p length at. refl })) c.in_ok-ids.ids.items c.in_ok-ids.ensures.same

pub returns-clause-same : goal.returns-clause-same
returns-clause-same c =
    ids_same c.args.map.now.parts c.parts-parts.ensures.is_map (c.map_laws.ensures.distances c.args.map.now.parts c.parts-parts.ensures.is_map) c.args.query c.requires c.limit_above-limit.result c.limit_above-limit.ensures
    (length_at c.in_ok-labels.labels) (c.in_ok-labels.ensures (map_ways c.args.map.now.parts) (record { arcs = λ id. refl; lets = λ id p length at. refl })) c.in_ok-ids.ids.items c.in_ok-ids.ensures.same
