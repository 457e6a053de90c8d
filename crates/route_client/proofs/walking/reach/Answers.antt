use Rattle.std.proofs.Common.{◌+◌}
use Rattle.road_search.specs.Labelling.{length_at}
use Rattle.proof_judge.specs.ItemWalks.{item_at, any_ways}
use Rattle.proof_judge.proofs.Tested.{lacks_least}
use Rattle.route_client.specs.Reached.{AreLeast}
use Rattle.route_client.proofs.Walks.{at_radius}
use Rattle.route_client.proofs.walking.reach.Goals as goal

pub returns-clause-least : goal.returns-clause-least
returns-clause-least c =
    at_radius (any_ways (item_at c.args.by_id.now)) (λ id short long le h. h) c.requires c.args.query.from c.args.query.radius c.limit_above-limit.result c.in_ok-labels.labels c.limit_above-limit.ensures c.in_ok-labels.ensures.lengths c.in_ok-labels.ensures.routes

pub returns-clause-missing : goal.returns-clause-missing
returns-clause-missing c =
    let least : AreLeast (any_ways (item_at c.args.by_id.now)) c.args.query.from (c.args.query.radius + 1) c.in_ok-labels.labels
    = at_radius (any_ways (item_at c.args.by_id.now)) (λ id short long le h. h) c.requires c.args.query.from c.args.query.radius c.limit_above-limit.result c.in_ok-labels.labels c.limit_above-limit.ensures c.in_ok-labels.ensures.lengths c.in_ok-labels.ensures.routes in
    lacks_least (any_ways (item_at c.args.by_id.now)) c.args.query.from (c.args.query.radius + 1) (length_at c.in_ok-labels.labels) c.in_ok-labels.labels.missing least c.in_ok-labels.ensures.missing
