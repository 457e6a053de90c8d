use Rattle.std.proofs.Common.{sym, subst, ◌∙◌}
use Rattle.road_map.specs.Least.{IsLeast}
use Rattle.route_client.specs.NearVerdicts.{LacksItem}
use Rattle.route_client.proofs.walking.reached.Goals as goal

pub returns : goal.returns
returns c = (subst (IsLeast (LacksItem c.args.by_id.now c.args.query)) (sym c.missing.ensures ∙ c.in_default.is) c.in_ok-labels.ensures.missing, c.in_ok-labels.ensures.least)
