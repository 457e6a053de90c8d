use Rattle.route_client.proofs.NearestLaws.{are_nearest, one}
use Rattle.route_client.proofs.picking_laws.nearest_laws.Goals as goal

pub returns-clause-truth : goal.returns-clause-truth
returns-clause-truth c parts q nodes ids most x is_map = are_nearest parts q nodes ids most x (c.map_laws.ensures.distances parts is_map)

pub returns-clause-one : goal.returns-clause-one
returns-clause-one c = one
