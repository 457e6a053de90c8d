use Rattle.std.proofs.Common.{rules, SFits, w32, ap}
use Rattle.std.proofs.lemmas.Int.{to_z-of_z}
use Rattle.route_check_c.specs.Placing.{route_node as placed}
use Rattle.route_check_c.proofs.nodes.route_node.Goals as goal

pub returns : goal.returns
returns c =
    let x : SFits w32 c.in-Some.leaf.x = search rules in
    let y : SFits w32 c.in-Some.leaf.y = search rules in
    rw (to_z-of_z w32 c.in-Some.leaf.x x, to_z-of_z w32 c.in-Some.leaf.y y) (ap placed c.in-Some.ensures)
