use Rattle.std.proofs.Common.{◌≡◌, ◌++◌, take, drop}
use Rattle.route_check_c.specs.Placing.{route_nodes}
use Rattle.route_check_c.proofs.filling.fill_route.Given as goal

abbrev pub invariant-loop-place : goal.invariant-loop-place
invariant-loop-place l = l.room ≡ take l.place (route_nodes l.by_id l.ids) ++ drop l.place l.fn.room
