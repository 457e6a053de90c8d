use Rattle.std.proofs.Common.{◌≡◌, ◌++◌, take, drop}
use Rattle.route_check_c.specs.Placing.{reached_nodes}
use Rattle.route_check_c.proofs.filling.fill_reached.Given as goal

abbrev pub invariant-loop-place : goal.invariant-loop-place
invariant-loop-place l = l.room ≡ take l.place (reached_nodes l.by_id l.marks) ++ drop l.place l.fn.room
