use Rattle.std.proofs.Common.{◌≡◌}
use Rattle.road_leaf.proofs.node_leaves.NodeLeaves.of.Given as goal

abbrev pub invariant-loop-leaf : goal.invariant-loop-leaf
invariant-loop-leaf l = l.held ≡ l.yielded
