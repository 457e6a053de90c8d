use Rattle.std.proofs.Common.{ℕ, ◌<◌, get_or}
use Rattle.road_map.specs.declared.parts.Node.{Node}
use Rattle.proof_octets.specs.Good.{IsGoodNode}
use Rattle.route_owner.proofs.widths.nodes_have_widths.Given as goal

abbrev pub invariant-loop-node : goal.invariant-loop-node
invariant-loop-node l = (k : ℕ) (d : Node) → k < l.node-index → IsGoodNode (get_or l.nodes k d)
