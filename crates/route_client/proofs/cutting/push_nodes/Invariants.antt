use Rattle.std.proofs.Common.{◌++◌, map, drop}
use Rattle.road_leaf.specs.Leaves.{node_leaf_text}
use Rattle.route_client.specs.Cutting.{cuts_at, end_at}
use Rattle.route_client.proofs.CutLemmas.{Cutting}
use Rattle.route_client.proofs.cutting.push_nodes.Given as goal

abbrev pub invariant-loop-index : goal.invariant-loop-index
invariant-loop-index l =
    Cutting node_leaf_text 6 (l.fn.cuts.items ++ cuts_at 6 l.at (map node_leaf_text l.leaves)) (end_at 6 l.at (map node_leaf_text l.leaves)) l.cuts.items l.next (drop l.index l.leaves)
