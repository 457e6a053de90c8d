use Rattle.std.proofs.Common.{◌++◌, map, drop}
use Rattle.road_leaf.specs.Leaves.{pair_leaf}
use Rattle.route_client.specs.Cutting.{cuts_at, end_at}
use Rattle.route_client.proofs.CutLemmas.{Cutting}
use Rattle.route_client.proofs.cutting.push_pairs.Given as goal

abbrev pub invariant-loop : goal.invariant-loop
invariant-loop l =
    Cutting pair_leaf.spell 4 (l.fn.cuts.items ++ cuts_at 4 l.at (map pair_leaf.spell l.leaves)) (end_at 4 l.at (map pair_leaf.spell l.leaves)) l.cuts.items l.next (drop l.counter l.leaves)
