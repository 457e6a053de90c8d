use Rattle.std.proofs.Common.{◌≤◌, ◌*◌, arith}
use Rattle.road_reader.proofs.GridLaws.{nodes_more, square_small}
use Rattle.road_reader.proofs.grid.grid_nodes.Goals as goal

pub loop-index-preserved : goal.loop-index-preserved
loop-index-preserved c =
    let small : c.args.width * c.args.width ≤ 65536 = square_small c.args.width c.requires.few in
    nodes_more c.args.width c.loop-index.index c.loop-index.nodes.items c.push.new.list.items c.requires.some c.requires.few (omega (arith, c.loop-index-test.true)) c.loop-index.invariant c.in_ok-push.ensures.items
