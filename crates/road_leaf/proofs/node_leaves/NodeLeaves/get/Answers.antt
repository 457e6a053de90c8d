use Rattle.std.proofs.Common.{arith, sym}
use Rattle.std.proofs.lemmas.Option.{slice_get_past}
use Rattle.road_leaf.proofs.node_leaves.NodeLeaves.get.Goals as goal

pub returns-then-index-len : goal.returns-then-index-len
returns-then-index-len c = sym (slice_get_past c.args.self.now c.args.index (omega (arith, c.len.ensures, c.if-index-len.true)))
