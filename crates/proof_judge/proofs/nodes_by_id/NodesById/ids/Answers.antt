use Rattle.std.proofs.Common.{sym, subst}
use Rattle.road_map.specs.Places.{AreRising}
use Rattle.proof_judge.proofs.nodes_by_id.NodesById.ids.Goals as goal

pub returns : goal.returns
returns c = subst AreRising (sym c.in_ok-ids.ensures.same) c.self.invariant.rise
