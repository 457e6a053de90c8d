use Rattle.proof_judge.proofs.AllWalks.{items_narrow}
use Rattle.proof_judge.proofs.lengths.are_narrow.Goals as goal

pub returns : goal.returns
returns c = items_narrow c.args.nodes.now c.are_short.ensures c.ids_fit.ensures
