use Rattle.pair_dist.proofs.ThinLaws.{IsNeededBelow}
use Rattle.pair_dist.proofs.thin.needed.Given as goal

abbrev pub invariant-loop-arc : goal.invariant-loop-arc
invariant-loop-arc l = IsNeededBelow l.row l.lengths l.arc-index l.thin.items
