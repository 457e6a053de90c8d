use Rattle.pair_dist.specs.Thinning.{AreSteps}
use Rattle.pair_dist.proofs.thin.lengths_beyond.Given as goal

abbrev pub invariant-loop-first : goal.invariant-loop-first
invariant-loop-first l = AreSteps l.rows l.row l.lengths.items
