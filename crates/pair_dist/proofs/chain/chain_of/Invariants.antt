use Rattle.pair_dist.specs.Chains.{IsChainBelow}
use Rattle.pair_dist.proofs.chain.chain_of.Given as goal

abbrev pub invariant-loop-own : goal.invariant-loop-own
invariant-loop-own g l = IsChainBelow (g.R.Rows.rows l.rows) l.walls l.places l.own l.chain.items
