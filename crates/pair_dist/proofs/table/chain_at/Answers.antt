use Rattle.pair_dist.proofs.table.chain_at.Goals as goal

pub chain_over-requires-clause-within : goal.chain_over-requires-clause-within
chain_over-requires-clause-within c = rw c.count-count.ensures c.requires.within
