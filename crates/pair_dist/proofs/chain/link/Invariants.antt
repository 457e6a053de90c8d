use Rattle.pair_dist.specs.Chains.{IsLinkBelow}
use Rattle.pair_dist.proofs.chain.link.Given as goal

abbrev pub invariant-loop-number : goal.invariant-loop-number
invariant-loop-number g l = IsLinkBelow (g.R.Rows.rows l.walled.rows.now) l.walled.walls.now l.places l.own l.walled.start l.number l.row.items
