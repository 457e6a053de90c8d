use Rattle.pair_dist.proofs.LinkLaws.{no_links, all_links}
use Rattle.pair_dist.proofs.chain.link.Goals as goal

pub loop-number-init : goal.loop-number-init
loop-number-init g c = rw c.new-row.ensures.items (no_links (g.R.Rows.rows c.args.walled.now.rows.now) c.args.walled.now.walls.now c.args.places.now c.args.own c.args.walled.now.start)

pub returns : goal.returns
returns g c = rw (c.from_vec.ensures, c.in_ok-copied.ensures.items, c.as_slice.ensures.value) (all_links (g.R.Rows.rows c.args.walled.now.rows.now) c.args.walled.now.walls.now c.args.places.now c.args.own c.args.walled.now.start c.loop-number.number c.loop-number.row.items c.loop-number-test.false c.loop-number.invariant)
