use Rattle.std.proofs.lemmas.Option.{slice_get-get_or}
use Rattle.pair_dist.proofs.ThinLaws.{needed_more, needed_all}
use Rattle.pair_dist.proofs.thin.needed.Goals as goal

pub loop-arc-preserved : goal.loop-arc-preserved
loop-arc-preserved c = needed_more c.args.row.now c.args.lengths.now c.loop-arc.arc-index c.loop-arc.thin.items _ _ (slice_get-get_or c.args.row.now c.loop-arc.arc-index _ c.loop-arc-test.true) c.in_ok-put_needed.ensures c.loop-arc.invariant

pub returns-clause-rest : goal.returns-clause-rest
returns-clause-rest c = rw c.from_vec.ensures (needed_all c.args.row.now c.args.lengths.now c.loop-arc.arc-index c.loop-arc.thin.items c.loop-arc-test.false c.loop-arc.invariant)
