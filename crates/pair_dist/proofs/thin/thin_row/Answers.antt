use Rattle.pair_dist.proofs.ThinLaws.{thin_by}
use Rattle.pair_dist.proofs.thin.thin_row.Goals as goal

pub returns : goal.returns
returns c = thin_by c.args.rows.now c.args.row.now _ c.in_ok-lengths.lengths.items c.as_slice.result.now c.as_slice.ensures.value c.in_ok-lengths.ensures c.in_ok-thin.ensures.among c.in_ok-thin.ensures.rest
