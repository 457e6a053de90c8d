use Rattle.std.proofs.Common.{◌∙◌}
use Rattle.std.proofs.lemmas.List.{length-set}
use Rattle.pair_dist.proofs.ThinLaws.{step_more}
use Rattle.pair_dist.proofs.thin.thinned.Goals as goal

pub loop-number-preserved : goal.loop-number-preserved
loop-number-preserved c = record {
  long = length-set c.loop-number.rows.items c.loop-number.number c.in_ok-thin.thin ∙ c.loop-number.invariant.long;
  agrees = step_more c.args.chain c.loop-number.rows.items c.loop-number.number _ c.as_slice.result.now c.as_slice-in-loop-number.result.now c.in_ok-thin.thin _ c.loop-number.invariant.long c.loop-number-test.true c.as_slice.ensures.value (c.as_slice-in-loop-number.ensures ∙ c.index.ensures) c.in_ok-thin.ensures c.loop-number.invariant.agrees;
}
