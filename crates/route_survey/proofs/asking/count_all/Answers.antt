use Rattle.std.proofs.Common.{arith}
use Rattle.sha2.specs.Sha256.{sha256}
use Rattle.route_server.specs.Keeping.{publication_in}
use Rattle.route_survey.proofs.TallyLaws.{counts_step}
use Rattle.route_survey.proofs.asking.count_all.Goals as goal

pub loop-query-preserved : goal.loop-query-preserved
loop-query-preserved c = record {
  counts = counts_step (publication_in sha256 c.args.held.now) c.args.queries.now c.loop-query.query-index _ c.args.tally.now c.loop-query.tally c.count_one.new.tally c.loop-query-test.true c.loop-query.invariant.counts c.in_ok-count_one.ensures.counts;
  few = omega (arith, c.in_ok-count_one.ensures.counts.accepted, c.loop-query.invariant.few);
  room = c.in_ok-count_one.ensures.room;
}
