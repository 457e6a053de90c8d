use Rattle.std.proofs.Common.{◌*◌, arith}
use Rattle.route_survey.specs.Asked.{survey_queries}
use Rattle.route_survey.proofs.QueryLaws.{query_more}
use Rattle.route_survey.proofs.asked.survey_queries.Goals as goal

pub loop-left-preserved : goal.loop-left-preserved
loop-left-preserved c =
    query_more (survey_queries c.args.width c.args.seed c.args.wanted) c.loop-left.queries.items c.push.new.list.items (c.args.width * c.args.width) c.loop-left.draw c.next_query.new.draw c.loop-left.left c.next_query.result
    (omega (arith, c.loop-left-test.true)) c.loop-left.invariant c.next_query.ensures.query c.next_query.ensures.draw c.in_ok-push.ensures.items
