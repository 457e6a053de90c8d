use Rattle.std.proofs.Common.{◌∙◌, refl, sym, arith}
use Rattle.road_reader.specs.Grid.{grid_of}
use Rattle.route_survey.specs.Asked.{survey_queries}
use Rattle.route_survey.proofs.QueryLaws.{survey_joined, survey_count}
use Rattle.route_survey.proofs.LineLaws.{line_so}
use Rattle.route_survey.proofs.surveying.survey_method.Goals as goal

pub count_grid-requires-clause-joined : goal.count_grid-requires-clause-joined
count_grid-requires-clause-joined c =
    survey_joined c.args.width c.args.seed c.args.wanted (grid_of c.args.width c.args.seed) c.deref.result.now c.requires.wide (c.grid_laws.ensures.knows c.args.width c.args.seed c.requires.wide c.requires.narrow) (c.grid_laws.ensures.connected c.args.width c.args.seed c.requires.wide c.requires.narrow)
    refl (c.deref.ensures.value ∙ c.in_ok-queries.ensures)

pub count_grid-requires-clause-few : goal.count_grid-requires-clause-few
count_grid-requires-clause-few c =
    omega (arith, c.requires.few, survey_count c.args.width c.args.seed c.args.wanted c.deref.result.now (c.deref.ensures.value ∙ c.in_ok-queries.ensures))

pub returns-clause-line : goal.returns-clause-line
returns-clause-line c =
    line_so (grid_of c.args.width c.args.seed) _ _ _ _ c.in_ok-tally.tally c.args.wanted _ c.survey_settings-settings.ensures (c.deref.ensures.value ∙ c.in_ok-queries.ensures) c.in_ok-tally.ensures.counted
    (sym (survey_count c.args.width c.args.seed c.args.wanted (survey_queries c.args.width c.args.seed c.args.wanted) refl)) c.in_ok-line.ensures
