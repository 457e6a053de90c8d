use Rattle.route_survey.proofs.AnswerLaws.{of_itself}
use Rattle.route_survey.proofs.LineLaws.{version_one, joined_over}
use Rattle.route_survey.proofs.surveying.count_grid.Goals as goal

pub count_over-requires-clause-surveyed : goal.count_over-requires-clause-surveyed
count_over-requires-clause-surveyed c = of_itself _ _ _ c.in_ok-publication.ensures.signed

pub count_over-requires-clause-version : goal.count_over-requires-clause-version
count_over-requires-clause-version c = version_one _ _ _ c.in_ok-publication.ensures.signed c.requires.version

pub count_over-requires-clause-joined : goal.count_over-requires-clause-joined
count_over-requires-clause-joined c = joined_over _ _ _ _ c.in_ok-publication.ensures.signed c.requires.joined

pub count_over-requires-clause-few : goal.count_over-requires-clause-few
count_over-requires-clause-few c = c.requires.few

pub returns-clause-counted : goal.returns-clause-counted
returns-clause-counted c = record { made = c.in_ok-publication.publication; is_made = c.in_ok-publication.ensures.signed; tallied = c.in_ok-tally.ensures }
