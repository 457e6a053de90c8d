use Rattle.sha2.specs.Sha256.{sha256}
use Rattle.route_server.specs.Keeping.{publication_in}
use Rattle.route_survey.proofs.AnswerLaws.{is_askable}
use Rattle.route_survey.proofs.LineLaws.{counts_over, joined_in}
use Rattle.route_survey.proofs.surveying.count_installed.Goals as goal

pub install-requires : goal.install-requires
install-requires c = c.requires.surveyed.has_header

pub count_all-requires-clause-public : goal.count_all-requires-clause-public
count_all-requires-clause-public c = c.requires.public

pub count_all-requires-clause-askable : goal.count_all-requires-clause-askable
count_all-requires-clause-askable c = is_askable c.range_laws.ensures.publication c.in_ok-held.held c.args.publication c.args.publication.parts c.args.publication.settings c.in_ok-held.ensures c.requires.surveyed c.requires.version

pub count_all-requires-clause-joined : goal.count_all-requires-clause-joined
count_all-requires-clause-joined c = joined_in (publication_in sha256 c.in_ok-held.held) c.args.publication c.args.queries.now c.in_ok-held.ensures c.requires.joined

pub count_all-requires-clause-few : goal.count_all-requires-clause-few
count_all-requires-clause-few c = c.requires.few

pub count_all-requires-clause-nothing : goal.count_all-requires-clause-nothing
count_all-requires-clause-nothing c = c.requires.nothing

pub count_all-requires-clause-zero : goal.count_all-requires-clause-zero
count_all-requires-clause-zero c = c.requires.zero

pub returns : goal.returns
returns c = counts_over (publication_in sha256 c.in_ok-held.held) c.args.publication c.args.queries.now _ _ c.count_all.result c.in_ok-held.ensures c.count_all.ensures
