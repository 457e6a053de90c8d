use Rattle.std.proofs.Common.{refl}
use Rattle.route_survey.proofs.LineLaws.{tallied_so}
use Rattle.route_survey.proofs.surveying.count_over.Goals as goal

pub hash_publication-requires : goal.hash_publication-requires
hash_publication-requires c = c.requires.surveyed.fits

pub count_installed-requires-clause-public : goal.count_installed-requires-clause-public
count_installed-requires-clause-public c = c.requires.public

pub count_installed-requires-clause-surveyed : goal.count_installed-requires-clause-surveyed
count_installed-requires-clause-surveyed c = c.requires.surveyed

pub count_installed-requires-clause-version : goal.count_installed-requires-clause-version
count_installed-requires-clause-version c = c.requires.version

pub count_installed-requires-clause-joined : goal.count_installed-requires-clause-joined
count_installed-requires-clause-joined c = c.requires.joined

pub count_installed-requires-clause-few : goal.count_installed-requires-clause-few
count_installed-requires-clause-few c = c.requires.few

pub count_installed-requires-clause-nothing : goal.count_installed-requires-clause-nothing
count_installed-requires-clause-nothing c = refl

pub count_installed-requires-clause-zero : goal.count_installed-requires-clause-zero
count_installed-requires-clause-zero c = refl

pub returns : goal.returns
returns c = tallied_so c.args.publication c.args.queries.now _ c.count_installed.new.tally c.in_ok-count_installed.ensures refl refl c.in_ok-hasher.ensures
