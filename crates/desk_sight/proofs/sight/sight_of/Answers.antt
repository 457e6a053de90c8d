use Rattle.desk_sight.proofs.Exclusive.{exact_strange, exact_untold}
use Rattle.desk_sight.proofs.sight.sight_of.Goals as goal

pub returns-clause-strange : goal.returns-clause-strange
returns-clause-strange c = exact_strange c.args.image.now c.sight_found.result c.sight_found.ensures

pub returns-clause-untold : goal.returns-clause-untold
returns-clause-untold c = exact_untold c.args.image.now c.sight_found.result c.sight_found.ensures
