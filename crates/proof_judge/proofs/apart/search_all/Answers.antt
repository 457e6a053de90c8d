use Rattle.proof_judge.proofs.AllWalks.{any_length}
use Rattle.proof_judge.proofs.LowWalks.{found_low}
use Rattle.proof_judge.proofs.apart.search_all.Goals as goal

pub returns-clause-lengths : goal.returns-clause-lengths
returns-clause-lengths g c = any_length (g.G.Ground.ways c.args.ground.now) (g.met.G.Ground.lets_shorter c.args.ground.now) c.requires c.args.from c.in_ok-labels.labels c.in_ok-labels.ensures.lengths c.in_ok-labels.ensures.routes

pub returns-clause-low : goal.returns-clause-low
returns-clause-low g c = found_low (g.G.Ground.ways c.args.ground.now) c.requires c.args.from 18446744073709551615 c.in_ok-labels.labels c.in_ok-labels.ensures.routes
