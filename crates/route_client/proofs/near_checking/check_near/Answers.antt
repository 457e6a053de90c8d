use Rattle.route_client.proofs.NearVerdictLaws.{checks_walked, checks_refused}
use Rattle.route_client.proofs.near_checking.check_near.Goals as goal

pub returns-in-Ok : goal.returns-in-Ok
returns-in-Ok g c = checks_walked g.H.Hasher.hash c.args.public.now c.args.chain.now c.args.reply.now c.args.query c.args.least c.in-Ok.reply c.take.result c.in-Ok.ensures.is c.take.ensures

pub returns-in-Err : goal.returns-in-Err
returns-in-Err g c = checks_refused g.H.Hasher.hash c.args.public.now c.args.chain.now c.args.reply.now c.args.query c.args.least c.in-Err.error c.in-Err.ensures.is c.in-Err.ensures.named
