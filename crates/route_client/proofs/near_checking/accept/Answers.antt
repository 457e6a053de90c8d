use Rattle.std.proofs.Common.{Ok, refl}
use Rattle.route_client.proofs.NearVerdictLaws.{refused_walk}
use Rattle.route_client.proofs.near_checking.accept.Goals as goal

pub returns-in-Ok-clause-verdict : goal.returns-in-Ok-clause-verdict
returns-in-Ok-clause-verdict c = (Ok c.in-Ok.nodes, c.in-Ok.ensures, refl)

pub returns-in-Err-clause-verdict : goal.returns-in-Err-clause-verdict
returns-in-Err-clause-verdict c =
    refused_walk c.args.reply c.args.query c.in-Err.error c.in-Err.ensures
