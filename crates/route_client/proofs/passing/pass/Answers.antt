use Rattle.std.proofs.Common.{sym, subst}
use Rattle.proof_octets.specs.NearReplies.{IsNamed}
use Rattle.proof_octets.proofs.Named.{spelled_named}
use Rattle.route_client.proofs.NearVerdictLaws.{unread, read_tested}
use Rattle.route_client.proofs.passing.pass.Goals as goal

pub returns-in-Err-clause-is : goal.returns-in-Err-clause-is
returns-in-Err-clause-is g c = unread g.H.Hasher.hash c.args.public.now c.args.chain.now c.args.octets.now c.args.least c.in-Err.error c.in-Err.ensures.is

pub returns-in-Ok-clause-is : goal.returns-in-Ok-clause-is
returns-in-Ok-clause-is g c = read_tested g.H.Hasher.hash c.args.public.now c.args.chain.now c.args.octets.now c.args.least c.in-Ok.reply c.test.result c.in-Ok.ensures.is c.test.ensures.is

pub returns-in-Ok-clause-named : goal.returns-in-Ok-clause-named
returns-in-Ok-clause-named g c memory = subst IsNamed (sym c.in-Ok.ensures.spelled) (spelled_named c.in-Ok.reply)
