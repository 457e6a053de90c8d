use Rattle.std.proofs.Common.{subst, sym}
use Rattle.proof_octets.specs.Replies.{reply_of}
use Rattle.std.specs.declared.result.Result.TheVariants.{Ok}
use Rattle.route_client.specs.Verdicts.{UnlessMemory, JudgedAfter}
use Rattle.route_client.proofs.checking.take.Goals as goal

pub returns-in-Ok : goal.returns-in-Ok
returns-in-Ok c = subst (UnlessMemory (JudgedAfter (Ok (reply_of c.args.answer)) c.args.query)) (sym c.into_checked.ensures) c.in-Ok.ensures.verdict
