use Rattle.std.proofs.Common.{◌≡◌, Ok}
use Rattle.octet_text.specs.Format.{whole}
use Rattle.proof_octets.specs.declared.near_reply.NearReply.{NearReply}
use Rattle.proof_octets.specs.NearReplies.{near_reply}
use Rattle.proof_octets.proofs.Named.{read_named}
use Rattle.route_client.specs.NearVerdicts.{taken}
use Rattle.route_client.proofs.NearVerdictLaws.{refused, walked, spelled_of, of_same}
use Rattle.route_client.proofs.near_checking.check_near_reply.Goals as goal

pub returns-in-Err-clause-verdict : goal.returns-in-Err-clause-verdict
returns-in-Err-clause-verdict g c = refused g.H.Hasher.hash c.args.public.now c.args.chain.now c.args.reply.now c.args.query c.args.least c.in-Err.error c.in-Err.ensures.is

pub returns-in-Ok-clause-verdict : goal.returns-in-Ok-clause-verdict
returns-in-Ok-clause-verdict g c = walked g.H.Hasher.hash c.args.public.now c.args.chain.now c.args.reply.now c.args.query c.args.least c.in-Ok.reply (taken c.accept.result) c.in-Ok.ensures.is c.accept.ensures.verdict

pub returns-in-Ok-clause-spelled : goal.returns-in-Ok-clause-spelled
returns-in-Ok-clause-spelled g c =
    of_same (λ (a : NearReply). whole near_reply c.args.reply.now ≡ Ok a) c.in-Ok.reply c.accept.result
    (spelled_of g.H.Hasher.hash c.args.public.now c.args.chain.now c.args.reply.now c.args.least c.in-Ok.reply c.in-Ok.ensures.is) c.accept.ensures.same

pub returns-in-Ok-clause-named : goal.returns-in-Ok-clause-named
returns-in-Ok-clause-named g c memory =
    read_named c.args.reply.now c.in-Ok.reply (spelled_of g.H.Hasher.hash c.args.public.now c.args.chain.now c.args.reply.now c.args.least c.in-Ok.reply c.in-Ok.ensures.is)
