use Rattle.std.proofs.Common.{Err, sym, subst}
use Rattle.proof_octets.specs.declared.near_reply.NearReply.{NearReply}
use Rattle.route_client.specs.declared.near_errors.NearError.{NearError}
use Rattle.route_client.specs.NearVerdicts.{Meets, header_and_cover, after_tests}
use Rattle.route_client.proofs.NearVerdictLaws.{failed}
use Rattle.route_client.proofs.EarlyLaws.{early}
use Rattle.route_client.proofs.passing.test.Goals as goal

pub returns-in-Err-clause-is : goal.returns-in-Err-clause-is
returns-in-Err-clause-is g c =
    let t = header_and_cover g.H.Hasher.hash c.args.public.now c.args.chain.now c.args.least c.args.reply in
    subst (λ (e : NearError). Meets {A = NearReply} (Err e) (after_tests c.args.reply t)) (sym c.near_error.ensures) (failed c.args.reply t c.in-Err.error c.in-Err.ensures)

pub near_error-requires : goal.near_error-requires
near_error-requires g c = early g.H.Hasher.hash c.args.public.now c.args.chain.now c.args.least c.args.reply c.in-Err.error c.in-Err.ensures
