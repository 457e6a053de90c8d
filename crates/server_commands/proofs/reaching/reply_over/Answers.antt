use Rattle.std.proofs.Common.{subst}
use Rattle.std.specs.declared.result.Result.TheVariants.{Ok}
use Rattle.std.proofs.lemmas.Result.{IfOk-weaker}
use Rattle.sha2.specs.Sha256.{sha256}
use Rattle.proof_octets.specs.declared.publication.Publication.{Publication}
use Rattle.route_server.specs.Keeping.{publication_in}
use Rattle.command_files.specs.Endings.{NoDisk, WhyNot}
use Rattle.command_files.specs.declared.ended.Conclusion.TheVariants.{Done}
use Rattle.command_books.proofs.Installings.{installed}
use Rattle.server_commands.specs.NearReaching.{EndsNear, EndsReach}
use Rattle.server_commands.proofs.NearReachLemmas.{if_err, why_behind, why_before}
use Rattle.server_commands.proofs.reaching.reply_over.Goals as goal

pub returns-in-Ok-clause-replied : goal.returns-in-Ok-clause-replied
returns-in-Ok-clause-replied c =
    let p = c.args.publication in
    let q = c.args.query in
    IfOk-weaker c.reply_of.result (λ t. EndsNear q (publication_in sha256 c.in-Ok.held) (Ok Done) t.items) (λ t. EndsReach q p (Ok Done) t.items)
    (λ t h. installed p (EndsNear q p) (Ok Done) t.items c.in-Ok.ensures.installable (subst (λ (b : Publication). EndsNear q b (Ok Done) t.items) c.in-Ok.ensures.held h)) c.reply_of.ensures.replied

pub returns-in-Ok-clause-refused : goal.returns-in-Ok-clause-refused
returns-in-Ok-clause-refused c =
    if_err c.reply_of.result (WhyNot NoDisk (EndsNear c.args.query (publication_in sha256 c.in-Ok.held))) (WhyNot NoDisk (EndsReach c.args.query c.args.publication))
    (why_behind c.args.publication (publication_in sha256 c.in-Ok.held) c.args.query c.in-Ok.ensures.held c.in-Ok.ensures.installable) c.reply_of.ensures.refused

pub returns-in-Err-clause-refused : goal.returns-in-Err-clause-refused
returns-in-Err-clause-refused c = why_before c.args.publication c.args.query c.in-Err.fault c.in-Err.ensures.refused
