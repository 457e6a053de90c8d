use Rattle.std.proofs.Common.{◌≡◌, IfOk, subst, sym}
use Rattle.octet_text.specs.Want.{no_memory}
use Rattle.proof_octets.specs.declared.publication.Publication.{Publication}
use Rattle.command_files.specs.Endings.{NoDisk, NoEnd, WhyNot}
use Rattle.command_files.specs.declared.fault.Fault.TheVariants.{Memory}
use Rattle.command_books.specs.Installing.{EndsInstalling}
use Rattle.server_commands.specs.Proving.{EndsReply}
use Rattle.server_commands.proofs.NearReachLemmas.{if_err}
use Rattle.server_commands.proofs.proving.told_of.Goals as goal

pub returns-clause-told : goal.returns-clause-told
returns-clause-told c =
    subst (λ (b : Publication). IfOk c.reply.result (λ told. EndsReply c.args.query b told.end told.text.items)) c.in_ok-held.ensures.held c.reply.ensures.told

pub returns-clause-refused : goal.returns-clause-refused
returns-clause-refused c =
    if_err c.reply.result (λ fault. fault ≡ Memory no_memory) (WhyNot NoDisk (EndsInstalling c.args.publication NoEnd))
    (λ fault is. subst (WhyNot NoDisk (EndsInstalling c.args.publication NoEnd)) (sym is) tt) c.reply.ensures.memory
