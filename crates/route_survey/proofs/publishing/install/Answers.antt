use Rattle.route_survey.proofs.PublishLaws.{no_fault, no_other}
use Rattle.route_survey.proofs.publishing.install.Goals as goal

pub unreachable-requires : goal.unreachable-requires
unreachable-requires c =
    let why = rw c.in-Err-Build.field-0-is at c.in-Err-Build.ensures.installs in
    no_fault c.server_laws.ensures c.args.publication c.requires c.in-Err-Build.field-0-0 why.0 why.1

pub unreachable-requires-in-Err-HeaderWrong : goal.unreachable-requires-in-Err-HeaderWrong
unreachable-requires-in-Err-HeaderWrong c =
    let why = rw c.in-Err-HeaderWrong.field-0-is at c.in-Err-HeaderWrong.ensures.installs in
    no_other c.server_laws.ensures c.args.publication c.requires why.0 why.1 why.2
