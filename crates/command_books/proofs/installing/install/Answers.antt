use Rattle.command_files.specs.Endings.{NoEnd}
use Rattle.command_books.proofs.Installings.{no_book, wrong_header}
use Rattle.command_books.proofs.installing.install.Goals as goal

pub returns-in-Err-Build-clause-refused : goal.returns-in-Err-Build-clause-refused
returns-in-Err-Build-clause-refused c =
    rw c.not_built.ensures (no_book _ _ _ _ _ (rw c.in-Err-Build.field-0-is at c.in-Err-Build.ensures.installs).0)

pub returns-in-Err-HeaderWrong-clause-refused : goal.returns-in-Err-HeaderWrong-clause-refused
returns-in-Err-HeaderWrong-clause-refused c =
    let i = rw c.in-Err-HeaderWrong.field-0-is at c.in-Err-HeaderWrong.ensures.installs in
    wrong_header c.args.publication NoEnd i.0 i.1 i.2
