use Rattle.std.proofs.lemmas.Result.{err_from_is_err_and}
use Rattle.owner_commands.proofs.OwnerLemmas.{desk_refused, desk_written}
use Rattle.owner_commands.proofs.counting.desk.Goals as goal

pub returns-in_err-line-clause-promised : goal.returns-in_err-line-clause-promised
returns-in_err-line-clause-promised g c =
    let p = err_from_is_err_and c.from_residual.result c.from_residual.ensures.1 in
    rw (p.1, p.2)
    (desk_refused _ _ _ _ _ _ c.in_err-line.ensures.refused)

pub returns-clause-promised : goal.returns-clause-promised
returns-clause-promised g c =
    desk_written _ _ _ _ _ _ _ _ _ c.in_ok-line.ensures.usable c.in_ok-line.ensures.line c.deref.ensures.value c.write_text.ensures.writes
