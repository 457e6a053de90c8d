use Rattle.std.proofs.lemmas.Result.{err_from_is_err_and}
use Rattle.server_commands.proofs.ProveLemmas.{prove_refused, reply_told}
use Rattle.server_commands.proofs.proving.prove.Goals as goal

pub returns-in_err-told-clause-promised : goal.returns-in_err-told-clause-promised
returns-in_err-told-clause-promised g c =
    let p = err_from_is_err_and c.from_residual-in_err-told.result c.from_residual-in_err-told.ensures.1 in
    rw (p.1, p.2)
    (prove_refused _ _ _ _ _ _ _ _ c.in_ok-publication.ensures.loads.read _ _ c.in_err-told.ensures.refused)

pub returns-clause-promised : goal.returns-clause-promised
returns-clause-promised g c =
    reply_told _ _ _ _ _ _ _ _ c.in_ok-publication.ensures.loads.read _ _ _ _ _ c.in_ok-told.ensures.installable c.in_ok-told.ensures.told c.write_told.ensures.writes
