use Rattle.std.proofs.lemmas.Result.{err_from_is_err_and}
use Rattle.command_desks.proofs.Disks.{no_moment, no_step}
use Rattle.std.proofs.Common.{refl, inl, inr}
use Rattle.owner_commands.proofs.OwnerLemmas.{key_refused, key_told, makes_key, on_any, written_stays}
use Rattle.owner_commands.proofs.PublishLemmas.{stays_refused}
use Rattle.owner_commands.proofs.making.key.Goals as goal

pub returns-in_err-secret-clause-stands : goal.returns-in_err-secret-clause-stands
returns-in_err-secret-clause-stands g c = no_step g.D.Disk c.args.disk.now

pub returns-in_err-line-clause-promised : goal.returns-in_err-line-clause-promised
returns-in_err-line-clause-promised g c =
    let p = err_from_is_err_and c.from_residual-in_err-line.result c.from_residual-in_err-line.ensures.1 in
    rw (p.1, p.2)
    (key_refused _ _ _ _ _ _ _ _ _ _ c.in_ok-secret.ensures.loads.read _ _ c.in_err-line.ensures.refused)

pub returns-clause-promised : goal.returns-clause-promised
returns-clause-promised g c =
    key_told _ _ _ _ _ _ _ _ _ _ c.in_ok-secret.ensures.loads.read _ _ _ _ _ refl c.in_ok-line.ensures.line c.write_text.ensures.writes

pub returns-clause-made : goal.returns-clause-made
returns-clause-made g c =
    on_any _ _ (makes_key g.D.Disk c.make_key.new.disk _ _ _ c.in_ok-secret.secret c.in_ok-secret.ensures.loads.read c.in_ok-line.ensures.made c.in_ok-line.ensures.names)

pub returns-clause-kept : goal.returns-clause-kept
returns-clause-kept g c = λ x is opened e. c.in_ok-line.ensures.line.0 x is opened

pub returns-in_err-secret-clause-moments : goal.returns-in_err-secret-clause-moments
returns-in_err-secret-clause-moments g c = inl (no_moment g.D.Disk c.args.disk.now)

pub returns-in_err-secret-clause-untouched : goal.returns-in_err-secret-clause-untouched
returns-in_err-secret-clause-untouched g c =
    let p = err_from_is_err_and c.from_residual.result c.from_residual.ensures.1 in
    rw (p.1, p.2) (stays_refused g.D.Disk c.args.disk.now c.args.disk.now _ (no_moment g.D.Disk c.args.disk.now))

pub returns-in_err-line-clause-moments : goal.returns-in_err-line-clause-moments
returns-in_err-line-clause-moments g c = inr (record { secret = c.in_ok-secret.secret; of_file = c.in_ok-secret.ensures.loads.read; turns = c.make_key.ensures.moments })

pub returns-in_err-line-clause-untouched : goal.returns-in_err-line-clause-untouched
returns-in_err-line-clause-untouched g c =
    let p = err_from_is_err_and c.from_residual-in_err-line.result c.from_residual-in_err-line.ensures.1 in
    rw (p.1, p.2) c.in_err-line.ensures.untouched

pub returns-clause-moments : goal.returns-clause-moments
returns-clause-moments g c = inr (record { secret = c.in_ok-secret.secret; of_file = c.in_ok-secret.ensures.loads.read; turns = c.make_key.ensures.moments })

pub returns-clause-untouched : goal.returns-clause-untouched
returns-clause-untouched g c = written_stays g.D.Disk c.args.disk.now c.make_key.new.disk _ _ _ _ _ _ c.write_text.ensures.writes
