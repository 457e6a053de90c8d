use Rattle.std.proofs.Common.{refl, inl, inr, arith}
use Rattle.std.proofs.lemmas.Result.{err_from_is_err_and}
use Rattle.road_io.specs.Moments.{still_told}
use Rattle.road_command.specs.View.{type_of}
use Rattle.command_desks.proofs.Disks.{no_moment, no_step}
use Rattle.owner_commands.proofs.OwnerLemmas.{written_stays}
use Rattle.owner_commands.proofs.PublishLemmas.{stays_refused}
use Rattle.road_io.specs.Causes.{Rose}
use Rattle.owner_commands.specs.NextKey.{EndsSuccession}
use Rattle.owner_commands.proofs.StandingLemmas.{no_keys, on_writing, none_written, files_written}
use Rattle.owner_commands.proofs.SuccessionLemmas.{next_refused, next_told, links_file}
use Rattle.owner_commands.proofs.succeeding.succeed.Goals as goal

pub returns-in_err-secret-clause-stands : goal.returns-in_err-secret-clause-stands
returns-in_err-secret-clause-stands g c = no_step g.D.Disk c.args.disk.now

pub returns-in_err-secret-clause-adds : goal.returns-in_err-secret-clause-adds
returns-in_err-secret-clause-adds g c =
    let p = err_from_is_err_and c.from_residual.result c.from_residual.ensures.1 in
    rw (p.1, p.2)
    (record {
      made = files_written c.in_err-secret.field-0.0 _ c.in_err-secret.ensures.loads.others;
      links = inl (no_moment g.D.Disk c.args.disk.now);
      keys = no_keys g.D.Disk c.args.disk.now;
      follows = files_written c.in_err-secret.field-0.0 _ c.in_err-secret.ensures.loads.others;
      untouched = stays_refused g.D.Disk c.args.disk.now c.args.disk.now _ (no_moment g.D.Disk c.args.disk.now);
      few = omega arith;
    })

pub returns-in_err-line-clause-promised : goal.returns-in_err-line-clause-promised
returns-in_err-line-clause-promised g c =
    let p = err_from_is_err_and c.from_residual-in_err-line.result c.from_residual-in_err-line.ensures.1 in
    rw (p.1, p.2)
    (next_refused _ _ _ _ _ _ _ _ _ _ c.in_ok-secret.ensures.loads.read _ _ c.in_err-line.ensures.refused)

pub returns-in_err-line-clause-adds : goal.returns-in_err-line-clause-adds
returns-in_err-line-clause-adds g c =
    let p = err_from_is_err_and c.from_residual-in_err-line.result c.from_residual-in_err-line.ensures.1 in
    rw (p.1, p.2)
    (record {
      made = none_written (Rose (g.D.Disk.faults c.args.disk.now) (g.D.Disk.faults c.make_next.new.disk)) (EndsSuccession (still_told g.D.Disk c.args.disk.now c.make_next.new.disk) (type_of c.args.kind) c.in_ok-secret.secret) c.in_err-line.field-0.0 _ c.in_err-line.ensures.refused;
      links = inr (links_file _ _ _ (still_told g.D.Disk c.args.disk.now c.make_next.new.disk) _ (Unit {0}) 0 0 0 0 c.in_ok-secret.ensures.loads.read (still_told g.D.Disk c.args.disk.now c.make_next.new.disk) g.D.Disk c.args.disk.now c.make_next.new.disk c.make_next.ensures.links c.make_next.ensures.raises);
      keys = c.make_next.ensures.keys;
      follows = none_written (Rose (g.D.Disk.faults c.args.disk.now) (g.D.Disk.faults c.make_next.new.disk)) (EndsSuccession (still_told g.D.Disk c.args.disk.now c.make_next.new.disk) (type_of c.args.kind) c.in_ok-secret.secret) c.in_err-line.field-0.0 _ c.in_err-line.ensures.refused;
      untouched = c.in_err-line.ensures.untouched;
      few = c.make_next.ensures.few;
    })

pub returns-clause-promised : goal.returns-clause-promised
returns-clause-promised g c =
    next_told _ _ _ _ _ _ _ _ _ _ c.in_ok-secret.ensures.loads.read _ _ _ _ _ refl c.in_ok-line.ensures.line c.write_text.ensures.writes

pub returns-clause-adds : goal.returns-clause-adds
returns-clause-adds g c = record {
  made = on_writing c.write_text.result _ (record { secret = c.in_ok-secret.secret; of_file = c.in_ok-secret.ensures.loads.read; unspent = c.in_ok-line.ensures.made });
  links = inr (links_file _ _ _ (still_told g.D.Disk c.args.disk.now c.make_next.new.disk) _ (Unit {0}) 0 0 0 0 c.in_ok-secret.ensures.loads.read (still_told g.D.Disk c.args.disk.now c.make_next.new.disk) g.D.Disk c.args.disk.now c.make_next.new.disk c.make_next.ensures.links c.make_next.ensures.raises);
  keys = c.make_next.ensures.keys;
  follows = on_writing c.write_text.result _ (record { secret = c.in_ok-secret.secret; of_file = c.in_ok-secret.ensures.loads.read; follows = c.in_ok-line.ensures.follows });
  untouched = written_stays g.D.Disk c.args.disk.now c.make_next.new.disk _ _ _ _ _ _ c.write_text.ensures.writes;
  few = c.make_next.ensures.few;
}
