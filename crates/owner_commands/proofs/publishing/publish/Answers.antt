use Rattle.std.proofs.lemmas.Result.{err_from_is_err_and}
use Rattle.std.proofs.Common.{refl, inl, inr}
use Rattle.road_io.specs.Causes.{Rose}
use Rattle.road_io.specs.Moments.{still_told}
use Rattle.owner_commands.specs.Publishing.{EndsPublish}
use Rattle.command_desks.proofs.Disks.{no_moment, no_step}
use Rattle.owner_commands.proofs.PublishLemmas.{publish_refused, published, published_lost, seals_none, loses_none, loses_none_unread, signs_file, stays_refused}
use Rattle.owner_commands.proofs.publishing.publish.Goals as goal

pub returns-in_err-parts-clause-stands : goal.returns-in_err-parts-clause-stands
returns-in_err-parts-clause-stands g c = no_step g.D.Disk c.args.disk.now

pub returns-in_err-publication-clause-promised : goal.returns-in_err-publication-clause-promised
returns-in_err-publication-clause-promised g c =
    let p = err_from_is_err_and c.from_residual-in_err-publication.result c.from_residual-in_err-publication.ensures.1 in
    rw (p.1, p.2)
    (publish_refused _ _ _ _ _ _ _ _ _ _ c.in_ok-parts.ensures.loads.read _ _ c.in_err-publication.ensures.refused)

pub returns-in_err-publication-clause-sealed : goal.returns-in_err-publication-clause-sealed
returns-in_err-publication-clause-sealed g c =
    let p = err_from_is_err_and c.from_residual-in_err-publication.result c.from_residual-in_err-publication.ensures.1 in
    rw (p.1, p.2) (seals_none g.D.Disk c.args.disk.now c.signed.new.disk (Rose (g.D.Disk.faults c.args.disk.now) (g.D.Disk.faults c.signed.new.disk)) (EndsPublish (still_told g.D.Disk c.args.disk.now c.signed.new.disk) c.args.settings.now c.in_ok-parts.parts) _ _ c.in_err-publication.field-0.0 c.in_err-publication.ensures.refused)

pub returns-in_err-publication-clause-signs : goal.returns-in_err-publication-clause-signs
returns-in_err-publication-clause-signs g c = signs_file g.D.Disk c.args.disk.now c.signed.new.disk _ _ _ _ c.in_ok-parts.ensures.loads.read c.in_err-publication.ensures.signs

pub returns-in_err-parts-clause-untouched : goal.returns-in_err-parts-clause-untouched
returns-in_err-parts-clause-untouched g c =
    let p = err_from_is_err_and c.from_residual.result c.from_residual.ensures.1 in
    rw (p.1, p.2) (stays_refused g.D.Disk c.args.disk.now c.args.disk.now _ (no_moment g.D.Disk c.args.disk.now))

pub returns-in_err-publication-clause-untouched : goal.returns-in_err-publication-clause-untouched
returns-in_err-publication-clause-untouched g c =
    let p = err_from_is_err_and c.from_residual-in_err-publication.result c.from_residual-in_err-publication.ensures.1 in
    rw (p.1, p.2) c.in_err-publication.ensures.untouched

pub returns-in-Err-send-clause-promised : goal.returns-in-Err-send-clause-promised
returns-in-Err-send-clause-promised g c =
    published _ _ _ _ _ _ _ _ _ _ c.in_ok-parts.ensures.loads.read _ g.D.Disk c.args.disk.now c.signed.new.disk refl _ c.in_ok-publication.ensures.sealed _ _ (inr (refl, c.in-Err-send.ensures.front, c.in-Err-send.ensures.cause.failed))

pub returns-in-Ok-send-clause-promised : goal.returns-in-Ok-send-clause-promised
returns-in-Ok-send-clause-promised g c =
    published _ _ _ _ _ _ _ _ _ _ c.in_ok-parts.ensures.loads.read _ g.D.Disk c.args.disk.now c.signed.new.disk refl _ c.in_ok-publication.ensures.sealed _ _ (inl (refl, c.in-Ok-send.ensures.whole))

pub returns-clause-promised : goal.returns-clause-promised
returns-clause-promised g c =
    published_lost _ _ _ _ _ _ _ _ _ _ c.in_ok-parts.ensures.loads.read _ g.D.Disk c.args.disk.now c.signed.new.disk refl _ c.in_ok-publication.ensures.sealed _ c.in-Ok-2.ensures.whole

pub returns-in-Err-send-clause-signs : goal.returns-in-Err-send-clause-signs
returns-in-Err-send-clause-signs g c = signs_file g.D.Disk c.args.disk.now c.signed.new.disk _ _ _ _ c.in_ok-parts.ensures.loads.read c.in_ok-publication.ensures.signs

pub returns-in-Ok-send-clause-signs : goal.returns-in-Ok-send-clause-signs
returns-in-Ok-send-clause-signs g c = signs_file g.D.Disk c.args.disk.now c.signed.new.disk _ _ _ _ c.in_ok-parts.ensures.loads.read c.in_ok-publication.ensures.signs

pub returns-clause-signs : goal.returns-clause-signs
returns-clause-signs g c = signs_file g.D.Disk c.args.disk.now c.signed.new.disk _ _ _ _ c.in_ok-parts.ensures.loads.read c.in_ok-publication.ensures.signs

pub returns-in_err-parts-clause-gone : goal.returns-in_err-parts-clause-gone
returns-in_err-parts-clause-gone g c =
    let p = err_from_is_err_and c.from_residual.result c.from_residual.ensures.1 in
    rw (p.1, p.2) (λ h. loses_none_unread _ _ _ _ _ _ g.D.Disk c.args.disk.now c.args.disk.now _ _ c.args.mirrors.now.items c.args.mirrors.now.items c.args.gone.now.items c.in_err-parts.field-0.0 c.in_err-parts.ensures.loads.others)

pub returns-in_err-publication-clause-gone : goal.returns-in_err-publication-clause-gone
returns-in_err-publication-clause-gone g c =
    let p = err_from_is_err_and c.from_residual-in_err-publication.result c.from_residual-in_err-publication.ensures.1 in
    rw (p.1, p.2) (λ h. loses_none _ _ _ _ _ _ g.D.Disk c.args.disk.now c.signed.new.disk _ _ c.args.mirrors.now.items c.args.mirrors.now.items c.args.gone.now.items (Rose (g.D.Disk.faults c.args.disk.now) (g.D.Disk.faults c.signed.new.disk)) (EndsPublish (still_told g.D.Disk c.args.disk.now c.signed.new.disk) c.args.settings.now c.in_ok-parts.parts) c.in_err-publication.field-0.0 c.in_err-publication.ensures.refused)

pub returns-in-Err-send-clause-gone : goal.returns-in-Err-send-clause-gone
returns-in-Err-send-clause-gone g c h = record {
  sealed = record { publication = _; on_disk = c.in_ok-publication.ensures.sealed.on_disk; written = c.in-Err-send.ensures.front; parted = c.in-Err-send.ensures.parted_front h };
  still = tt;
}

pub returns-in-Ok-send-clause-gone : goal.returns-in-Ok-send-clause-gone
returns-in-Ok-send-clause-gone g c h = record {
  sealed = record { publication = _; on_disk = c.in_ok-publication.ensures.sealed.on_disk; written = c.in-Ok-send.ensures.whole; parted = c.in-Ok-send.ensures.parted h };
  still = tt;
}

pub returns-clause-gone : goal.returns-clause-gone
returns-clause-gone g c h = record {
  sealed = record { publication = _; on_disk = c.in_ok-publication.ensures.sealed.on_disk; written = c.in-Ok-2.ensures.whole; parted = c.in-Ok-2.ensures.parted h };
  still = tt;
}
