use Rattle.std.proofs.Common.{ap, ◌∙◌}
use Rattle.std.proofs.lemmas.Result.{err_from_is_err_and}
use Rattle.road_io.specs.Causes.{Rose}
use Rattle.road_io.specs.Moments.{still_told}
use Rattle.road_io.proofs.StillTold.{told_between, told_same}
use Rattle.std.specs.declared.result.Result.TheVariants.{Err}
use Rattle.key_desk.specs.declared.desk.DeskError.TheVariants.{KeysUsedUp}
use Rattle.route_owner.specs.declared.errors.PublishError.TheVariants.{Desk}
use Rattle.command_files.specs.declared.fault.Fault.TheVariants as faults
use Rattle.owner_commands.proofs.NameLemmas.{keys_signed}
use Rattle.owner_commands.proofs.PublishLemmas.{not_opened, not_built, used_up, sealed_on_disk, all_spent, signs_after, stands_after, stays_opened, stays_refused}
use Rattle.owner_commands.proofs.publishing.signed.Goals as goal

pub returns-in_err-desk-clause-refused : goal.returns-in_err-desk-clause-refused
returns-in_err-desk-clause-refused g c =
    let p = err_from_is_err_and c.from_residual.result c.from_residual.ensures.1 in
    rw (p.1, p.2)
    (not_opened (Rose (g.D.Disk.faults c.args.disk.now) (g.D.Disk.faults c.open_desk.new.disk)) (still_told g.D.Disk c.args.disk.now c.open_desk.new.disk) c.args.settings.now c.args.parts c.in_err-desk.field-0.0 c.in_err-desk.ensures.refused)

pub returns-in-Ok-clause-sealed : goal.returns-in-Ok-clause-sealed
returns-in-Ok-clause-sealed g c =
    let o = c.in_ok-desk.ensures.opened in
    rw c.verified_publication.ensures
    (sealed_on_disk g.D.Disk c.args.disk.now c.open_desk.new.disk c.publish.new.disk c.in_ok-desk.desk c.args.parts c.args.settings.now _ (g.met.D.Disk.reads_image c.open_desk.new.disk)
    (told_between g.D.Disk c.args.disk.now c.open_desk.new.disk c.publish.new.disk _ (g.met.D.Disk.reads_image c.publish.new.disk) (g.met.D.Disk.image_tells c.open_desk.new.disk) o.content c.in-Ok.ensures.moments.each) o
    c.in-Ok.ensures.lowest c.in-Ok.ensures.published c.in-Ok.ensures.sealed
    (keys_signed g.D.Disk c.open_desk.new.disk c.publish.new.disk _ _ _ c.in-Ok.ensures.moments))

pub verified_publication-requires : goal.verified_publication-requires
verified_publication-requires g c = rw c.publish.ensures.same.key c.in-Ok.ensures.published.signed.good

pub returns-in-Ok-clause-signs : goal.returns-in-Ok-clause-signs
returns-in-Ok-clause-signs g c = signs_after g.D.Disk c.args.disk.now c.open_desk.new.disk c.publish.new.disk c.args.parts c.args.settings.now c.in_ok-desk.ensures.stays (c.in-Ok.ensures.lowest_moments c.in_ok-desk.ensures.opened.counts)

pub returns-in-Ok-clause-stands : goal.returns-in-Ok-clause-stands
returns-in-Ok-clause-stands g c =
    stands_after g.D.Disk c.args.disk.now c.open_desk.new.disk c.publish.new.disk c.args.parts c.args.settings.now (signs_after g.D.Disk c.args.disk.now c.open_desk.new.disk c.publish.new.disk c.args.parts c.args.settings.now c.in_ok-desk.ensures.stays (c.in-Ok.ensures.lowest_moments c.in_ok-desk.ensures.opened.counts))

pub returns-in-Err-Desk-KeysUsedUp-clause-signs : goal.returns-in-Err-Desk-KeysUsedUp-clause-signs
returns-in-Err-Desk-KeysUsedUp-clause-signs g c = signs_after g.D.Disk c.args.disk.now c.open_desk.new.disk c.publish.new.disk c.args.parts c.args.settings.now c.in_ok-desk.ensures.stays ((rw c.in-Err-Desk-KeysUsedUp.field-0-is at c.in-Err-Desk-KeysUsedUp.ensures.lowest_moments) c.in_ok-desk.ensures.opened.counts)

pub returns-in-Err-Desk-KeysUsedUp-clause-stands : goal.returns-in-Err-Desk-KeysUsedUp-clause-stands
returns-in-Err-Desk-KeysUsedUp-clause-stands g c =
    stands_after g.D.Disk c.args.disk.now c.open_desk.new.disk c.publish.new.disk c.args.parts c.args.settings.now (signs_after g.D.Disk c.args.disk.now c.open_desk.new.disk c.publish.new.disk c.args.parts c.args.settings.now c.in_ok-desk.ensures.stays ((rw c.in-Err-Desk-KeysUsedUp.field-0-is at c.in-Err-Desk-KeysUsedUp.ensures.lowest_moments) c.in_ok-desk.ensures.opened.counts))

pub returns-in-Err-Desk-DiskFault-clause-signs : goal.returns-in-Err-Desk-DiskFault-clause-signs
returns-in-Err-Desk-DiskFault-clause-signs g c = signs_after g.D.Disk c.args.disk.now c.open_desk.new.disk c.publish.new.disk c.args.parts c.args.settings.now c.in_ok-desk.ensures.stays ((rw c.in-Err-Desk-DiskFault.field-0-is at c.in-Err-Desk-DiskFault.ensures.lowest_moments) c.in_ok-desk.ensures.opened.counts)

pub returns-in-Err-Desk-DiskFault-clause-stands : goal.returns-in-Err-Desk-DiskFault-clause-stands
returns-in-Err-Desk-DiskFault-clause-stands g c =
    stands_after g.D.Disk c.args.disk.now c.open_desk.new.disk c.publish.new.disk c.args.parts c.args.settings.now (signs_after g.D.Disk c.args.disk.now c.open_desk.new.disk c.publish.new.disk c.args.parts c.args.settings.now c.in_ok-desk.ensures.stays ((rw c.in-Err-Desk-DiskFault.field-0-is at c.in-Err-Desk-DiskFault.ensures.lowest_moments) c.in_ok-desk.ensures.opened.counts))

pub returns-in-Err-Build-clause-refused : goal.returns-in-Err-Build-clause-refused
returns-in-Err-Build-clause-refused g c =
    let o = c.in_ok-desk.ensures.opened in
    rw c.not_built.ensures
    (not_built (Rose (g.D.Disk.faults c.args.disk.now) (g.D.Disk.faults c.publish.new.disk)) (still_told g.D.Disk c.args.disk.now c.publish.new.disk) c.args.settings.now c.args.parts c.in-Err-Build.fault
    (λ x is. o.usable x (told_same g.D.Disk c.args.disk.now c.open_desk.new.disk c.publish.new.disk o.content (rw c.in-Err-Build.field-0-is at c.in-Err-Build.ensures.untouched).1 x is))
    (c.in-Err-Build.ensures.no_book _ (ap (λ x. Err x) c.in-Err-Build.field-0-is)).0)

pub returns-in-Err-Desk-KeysUsedUp-clause-refused : goal.returns-in-Err-Desk-KeysUsedUp-clause-refused
returns-in-Err-Desk-KeysUsedUp-clause-refused g c =
    let o = c.in_ok-desk.ensures.opened in
    let u = c.in-Err-Desk-KeysUsedUp.ensures.used_up (ap (λ x. Err x) (c.in-Err-Desk-KeysUsedUp.field-0-is ∙ ap Desk c.in-Err-Desk-KeysUsedUp.field-0-0-is)) in
    let told = told_between g.D.Disk c.args.disk.now c.open_desk.new.disk c.publish.new.disk _ (g.met.D.Disk.reads_image c.publish.new.disk) (g.met.D.Disk.image_tells c.open_desk.new.disk) o.content ((rw c.in-Err-Desk-KeysUsedUp.field-0-is at c.in-Err-Desk-KeysUsedUp.ensures.lowest_moments) c.in_ok-desk.ensures.opened.counts).each in
    used_up (still_told g.D.Disk c.args.disk.now c.publish.new.disk) _ _ u.header (λ x is. o.usable x (told x is))
    (all_spent g.D.Disk c.args.disk.now c.open_desk.new.disk c.publish.new.disk c.in_ok-desk.desk o.fits o.is_open o.counts u.none_free (g.met.D.Disk.reads_image c.open_desk.new.disk) told) u.has

pub returns-in_err-desk-clause-untouched : goal.returns-in_err-desk-clause-untouched
returns-in_err-desk-clause-untouched g c =
    let p = err_from_is_err_and c.from_residual.result c.from_residual.ensures.1 in
    rw (p.1, p.2) (stays_refused g.D.Disk c.args.disk.now c.open_desk.new.disk _ c.in_err-desk.ensures.stays)

pub returns-in-Err-Build-clause-untouched : goal.returns-in-Err-Build-clause-untouched
returns-in-Err-Build-clause-untouched g c =
    stays_opened g.D.Disk c.args.disk.now c.open_desk.new.disk c.publish.new.disk _ c.in_ok-desk.ensures.stays (rw c.in-Err-Build.field-0-is at c.in-Err-Build.ensures.untouched).1

pub returns-in-Err-Desk-KeysUsedUp-clause-untouched : goal.returns-in-Err-Desk-KeysUsedUp-clause-untouched
returns-in-Err-Desk-KeysUsedUp-clause-untouched g c =
    stays_opened g.D.Disk c.args.disk.now c.open_desk.new.disk c.publish.new.disk faults.KeysUsedUp c.in_ok-desk.ensures.stays
    (c.in-Err-Desk-KeysUsedUp.ensures.unsigned KeysUsedUp (ap (λ x. Err x) (c.in-Err-Desk-KeysUsedUp.field-0-is ∙ ap Desk c.in-Err-Desk-KeysUsedUp.field-0-0-is)) (λ is. cc)).1
