use Rattle.std.proofs.Common.{◌∙◌}
use Rattle.std.proofs.lemmas.Result.{err_from_is_err_and}
use Rattle.road_io.specs.Causes.{Rose}
use Rattle.road_io.specs.Disk.{Stays}
use Rattle.road_io.specs.Moments.{still_told}
use Rattle.road_io.proofs.StillTold.{seen_still, told_between}
use Rattle.command_files.specs.declared.told.Told.{Told}
use Rattle.command_desks.proofs.Openings.{stays_twice}
use Rattle.key_desk.specs.declared.desk.DeskError.TheVariants.{DiskFault}
use Rattle.audit_commands.specs.Headline.{ClashIn, IsBrought}
use Rattle.audit_commands.proofs.Steps.{if_ok, if_err}
use Rattle.audit_commands.proofs.AuditLemmas.{ends_of, why_not, look_failed, not_opened, not_opened_rests, rests_on, rests_otherwise}
use Rattle.audit_commands.proofs.auditing.find.Goals as goal

pub returns-in_err-desk-clause-refused : goal.returns-in_err-desk-clause-refused
returns-in_err-desk-clause-refused g c =
    let p = err_from_is_err_and c.from_residual.result c.from_residual.ensures.1 in
    rw (p.1, p.2)
    (not_opened g.T.Kind.Replies.kind g.T.Telling.refused (Rose (g.D.Disk.faults c.args.disk.now) (g.D.Disk.faults c.open_desk.new.disk)) (still_told g.D.Disk c.args.disk.now c.open_desk.new.disk) c.args.key.now c.args.links.now c.args.publication c.args.reply.now c.args.query c.in_err-desk.field-0.0 c.in_err-desk.ensures.refused)

pub returns-in_err-desk-clause-others : goal.returns-in_err-desk-clause-others
returns-in_err-desk-clause-others g c =
    let p = err_from_is_err_and c.from_residual.result c.from_residual.ensures.1 in
    rw (p.1, p.2)
    (not_opened_rests g.D.Disk c.open_desk.new.disk (IsBrought g.T.Kind.Replies.kind c.args.reply.now) (ClashIn g.T.Kind.Replies.kind c.args.publication c.args.reply.now) (Rose (g.D.Disk.faults c.args.disk.now) (g.D.Disk.faults c.open_desk.new.disk)) (still_told g.D.Disk c.args.disk.now c.open_desk.new.disk) c.args.key.now c.args.links.now c.in_err-desk.field-0.0 c.in_err-desk.ensures.refused)

pub returns-clause-told : goal.returns-clause-told
returns-clause-told g c =
    let o = c.in_ok-desk.ensures.opened in
    let reads = g.met.D.Disk.reads_image c.audit_reply-answer.new.disk in
    let stays = c.audit_reply-answer.ensures.left.moments in
    let seen = seen_still g.D.Disk c.args.disk.now c.open_desk.new.disk c.audit_reply-answer.new.disk reads stays o.one in
    let between = told_between g.D.Disk c.args.disk.now c.open_desk.new.disk c.audit_reply-answer.new.disk Stays reads (g.met.D.Disk.image_tells c.open_desk.new.disk) o.content stays in
    if_ok _ _ _
    (λ (told : Told). λ h. ends_of g.D.Disk c.args.disk.now c.open_desk.new.disk c.audit_reply-answer.new.disk c.in_ok-desk.desk
    seen (λ x is. o.areas x (between x is)) o.fits g.T.Kind.Replies.kind g.T.Telling.refused c.laws.ensures c.args.key.now c.args.links.now c.args.reply.now c.args.query c.args.publication (λ x is. o.usable x (between x is))
    c.audit_reply-answer.result told.end told.text.items c.audit_reply-answer.ensures.finds h)
    c.tell.ensures.told

pub returns-clause-rests : goal.returns-clause-rests
returns-clause-rests g c =
    let o = c.in_ok-desk.ensures.opened in
    let reads = g.met.D.Disk.reads_image c.audit_reply-answer.new.disk in
    let stays = c.audit_reply-answer.ensures.left.moments in
    let seen = seen_still g.D.Disk c.args.disk.now c.open_desk.new.disk c.audit_reply-answer.new.disk reads stays o.one in
    let between = told_between g.D.Disk c.args.disk.now c.open_desk.new.disk c.audit_reply-answer.new.disk Stays reads (g.met.D.Disk.image_tells c.open_desk.new.disk) o.content stays in
    if_ok _ _ _
    (λ (told : Told). λ h. rests_on g.D.Disk c.args.disk.now c.open_desk.new.disk c.audit_reply-answer.new.disk c.in_ok-desk.desk
    seen (λ x is. o.areas x (between x is)) o.fits g.T.Kind.Replies.kind g.T.Telling.refused c.laws.ensures c.args.key.now c.args.links.now c.args.reply.now c.args.query c.args.publication
    c.audit_reply-answer.ensures.left.moments c.audit_reply-answer.result told.end told.text.items c.audit_reply-answer.ensures.finds h)
    c.tell.ensures.told

pub returns-clause-others : goal.returns-clause-others
returns-clause-others g c =
    let o = c.in_ok-desk.ensures.opened in
    let reads = g.met.D.Disk.reads_image c.audit_reply-answer.new.disk in
    let stays = c.audit_reply-answer.ensures.left.moments in
    let seen = seen_still g.D.Disk c.args.disk.now c.open_desk.new.disk c.audit_reply-answer.new.disk reads stays o.one in
    let between = told_between g.D.Disk c.args.disk.now c.open_desk.new.disk c.audit_reply-answer.new.disk Stays reads (g.met.D.Disk.image_tells c.open_desk.new.disk) o.content stays in
    if_err _ _ _
    (λ f h. rests_otherwise g.D.Disk c.args.disk.now c.open_desk.new.disk c.audit_reply-answer.new.disk c.in_ok-desk.desk
    seen (λ x is. o.areas x (between x is)) o.fits g.T.Kind.Replies.kind g.T.Telling.refused c.laws.ensures c.args.key.now c.args.links.now c.args.reply.now c.args.query c.args.publication
    c.audit_reply-answer.ensures.left.moments c.audit_reply-answer.result f c.audit_reply-answer.ensures.finds h)
    c.tell.ensures.refused

pub returns-clause-refused : goal.returns-clause-refused
returns-clause-refused g c =
    let o = c.in_ok-desk.ensures.opened in
    let reads = g.met.D.Disk.reads_image c.audit_reply-answer.new.disk in
    let stays = c.audit_reply-answer.ensures.left.moments in
    let seen = seen_still g.D.Disk c.args.disk.now c.open_desk.new.disk c.audit_reply-answer.new.disk reads stays o.one in
    let between = told_between g.D.Disk c.args.disk.now c.open_desk.new.disk c.audit_reply-answer.new.disk Stays reads (g.met.D.Disk.image_tells c.open_desk.new.disk) o.content stays in
    if_err _ _ _
    (λ f h. why_not g.D.Disk c.args.disk.now c.open_desk.new.disk c.audit_reply-answer.new.disk c.in_ok-desk.desk
    seen (λ x is. o.areas x (between x is)) o.fits g.T.Kind.Replies.kind g.T.Telling.refused c.laws.ensures c.args.key.now c.args.links.now c.args.reply.now c.args.query c.args.publication _ (λ x is. o.usable x (between x is)) c.audit_reply-answer.result
    (look_failed g.D.Disk c.args.disk.now c.open_desk.new.disk c.audit_reply-answer.new.disk c.in_ok-desk.desk
    seen (λ x is. o.areas x (between x is)) o.fits g.T.Kind.Replies.kind g.T.Telling.refused c.laws.ensures c.args.key.now c.args.links.now c.args.reply.now c.args.query c.args.publication o.is_open c.in_ok-desk.ensures.faults c.audit_reply-answer.result c.audit_reply-answer.ensures.finds)
    f c.audit_reply-answer.ensures.finds h)
    c.tell.ensures.refused

pub returns-clause-stays : goal.returns-clause-stays
returns-clause-stays g c =
    stays_twice g.D.Disk c.args.disk.now c.open_desk.new.disk c.audit_reply-answer.new.disk c.in_ok-desk.ensures.stays c.audit_reply-answer.ensures.left.moments

pub returns-clause-unfaulted : goal.returns-clause-unfaulted
returns-clause-unfaulted g c other = c.audit_reply-answer.ensures.kept (λ is. other (c.tell.ensures.desk DiskFault is)) ∙ c.in_ok-desk.ensures.unfaulted (λ e. cc)
