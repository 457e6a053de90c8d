use Rattle.std.proofs.lemmas.Result.{err_from_is_err_and}
use Rattle.road_io.specs.Causes.{Rose}
use Rattle.road_io.specs.Disk.{Stays}
use Rattle.road_io.specs.Moments.{still_told}
use Rattle.road_io.proofs.StillTold.{narrowed, seen_still, told_between}
use Rattle.command_files.specs.declared.told.Told.{Told}
use Rattle.audit_commands.proofs.SlotLemmas.{ok_then}
use Rattle.audit_commands.proofs.ReduceLemmas.{told_ends, told_rests, other_key, not_opened}
use Rattle.audit_commands.proofs.reducing.find.Goals as goal

pub returns-in_err-desk-clause-refused : goal.returns-in_err-desk-clause-refused
returns-in_err-desk-clause-refused g c =
    let p = err_from_is_err_and c.from_residual.result c.from_residual.ensures.1 in
    rw (p.1, p.2)
    (not_opened (Rose (g.D.Disk.faults c.args.disk.now) (g.D.Disk.faults c.open_desk.new.disk)) (still_told g.D.Disk c.args.disk.now c.open_desk.new.disk) c.args.public.now c.args.text.now c.args.sig.now c.in_err-desk.field-0.0 c.in_err-desk.ensures.refused)

pub returns-in-None-clause-refused : goal.returns-in-None-clause-refused
returns-in-None-clause-refused g c =
    other_key g.D.Disk c.args.disk.now c.open_desk.new.disk c.open_desk.new.disk c.in_ok-desk.desk c.args.public.now c.args.text.now c.args.sig.now c.in_ok-desk.ensures.opened (narrowed _ _ c.in_ok-desk.ensures.opened.content)
    (Rose (g.D.Disk.faults c.args.disk.now) (g.D.Disk.faults c.open_desk.new.disk)) c.in-None.ensures.none

pub returns-clause-told : goal.returns-clause-told
returns-clause-told g c =
    let found = c.in-Some.ensures.found in
    let o = c.in_ok-desk.ensures.opened in
    let reads = g.met.D.Disk.reads_image c.find_in.new.disk in
    let seen = seen_still g.D.Disk c.args.disk.now c.open_desk.new.disk c.find_in.new.disk reads c.find_in.ensures.stays o.one in
    let between = told_between g.D.Disk c.args.disk.now c.open_desk.new.disk c.find_in.new.disk Stays reads (g.met.D.Disk.image_tells c.open_desk.new.disk) o.content c.find_in.ensures.stays in
    ok_then c.find_in.result _ _
    (λ (told : Told). λ h. told_ends g.D.Disk c.args.disk.now c.open_desk.new.disk c.find_in.new.disk c.in_ok-desk.desk c.args.public.now c.args.text.now c.args.sig.now o between seen c.in-Some.area told.end told.text.items found.0 found.1 h)
    c.find_in.ensures.told

pub returns-clause-rests : goal.returns-clause-rests
returns-clause-rests g c =
    let found = c.in-Some.ensures.found in
    ok_then c.find_in.result _ _
    (λ (told : Told). λ h. told_rests c.released_laws.ensures.shows g.D.Disk c.open_desk.new.disk c.find_in.new.disk c.in_ok-desk.desk c.in-Some.area c.args.text.now c.args.sig.now c.in_ok-desk.ensures.opened.fits found.0 c.find_in.ensures.stays told.end told.text.items h)
    c.find_in.ensures.told
