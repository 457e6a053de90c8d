use Rattle.audit_commands.proofs.SlotLemmas.{ok_then, failed_then, told_spent, told_short}
use Rattle.audit_commands.proofs.slots.spent_of.Goals as goal

pub returns-in-None-clause-spent : goal.returns-in-None-clause-spent
returns-in-None-clause-spent g c i now = c.in-None.ensures.none i (c.requires.fits.areas i now)

pub returns-in-Some-clause-spent : goal.returns-in-Some-clause-spent
returns-in-Some-clause-spent g c =
    let is = c.in-Some.ensures.some in
    ok_then c.text_of.result _ _ (λ found told. told_spent g.D.Disk c.text_of.new.disk c.args.area c.in-Some.slot c.args.sig.now c.text_of.new.into found is.long is.number told) c.text_of.ensures.text

pub returns-in-Some-clause-short : goal.returns-in-Some-clause-short
returns-in-Some-clause-short g c = ok_then c.text_of.result _ _ (λ found told. told_short g.D.Disk c.text_of.new.disk _ c.text_of.new.into found told) c.text_of.ensures.text

pub returns-in-Some-clause-failed : goal.returns-in-Some-clause-failed
returns-in-Some-clause-failed g c =
    failed_then c.text_of.result c.args.desk.now.is_open _ c.requires.opened c.text_of.ensures.fault c.text_of.ensures.closed c.text_of.ensures.not_used_up
