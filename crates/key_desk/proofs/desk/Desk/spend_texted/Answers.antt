use Rattle.key_desk.proofs.Spending.{spends_after, stays_twice, spent_of_read}
use Rattle.key_desk.proofs.desk.Desk.spend_texted.Goals as goal

pub returns-in_err-open_texted-in-Some-clause-spends :
    goal.returns-in_err-open_texted-in-Some-clause-spends
returns-in_err-open_texted-in-Some-clause-spends g c = spends_after g.D.Disk c.args.disk.now c.texted.new.disk c.open_texted.new.disk (stays_twice g.D.Disk c.args.disk.now c.reopen.new.disk c.texted.new.disk c.reopen.ensures.moments c.texted.ensures.moments) c.open_texted.ensures.moments

pub returns-clause-spends : goal.returns-clause-spends
returns-clause-spends g c = spends_after g.D.Disk c.args.disk.now c.texted.new.disk c.open_texted.new.disk (stays_twice g.D.Disk c.args.disk.now c.reopen.new.disk c.texted.new.disk c.reopen.ensures.moments c.texted.ensures.moments) c.open_texted.ensures.moments

pub returns-clause-spent : goal.returns-clause-spent
returns-clause-spent g c = spent_of_read g.D.Disk c.reopen.new.disk c.texted.new.disk c.open_texted.new.disk (g.D.Disk.content c.args.disk.now) c.in-Some.number c.in_ok-desk.ensures.one c.texted.ensures.moments c.in_ok-open_texted-in-Some.ensures.spent

pub returns-in-None-clause-nothing : goal.returns-in-None-clause-nothing
returns-in-None-clause-nothing g c = stays_twice g.D.Disk _ _ _ c.reopen.ensures.moments c.texted.ensures.moments
