use Rattle.desk_sight.proofs.LookSteps.{idle, publish_spends, succeed_spends}
use Rattle.desk_sight.proofs.looking.spend.Goals as goal

pub returns-in-Publish-clause-spends : goal.returns-in-Publish-clause-spends
returns-in-Publish-clause-spends g c = publish_spends g.D.Disk c.args.what c.args.disk.now c.spend_header.new.disk c.in-Publish.is c.spend_header.ensures.spends

pub returns-in-Succeed-clause-spends : goal.returns-in-Succeed-clause-spends
returns-in-Succeed-clause-spends g c = succeed_spends g.D.Disk c.args.what c.args.disk.now c.spend_link.new.disk c.in-Succeed.is c.spend_link.ensures.spends

pub returns-in-Key-clause-spends : goal.returns-in-Key-clause-spends
returns-in-Key-clause-spends g c = idle g.D.Disk c.args.what c.args.disk.now

pub returns-in-Succeed-clause-strange : goal.returns-in-Succeed-clause-strange
returns-in-Succeed-clause-strange g c e is = let s = c.spend_link.ensures.strange e is in (s.0, c.in-Succeed.is, s.1)
