use Rattle.std.proofs.Common.{arith}
use Rattle.desk_areas.proofs.Moments.{stays_twice, stays_thrice}
use Rattle.desk_areas.proofs.making.look_for_key.Goals as goal

pub returns-in_err-len-clause-moments : goal.returns-in_err-len-clause-moments
returns-in_err-len-clause-moments g c = stays_twice g.D.Disk _ _ _ c.sync.ensures.moments c.len.ensures.moments

pub returns-in_err-read_at-clause-moments : goal.returns-in_err-read_at-clause-moments
returns-in_err-read_at-clause-moments g c = stays_thrice g.D.Disk _ _ _ _ c.sync.ensures.moments c.len.ensures.moments c.read_at.ensures.moments

pub returns-then-gate-ne0-clause-moments : goal.returns-then-gate-ne0-clause-moments
returns-then-gate-ne0-clause-moments g c = stays_thrice g.D.Disk _ _ _ _ c.sync.ensures.moments c.len.ensures.moments c.read_at.ensures.moments

pub returns-else-gate-ne0-clause-moments : goal.returns-else-gate-ne0-clause-moments
returns-else-gate-ne0-clause-moments g c = stays_thrice g.D.Disk _ _ _ _ c.sync.ensures.moments c.len.ensures.moments c.read_at.ensures.moments

pub returns-else-len-ge64-clause-moments : goal.returns-else-len-ge64-clause-moments
returns-else-len-ge64-clause-moments g c = stays_twice g.D.Disk _ _ _ c.sync.ensures.moments c.len.ensures.moments
