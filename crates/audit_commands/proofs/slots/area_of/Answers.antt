use Rattle.std.proofs.Common.{arith}
use Rattle.audit_commands.proofs.slots.area_of.Goals as goal

pub returns-clause-none : goal.returns-clause-none
returns-clause-none c a le = c.loop-area.invariant a (omega arith)
