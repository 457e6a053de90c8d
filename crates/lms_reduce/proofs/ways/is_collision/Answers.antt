use Rattle.std.proofs.Common.{arith}
use Rattle.lms_reduce.proofs.ways.is_collision.Goals as goal

pub returns-then-not-is_same-clause-octets : goal.returns-then-not-is_same-clause-octets
returns-then-not-is_same-clause-octets c = (λ i. omega (arith, c.type_inv.left i), λ i. omega (arith, c.type_inv.right i))

pub returns-else-not-is_same-clause-octets : goal.returns-else-not-is_same-clause-octets
returns-else-not-is_same-clause-octets c = (λ i. omega (arith, c.type_inv.left i), λ i. omega (arith, c.type_inv.right i))
