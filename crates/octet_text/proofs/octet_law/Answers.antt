use Rattle.std.proofs.Common.{arith}
use Rattle.octet_text.proofs.octet_law.Goals as goal

pub returns : goal.returns
returns c = λ i. omega (arith, c.type_inv.text i)
