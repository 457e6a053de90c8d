use Rattle.std.proofs.Common.{subst, arith}
use Rattle.octet_text.specs.Format.{Reads}
use Rattle.proof_octets.proofs.OutlineLaws.{outlined_is, outline_good}
use Rattle.proof_octets.proofs.outline.Outline.read.Goals as goal

pub returns-clause-reads : goal.returns-clause-reads
returns-clause-reads c = subst (Reads (λ o. o) c.read_whole.result) (outlined_is c.args.octets.now) c.read_whole.ensures

pub returns-clause-good : goal.returns-clause-good
returns-clause-good c =
    outline_good c.args.octets.now c.read_whole.result (λ i. omega (arith, c.type_inv.octets i)) (subst (Reads (λ o. o) c.read_whole.result) (outlined_is c.args.octets.now) c.read_whole.ensures)
