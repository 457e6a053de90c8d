use Rattle.octet_text.proofs.Writes.{then}
use Rattle.proof_octets.proofs.publication.RoadRowPutRow.put.Goals as goal

pub returns-clause-ok : goal.returns-clause-ok
returns-clause-ok c = then c.in_ok-put_u32.ensures.ok (then c.in_ok-put_u32-2.ensures.ok c.in_ok-put_u32-3.ensures.ok)
