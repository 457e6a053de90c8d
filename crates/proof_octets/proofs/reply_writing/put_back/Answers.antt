use Rattle.octet_text.proofs.Writes.{then}
use Rattle.proof_octets.proofs.reply_writing.put_back.Goals as goal

pub returns : goal.returns
returns c = then c.in_ok-put_pair_items.ensures (then c.in_ok-put_digests.ensures.ok c.in_ok-put_digests-2.ensures.ok)
