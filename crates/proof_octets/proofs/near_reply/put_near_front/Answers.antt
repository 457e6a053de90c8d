use Rattle.std.proofs.Common.{subst}
use Rattle.octet_text.specs.Puts.{Puts}
use Rattle.octet_text.proofs.Writes.{then}
use Rattle.proof_octets.proofs.near_reply.put_near_front.Goals as goal

pub returns : goal.returns
returns c =
    then c.in_ok-put_octets.ensures.ok (then (subst (λ t. Puts c.put_octets.new.out.items c.put_octets-2.new.out.items t) c.write.ensures c.in_ok-put_octets-2.ensures.ok) c.in_ok-put_signature.ensures.ok)
