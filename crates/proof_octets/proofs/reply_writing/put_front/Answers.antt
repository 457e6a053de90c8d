use Rattle.std.proofs.Common.{subst}
use Rattle.octet_text.specs.Puts.{Puts}
use Rattle.octet_text.proofs.Writes.{then}
use Rattle.proof_octets.proofs.reply_writing.put_front.Goals as goal

pub returns : goal.returns
returns c =
    then (subst (λ t. Puts c.args.out.now.items c.put_octets.new.out.items t) c.write.ensures c.in_ok-put_octets.ensures.ok) (then c.in_ok-put_signature.ensures.ok c.in_ok-put_way.ensures.ok)
