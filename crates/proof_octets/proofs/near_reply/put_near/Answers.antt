use Rattle.std.proofs.Common.{List, ℕ, ◌++◌, subst}
use Rattle.octet_text.specs.Puts.{Puts}
use Rattle.octet_text.proofs.Writes.{then}
use Rattle.proof_octets.specs.NearWriting.{near_front, near_text}
use Rattle.proof_octets.specs.Replies.{digests}
use Rattle.proof_octets.specs.Writing.{items_text}
use Rattle.proof_octets.proofs.NearFormat.{near_first}
use Rattle.proof_octets.proofs.near_reply.put_near.Goals as goal

pub returns : goal.returns
unfolding near_text
returns c =
    let a = c.args.reply.now in
    let rest = items_text a.places a.nodes ++ digests.spell a.cover in
    let front = subst (λ (s : List ℕ). Puts c.args.out.now.items c.put_near_front.new.out.items (near_front a.header s)) c.as_slice.ensures c.in_ok-put_near_front.ensures in
    subst (λ (t : List ℕ). Puts c.args.out.now.items c.put_digests.new.out.items t) (near_first a.header a.signature rest) (then front (then c.in_ok-put_node_items.ensures.ok c.in_ok-put_digests.ensures.ok))
