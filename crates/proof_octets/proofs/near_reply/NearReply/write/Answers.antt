use Rattle.std.proofs.Common.{ℕ, List, ◌++◌, ap, ◌∙◌}
use Rattle.proof_octets.specs.NearWriting.{near_text}
use Rattle.proof_octets.proofs.NearFormat.{can_write, near_written}
use Rattle.proof_octets.proofs.near_reply.NearReply.write.Goals as goal

pub put_near-requires : goal.put_near-requires
put_near-requires c = can_write c.args.self.now c.requires

pub returns : goal.returns
returns c =
    c.in_ok-put_near.ensures.is ∙ ap (λ (t : List ℕ). t ++ near_text c.args.self.now) c.new-out.ensures.items ∙ near_written c.args.self.now c.requires
