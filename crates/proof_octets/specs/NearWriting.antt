-- The octets that the writer of a reply appends, whatever the kind of the leaves, and the writer's requirements.
use Rattle.std.specs.Prelude.{ℕ, ◌^◌, ◌<◌, List, ◌++◌, length}
use Rattle.proof_octets.specs.declared.header.Header.{Header}
use Rattle.proof_octets.specs.Headers.{header}
use Rattle.proof_octets.specs.Replies.{signature, digests}
use Rattle.proof_octets.specs.Writing.{items_text, CanPut}
use Rattle.proof_octets.specs.declared.near_reply.NearReply.{NearReply}
use Rattle.proof_octets.specs.NearReplies.{near_name}

-- everything before the node items of a reply: its name, the header and its signature
abbrev pub near_front : Header → List ℕ → List ℕ
near_front h s = near_name ++ (header.spell h ++ signature.spell s)

unfoldable pub near_text : NearReply → List ℕ
near_text a = near_name ++ (header.spell a.header ++
    (signature.spell a.signature ++ (items_text a.places a.nodes ++ digests.spell a.cover)))

pub record CanWriteNear (a : NearReply) : Type 0 where
  pub signature : length a.signature < 2 ^ 16
  pub nodes : CanPut a.places a.nodes
  pub cover : length a.cover < 2 ^ 32
