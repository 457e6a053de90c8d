-- Comparing a reply for a radius with a held book.
use Rattle.std.specs.Prelude.{ℕ, List}
use Rattle.route_server.specs.Headers.{node_texts}
use Rattle.route_server.specs.Keeping.{Kept}
use Rattle.route_audit.specs.Comparing.{part_under}
use Rattle.octet_text.specs.Collisions.{AreCollision}
use Rattle.route_audit.specs.Evidence.{Part, IsTreesOwn, Clashes, two_texts}
use Rattle.route_audit.specs.declared.finding.Finding.{Finding}
use Rattle.route_audit.specs.declared.finding.Finding.TheVariants.{Right, Collision, Forged}
use Rattle.proof_octets.specs.declared.near_reply.NearReply.{NearReply}

-- the part that a reply carries of the node tree of a held book
abbrev pub part_of : Kept → NearReply → Part
part_of k a = part_under k 1 a.places (node_texts a.nodes) a.cover

-- the result of a comparison in the node tree
abbrev pub Compares : (List ℕ → List ℕ) → Part → Finding → Type 0
Compares hash part Right = IsTreesOwn hash part
Compares hash part (Collision left right) = AreCollision hash left right ×
    Clashes hash part (two_texts left right)
Compares hash part (Forged key text signature) = ⊥
