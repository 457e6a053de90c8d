-- The format of the reply to a query for the nodes within a radius, and which replies have an encoding.
use Rattle.std.specs.Prelude.{◌≡◌, ℕ, ◌≤◌, List, [], ◌∷◌, take, length, All}
use Rattle.octet_text.specs.Format.{Format, behind, seq, mapped}
use Rattle.road_leaf.specs.declared.leaf.NodeLeaf.{NodeLeaf}
use Rattle.road_leaf.specs.Leaves.{node_leaf}
use Rattle.proof_octets.specs.declared.header.Header.{Header}
use Rattle.proof_octets.specs.Good.{IsGoodHeader, IsPlacing, IsCover}
use Rattle.proof_octets.specs.Headers.{header, leaf_kind}
use Rattle.proof_octets.specs.Replies.{signature, node_items, digests}
use Rattle.proof_octets.specs.declared.near_reply.NearReply.{NearReply}

-- the name RPN1
abbrev pub near_name : List ℕ
near_name = 0x52 ∷ 0x50 ∷ 0x4e ∷ 0x31 ∷ []

-- the octets begin with that name
abbrev pub IsNamed : List ℕ → Type 0
IsNamed octets = take 4 octets ≡ near_name

abbrev pub NearParts : Type 0
NearParts = Header × (List ℕ × ((List ℕ × List NodeLeaf) × List (List ℕ)))

abbrev pub near_of : NearParts → NearReply
near_of p = record {
  header = p.0;
  signature = p.1.0;
  places = p.1.1.0.0;
  nodes = p.1.1.0.1;
  cover = p.1.1.1;
}

abbrev pub near_parts : NearReply → NearParts
near_parts a = (a.header, (a.signature, ((a.places, a.nodes), a.cover)))

-- the header, its signature, the node items with leaves of the header's kind, and the cover of the
-- node tree
unfoldable pub near_reply : Format NearReply
near_reply = behind near_name (mapped near_of near_parts
    (seq header λ h.
    seq signature λ _.
    seq (node_items (leaf_kind h)) λ _.
    digests))

-- each value and each length is in its range, and places ascend
pub record IsGoodNear (a : NearReply) : Type 0 where
  pub header : IsGoodHeader a.header
  pub signature : length a.signature ≤ 1452
  pub nodes : IsPlacing a.places (length a.nodes)
  pub leaves : All (node_leaf (leaf_kind a.header)).Fits a.nodes
  pub cover : IsCover a.cover
