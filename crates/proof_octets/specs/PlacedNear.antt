-- Replies for a radius whose leaves are stored as texts at their indices in a list: the reply that this stands for,
-- the octets that its writer appends, and the writer's requirements.
use Rattle.std.specs.Prelude.{◌≡◌, ℕ, ◌^◌, ◌<◌, List, ◌++◌, length, map, All}
use Rattle.road_leaf.specs.declared.leaf.NodeLeaf.{NodeLeaf}
use Rattle.road_leaf.specs.Leaves.{node_leaf_text}
use Rattle.proof_octets.specs.declared.near_reply.NearReply.{NearReply}
use Rattle.proof_octets.specs.declared.placed_near.PlacedNear.{PlacedNear}
use Rattle.proof_octets.specs.NearReplies.{near_reply}
use Rattle.proof_octets.specs.NearWriting.{near_front}
use Rattle.proof_octets.specs.Placed.{text_at, items_at, CanPutAt}
use Rattle.proof_octets.specs.Replies.{digests}

-- the reply with these leaves at its indices
abbrev pub near_with : PlacedNear → List NodeLeaf → NearReply
near_with a leaves = record {
  header = a.header;
  signature = a.signature;
  places = a.places;
  nodes = leaves;
  cover = a.cover;
}

-- these are the leaves of the reply: their texts are at its indices in the list, and with them it has an encoding
pub record HasNearLeaves (a : PlacedNear) (texts : List (List ℕ)) (leaves : List NodeLeaf) :
    Type 0 where
  pub within : All (λ p. p < length texts) a.places
  pub spelled : map (text_at texts) a.places ≡ map node_leaf_text leaves
  pub fits : near_reply.Fits (near_with a leaves)

abbrev pub placed_near_text : PlacedNear → List (List ℕ) → List ℕ
placed_near_text a texts = near_front a.header a.signature ++
    (items_at texts a.places ++ digests.spell a.cover)

pub record CanWritePlacedNear (a : PlacedNear) (texts : List (List ℕ)) : Type 0 where
  pub signature : length a.signature < 2 ^ 16
  pub nodes : CanPutAt texts a.places
  pub cover : length a.cover < 2 ^ 32
