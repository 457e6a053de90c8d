-- Answers whose node leaves are stored as texts at their indices in a list: the answer that this stands for, the
-- octets that its writer appends, and the writer's requirements.
use Rattle.std.specs.Prelude.{◌≡◌, ℕ, ◌^◌, ◌<◌, List, [], ◌∷◌, ◌++◌, length, map, slice_index_or, All}
use Rattle.std.specs.List.{flat_map}
use Rattle.std.specs.Int.{w8, w32, to_be_bytes}
use Rattle.road_leaf.specs.declared.leaf.NodeLeaf.{NodeLeaf}
use Rattle.road_leaf.specs.Leaves.{node_leaf_text}
use Rattle.proof_octets.specs.declared.placed.PlacedAnswer.{PlacedAnswer}
use Rattle.proof_octets.specs.declared.reply.Answer as answers
use Rattle.proof_octets.specs.Replies.{reply, reply_of}
use Rattle.proof_octets.specs.Writing.{placed_text, front_text, back_text}

-- the text at an index of a list
abbrev pub text_at : List (List ℕ) → ℕ → List ℕ
text_at texts place = slice_index_or texts place []

-- the answer with these node leaves at its indices
abbrev pub with_leaves : PlacedAnswer → List NodeLeaf → answers.Answer
with_leaves a leaves = record {
  header = a.header;
  signature = a.signature;
  items = record { route = a.route; nodes = leaves; pairs = a.pairs };
  node_places = a.node_places;
  pair_places = a.pair_places;
  node_cover = a.node_cover;
  pair_cover = a.pair_cover;
}

-- these are the node leaves of the answer: their texts are at its indices in the list, and with them it has an
-- encoding
pub record HasLeaves (a : PlacedAnswer) (texts : List (List ℕ)) (leaves : List NodeLeaf) :
    Type 0 where
  pub within : All (λ p. p < length texts) a.node_places
  pub spelled : map (text_at texts) a.node_places ≡ map node_leaf_text leaves
  pub fits : reply.Fits (reply_of (with_leaves a leaves))

-- ---- the appended octets

-- the kind of a reply with an answer that has this route, or no route
abbrev pub kind_text : List ℕ → List ℕ
kind_text [] = to_be_bytes w8 3
kind_text (id ∷ ids) = to_be_bytes w8 0

-- the number of node items and then the items
abbrev pub items_at : List (List ℕ) → List ℕ → List ℕ
items_at texts places = to_be_bytes w32 (length places) ++ flat_map
    (λ p. placed_text p (text_at texts p)) places

abbrev pub placed_answer_text : PlacedAnswer → List (List ℕ) → List ℕ
placed_answer_text a texts = kind_text a.route ++ (front_text a.header a.signature a.route ++
    (items_at texts a.node_places ++
    back_text a.pair_places a.pairs a.node_cover a.pair_cover))

-- ---- requirements

-- the requirements of the writer of node items
pub record CanPutAt (texts : List (List ℕ)) (places : List ℕ) : Type 0 where
  pub few : length places < 2 ^ 32
  pub within : All (λ p. p < length texts) places
  pub short : All (λ p. length (text_at texts p) < 2 ^ 16) places

pub record CanWritePlaced (a : PlacedAnswer) (texts : List (List ℕ)) : Type 0 where
  pub signature : length a.signature < 2 ^ 16
  pub way : length a.route < 2 ^ 32
  pub nodes : CanPutAt texts a.node_places
  pub pairs : length a.pairs ≡ length a.pair_places
  pub few_pairs : length a.pair_places < 2 ^ 32
  pub node_cover : length a.node_cover < 2 ^ 32
  pub pair_cover : length a.pair_cover < 2 ^ 32
