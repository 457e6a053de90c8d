-- Leaves taken from a held book.
use Rattle.std.specs.Prelude.{◌≡◌, ℕ, ◌^◌, ◌<◌, Option, List, length, slice_get, All, IsPermutation}
use Rattle.std.specs.List.{filter_map}
use Rattle.road_leaf.specs.declared.pair.PairLeaf.{PairLeaf}
use Rattle.road_leaf.specs.Leaves.{node_leaf, pair_leaf}
use Rattle.book_model.specs.Books.{leaves_of}
use Rattle.merkle_cover.specs.Covers.{IsRising, cover_of}
use Rattle.proof_method.specs.declared.found.Found.{Found}
use Rattle.proof_octets.specs.declared.header.Header.{Header}
use Rattle.proof_octets.specs.declared.placed.PlacedAnswer.{PlacedAnswer}
use Rattle.route_server.specs.declared.bringing.PairsBrought.{PairsBrought}
use Rattle.route_server.specs.declared.bringing.PlacesBrought.{PlacesBrought}
use Rattle.route_server.specs.Fitting.{kind_of_leaves}
use Rattle.route_server.specs.Headers.{node_texts}
use Rattle.route_server.specs.Honesty.{ids_at}
use Rattle.route_server.specs.Keeping.{Kept, IsKept, cover_in}
use Rattle.route_server.specs.LeafTrees.{Leaves}

-- these indices, with the cover of all other indices of the tree
pub record ArePlaces (hash : List ℕ → List ℕ) (tree : Leaves) (chosen : List ℕ)
    (b : PlacesBrought) : Type 0 where
  pub places : b.places ≡ chosen
  pub small : All (λ p. p < 2 ^ 32) b.places
  pub cover : b.cover ≡ cover_of hash tree.texts tree.fan chosen

-- the pairs at these indices, with the cover of all other indices of the tree, if there is a tree
pub record ArePairsAt (hash : List ℕ → List ℕ) (table : List PairLeaf) (tree : Option Leaves)
    (chosen : List ℕ) (b : PairsBrought) : Type 0 where
  pub places : b.places ≡ chosen
  pub small : All (λ p. p < 2 ^ 32) b.places
  pub pairs : b.pairs ≡ filter_map (slice_get table) chosen
  pub one_each : length b.pairs ≡ length chosen
  pub fit : All pair_leaf.Fits b.pairs
  pub cover : b.cover ≡ cover_in hash tree chosen

-- exactly the indices of these ids in ascending order, with the cover of all other indices; each leaf of the book
-- has an encoding
pub record AreBrought (hash : List ℕ → List ℕ) (k : Kept) (ids : List ℕ)
    (b : PlacesBrought) : Type 0 where
  pub kept : IsKept k
  pub rising : IsRising (length k.order) b.places
  pub small : All (λ p. p < 2 ^ 32) b.places
  pub same : IsPermutation ids (ids_at k.order b.places)
  pub spelled : All (node_leaf (kind_of_leaves kept.kind kept.book.numbers)).Fits
      (leaves_of kept.book k.order)
  pub cover : b.cover ≡ cover_of hash (node_texts k.nodes) k.settings.fan b.places

-- the answer with this header and signature and the items that were found; its node leaves are at their indices
abbrev pub placed_of : Header → List ℕ → Found → PlacesBrought → PairsBrought → PlacedAnswer
placed_of header signature found nodes pairs = record {
  header = header;
  signature = signature;
  route = found.route;
  node_places = nodes.places;
  pair_places = pairs.places;
  pairs = pairs.pairs;
  node_cover = nodes.cover;
  pair_cover = pairs.cover;
}
