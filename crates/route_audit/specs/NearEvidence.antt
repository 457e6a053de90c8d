-- What a reply implies for a publication's own node tree. Source: Merkle, CRYPTO 1987 (a part that recomputes a
-- tree's root but is not the tree's own shows two texts with the same digest), and Papadias, Zhang, Mamoulis and
-- Tao, VLDB 2003 (range search in a road network).
use Rattle.std.specs.Prelude.{◌≡◌, ◌≢◌, ℕ, Some, List, Contains}
use Rattle.book_model.specs.Books.{Kind, Book, leaf, leaves_of, leaf_order}
use Rattle.merkle_cover.specs.declared.clashes.TwoTexts.{TwoTexts}
use Rattle.road_leaf.specs.declared.leaf.NodeLeaf.{NodeLeaf}
use Rattle.proof_octets.specs.declared.publication.Publication.{Publication}
use Rattle.route_server.specs.Headers.{node_texts, IsBook}
use Rattle.octet_text.specs.Collisions.{AreCollision}
use Rattle.route_audit.specs.Evidence.{Part, IsTreesOwn, Clashes}
use Rattle.proof_octets.specs.declared.query.NearQuery.{NearQuery}
use Rattle.proof_octets.specs.declared.near_reply.NearReply.{NearReply}
use Rattle.proof_octets.specs.Radius.{AreWithin}
use Rattle.route_client.specs.declared.within.Within.{Within}

-- the part that a reply carries of the tree over the node leaves of a publication's book
abbrev pub near_part : (List ℕ → List ℕ) → Publication → Book → NearReply → Part
near_part sha p book a = record {
  leaves = node_texts (leaves_of book (leaf_order sha p.parts p.settings));
  fan = p.settings.fan;
  places = a.places;
  texts = node_texts a.nodes;
  cover = a.cover;
}

-- everything that a reply carries comes from the node tree of the publication's book
pub record IsOwn (hash sha : List ℕ → List ℕ) (p : Publication) (a : NearReply) : Type 0 where
  pub kind : Kind
  pub book : Book
  pub is_book : IsBook sha p.parts p.settings kind book
  pub nodes : IsTreesOwn hash (near_part sha p book a)

-- the items are leaves of the book, and the accepted nodes are exactly those within the radius in the publication's
-- map, each with its distance
pub record IsRight (hash sha : List ℕ → List ℕ) (p : Publication) (q : NearQuery) (x : Within)
    (a : NearReply) : Type 0 where
  pub own : IsOwn hash sha p a
  pub authentic : (n : NodeLeaf) → Contains a.nodes n → leaf own.book n.id ≡ Some n
  pub within : AreWithin p.parts q x.nodes

-- two different texts with the same digest, if a reply carries anything that is not from the node tree of the
-- publication's book
pub record Collides (hash sha : List ℕ → List ℕ) (p : Publication) (a : NearReply)
    (two : TwoTexts) : Type 0 where
  pub collision : AreCollision hash two.left two.right
  pub not_own : ¬ IsOwn hash sha p a
  pub kind : Kind
  pub book : Book
  pub is_book : IsBook sha p.parts p.settings kind book
  pub clash : Clashes hash (near_part sha p book a) two
