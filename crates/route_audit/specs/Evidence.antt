-- What an answer implies for a publication's own trees. Source: Merkle, A Digital Signature Based on a Conventional
-- Encryption Function, CRYPTO 1987: if a part recomputes a tree's root but is not the tree's own, it shows two
-- texts with the same digest.
use Rattle.std.specs.Prelude.{◌≡◌, ◌⊎◌, ℕ, List, length}
use Rattle.octet_text.specs.Collisions.{AreCollision}
use Rattle.book_model.specs.declared.items.Query.{Query}
use Rattle.book_model.specs.Books.{Kind, Book, leaves_of, leaf_order}
use Rattle.merkle_cover.specs.Clashes.{AreHashed}
use Rattle.merkle_cover.specs.Covers.{IsRising, chosen_texts, cover_of}
use Rattle.merkle_cover.specs.declared.clashes.TwoTexts.{TwoTexts}
use Rattle.proof_method.specs.Gathering.{IsAuthentic}
use Rattle.proof_octets.specs.declared.publication.Publication.{Publication}
use Rattle.proof_octets.specs.declared.reply.Answer as answers
use Rattle.route_client.specs.declared.accepted.Checked.{Checked}
use Rattle.route_client.specs.Truth.{HoldsIn}
use Rattle.route_server.specs.Headers.{node_texts, pair_texts, IsBook}

-- ---- the parts of an answer

-- a part of a tree over these leaves: indices, the texts of the leaves at these indices, and the cover of all other
-- indices
pub record Part : Type 0 where
  pub leaves : List (List ℕ)
  pub fan : ℕ
  pub places : List ℕ
  pub texts : List (List ℕ)
  pub cover : List (List ℕ)

-- the part that an answer carries of the tree over the node leaves of a publication's book
abbrev pub node_part : (List ℕ → List ℕ) → Publication → Book → answers.Answer → Part
node_part sha p book a = record {
  leaves = node_texts (leaves_of book (leaf_order sha p.parts p.settings));
  fan = p.settings.fan;
  places = a.node_places;
  texts = node_texts a.items.nodes;
  cover = a.node_cover;
}

-- the part that it carries of the tree over the pair leaves
abbrev pub pair_part : Publication → Book → answers.Answer → Part
pair_part p book a = record {
  leaves = pair_texts book.pairs;
  fan = p.settings.fan;
  places = a.pair_places;
  texts = pair_texts a.items.pairs;
  cover = a.pair_cover;
}

-- ---- right answers

-- each text is that of the leaf at its index, and the cover is the tree's own; without any index, the cover is
-- empty
pub record IsTreesOwn (hash : List ℕ → List ℕ) (part : Part) : Type 0 where
  pub rising : IsRising (length part.leaves) part.places
  pub texts : part.texts ≡ chosen_texts part.leaves part.places
  pub cover : part.cover ≡ cover_of hash part.leaves part.fan part.places

-- everything that an answer carries comes from the trees of the publication's book
pub record IsOwn (hash sha : List ℕ → List ℕ) (p : Publication) (a : answers.Answer) : Type 0 where
  pub kind : Kind
  pub book : Book
  pub is_book : IsBook sha p.parts p.settings kind book
  pub nodes : IsTreesOwn hash (node_part sha p book a)
  pub pairs : IsTreesOwn hash (pair_part p book a)

-- the items are leaves of the book, and the accepted result is true of the publication's map: the route is a
-- shortest one, or no walk joins the two ends
pub record IsRight (hash sha : List ℕ → List ℕ) (p : Publication) (q : Query) (x : Checked)
    (a : answers.Answer) : Type 0 where
  pub own : IsOwn hash sha p a
  pub authentic : IsAuthentic own.book a.items
  pub holds : HoldsIn p.parts q x

-- ---- the parts of findings

abbrev pub two_texts : List ℕ → List ℕ → TwoTexts
two_texts left right = record { left = left; right = right }

-- ---- collisions

-- the part is not the tree's own; at one position the tree hashes the left text, and the recomputed root hashes the
-- right one
pub record Clashes (hash : List ℕ → List ℕ) (part : Part) (two : TwoTexts) : Type 0 where
  pub not_own : ¬ IsTreesOwn hash part
  pub hashed : AreHashed hash part.leaves part.fan part.places part.texts part.cover two.left
      two.right

-- a clash in the first tree, or in the second tree if the part of the first is the tree's own
abbrev pub ClashesFirst : (List ℕ → List ℕ) → Part → Part → TwoTexts → Type 0
ClashesFirst hash one other two = Clashes hash one two ⊎
    (IsTreesOwn hash one × Clashes hash other two)

-- two different texts with the same digest, if an answer carries anything that is not from the trees of the
-- publication's book; the node tree is tested first
pub record Collides (hash sha : List ℕ → List ℕ) (p : Publication) (a : answers.Answer)
    (two : TwoTexts) : Type 0 where
  pub collision : AreCollision hash two.left two.right
  pub not_own : ¬ IsOwn hash sha p a
  pub kind : Kind
  pub book : Book
  pub is_book : IsBook sha p.parts p.settings kind book
  pub clash : ClashesFirst hash (node_part sha p book a) (pair_part p book a) two
