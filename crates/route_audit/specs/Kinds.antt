-- Kinds of replies: what a client takes from them, and what they imply for a publication. Replies for routes are
-- one kind, and replies for the nodes within a radius are another. All kinds are audited in the same way.
use Rattle.std.specs.Prelude.{◌≡◌, ℕ, List, Ok}
use Rattle.octet_text.specs.Collisions.{AreCollision}
use Rattle.lms_tree.specs.Chains.{chained, verified_along}
use Rattle.lms_tree.specs.declared.links.Link.{Link}
use Rattle.merkle_cover.specs.declared.clashes.TwoTexts.{TwoTexts}
use Rattle.proof_octets.specs.declared.header.Header.{Header}
use Rattle.proof_octets.specs.declared.publication.Publication.{Publication}
use Rattle.proof_octets.specs.Headers.{header_text}

-- a kind of replies
pub record ReplyKind (Query Answer Taken Refusal : Type 0) : Type 1 where
  -- the octets encode the answer, which has a header and the signature of the header's octets
  pub Spells : List ℕ → Answer → Type 0
  pub header : Answer → Header
  pub signature : Answer → List ℕ
  -- over a hash, a client with a key, links from it and a minimum version accepts octets as a reply to a query, and
  -- takes this result from the answer that they encode
  pub Accepts : (List ℕ → List ℕ) → List ℕ → List Link → List ℕ → Query → ℕ → Taken → Answer →
      Type 0
  -- the client refuses the octets, whatever their version
  pub Refuses : (List ℕ → List ℕ) → List ℕ → List Link → List ℕ → Query → Refusal → Type 0
  -- the answer is within its format's limits
  pub IsGood : Answer → Type 0
  -- everything that the answer carries comes from the trees of the publication's book, and the result is true of
  -- its map; one hash makes the trees, and the other the orders
  pub IsRight : (List ℕ → List ℕ) → (List ℕ → List ℕ) → Publication → Query → Taken → Answer →
      Type 0
  -- two texts have the same digest
  pub Collides : (List ℕ → List ℕ) → (List ℕ → List ℕ) → Publication → Answer → TwoTexts → Type 0
  -- the header of the result that the client takes; the result is true of the publication's map
  pub taken_header : Taken → Header
  pub IsTrue : Publication → Query → Taken → Type 0

-- the laws of a kind of replies, over every hash
pub record AreReplies {Query Answer Taken Refusal : Type 0}
    (kind : ReplyKind Query Answer Taken Refusal) : Type 0 where
  -- an accepted reply rests on links, each signed under the previous key, and on a header signed under a key along
  -- them
  pub chain : (hash : List ℕ → List ℕ) (key : List ℕ) (links : List Link) (octets : List ℕ)
      (q : Query) (least : ℕ) (x : Taken) (a : Answer)
      → kind.Accepts hash key links octets q least x a → chained key links ≡ Ok tt
  pub signed : (hash : List ℕ → List ℕ) (key : List ℕ) (links : List Link) (octets : List ℕ)
      (q : Query) (least : ℕ) (x : Taken) (a : Answer)
      → kind.Accepts hash key links octets q least x a
      → verified_along key links (header_text (kind.header a)) (kind.signature a) ≡ Ok tt
  -- the octets encode the answer, and the result has its header
  pub spelled : (hash : List ℕ → List ℕ) (key : List ℕ) (links : List Link) (octets : List ℕ)
      (q : Query) (least : ℕ) (x : Taken) (a : Answer)
      → kind.Accepts hash key links octets q least x a → kind.Spells octets a
  pub same_header : (hash : List ℕ → List ℕ) (key : List ℕ) (links : List Link) (octets : List ℕ)
      (q : Query) (least : ℕ) (x : Taken) (a : Answer)
      → kind.Accepts hash key links octets q least x a → kind.taken_header x ≡ kind.header a
  -- an accepted reply is also accepted with minimum version 0, has one result and one answer, and is not refused
  pub any_least : (hash : List ℕ → List ℕ) (key : List ℕ) (links : List Link) (octets : List ℕ)
      (q : Query) (least : ℕ) (x : Taken) (a : Answer)
      → kind.Accepts hash key links octets q least x a → kind.Accepts hash key links octets q 0 x a
  pub one_taken : (hash : List ℕ → List ℕ) (key : List ℕ) (links : List Link) (octets : List ℕ)
      (q : Query) (x y : Taken) (a b : Answer)
      → kind.Accepts hash key links octets q 0 x a → kind.Accepts hash key links octets q 0 y b
      → x ≡ y
  pub one_answer : (octets : List ℕ) (a b : Answer) → kind.Spells octets a → kind.Spells octets b →
      a ≡ b
  pub not_refused : (hash : List ℕ → List ℕ) (key : List ℕ) (links : List Link) (octets : List ℕ)
      (q : Query) (x : Taken) (a : Answer) (e : Refusal)
      → kind.Accepts hash key links octets q 0 x a → kind.Refuses hash key links octets q e → ⊥
  -- a collision consists of two different texts of octets with the same digest; a right answer is true and has no
  -- collision
  pub collision : (hash sha : List ℕ → List ℕ) (p : Publication) (a : Answer) (two : TwoTexts)
      → kind.Collides hash sha p a two → AreCollision hash two.left two.right
  pub truth : (hash sha : List ℕ → List ℕ) (p : Publication) (q : Query) (x : Taken) (a : Answer)
      → kind.IsRight hash sha p q x a → kind.IsTrue p q x
  pub not_both : (hash sha : List ℕ → List ℕ) (p : Publication) (q : Query) (x : Taken) (a : Answer)
      (two : TwoTexts) → kind.IsRight hash sha p q x a → kind.Collides hash sha p a two → ⊥
