-- The honest reply to a query for the nodes within a radius. Source: Papadias, Zhang, Mamoulis and Tao,
-- VLDB 2003 (range search in a road network), and Yiu, Lin and Mouratidis, ICDE 2010 (an honest provider
-- sends tuples and the integrity proof).
use Rattle.std.specs.Prelude.{◌≡◌, ◌↔◌, ℕ, List, length, Contains, nat_eq}
use Rattle.std.specs.List.{IsDistinct}
use Rattle.road_map.specs.declared.parts.Parts.{Parts}
use Rattle.road_map.specs.Walks.{Knows}
use Rattle.merkle_cover.specs.Covers.{IsRising, cover_of}
use Rattle.book_model.specs.Books.{Kind, Book, leaves_of, leaf_order}
use Rattle.proof_octets.specs.declared.publication.Publication.{Publication}
use Rattle.route_server.specs.Headers.{node_texts, IsBook}
use Rattle.route_server.specs.Honesty.{ids_at}
use Rattle.route_server.specs.Keeping.{Kept, IsKept, publication_in}
use Rattle.proof_octets.specs.declared.query.NearQuery.{NearQuery}
use Rattle.proof_octets.specs.declared.near_reply.NearReply.{NearReply}
use Rattle.proof_octets.specs.NearReplies.{near_reply}
use Rattle.proof_octets.specs.declared.placed_near.PlacedNear.{PlacedNear}
use Rattle.proof_octets.specs.PlacedNear.{near_with, HasNearLeaves}
use Rattle.road_leaf.specs.declared.leaf.NodeLeaf.{NodeLeaf}
use Rattle.proof_octets.specs.Radius.{IsWithin}
use Rattle.route_server.specs.declared.near_errors.NearRefusal.{NearRefusal}
use Rattle.route_server.specs.declared.near_errors.NearRefusal.TheVariants.{UnknownNode, Memory}

-- a reply with this publication's header and signature: exactly the leaves of the nodes within the
-- radius, at their indices, and the cover of these indices
pub record IsNearReply (hash : List ℕ → List ℕ) (order : List ℕ) (b : Book) (p : Publication)
    (q : NearQuery) (a : NearReply) : Type 0 where
  pub header : a.header ≡ p.header
  pub signature : a.signature ≡ p.signature
  pub rising : IsRising (length order) a.places
  pub distinct : IsDistinct nat_eq (ids_at order a.places)
  pub same : (id : ℕ) → Contains (ids_at order a.places) id ↔ IsWithin p.parts q id
  pub nodes : a.nodes ≡ leaves_of b (ids_at order a.places)
  pub cover : a.cover ≡ cover_of hash (node_texts (leaves_of b order)) p.header.fan a.places

-- octets that encode the honest reply to a query from a known node, over the book of a publication
pub record IsNearHonest (hash sha : List ℕ → List ℕ) (p : Publication) (q : NearQuery)
    (octets : List ℕ) : Type 0 where
  pub known : Knows p.parts q.from
  pub kind : Kind
  pub book : Book
  pub is_book : IsBook sha p.parts p.settings kind book
  pub reply : NearReply
  pub says : IsNearReply hash (leaf_order sha p.parts p.settings) book p q reply
  pub fits : near_reply.Fits reply
  pub spelled : octets ≡ near_reply.spell reply

-- Why there is no reply. Memory may run out at any time.
abbrev pub WhyNot : Parts → NearQuery → NearRefusal → Type 0
WhyNot parts q (UnknownNode id) = (id ≡ q.from) × ¬ Knows parts q.from
WhyNot parts q (Memory _) = Unit {0}

-- the reply over the held book
pub record IsOver (hash : List ℕ → List ℕ) (k : Kept) (q : NearQuery) (a : NearReply) : Type 0 where
  pub kept : IsKept k
  pub says : IsNearReply hash k.order kept.book (publication_in hash k) q a

-- the leaves of the reply are those whose texts the book holds
pub record IsToldOver (hash : List ℕ → List ℕ) (k : Kept) (q : NearQuery) (a : PlacedNear) :
    Type 0 where
  pub leaves : List NodeLeaf
  pub over : IsOver hash k q (near_with a leaves)
  pub told : HasNearLeaves a (node_texts k.nodes) leaves
