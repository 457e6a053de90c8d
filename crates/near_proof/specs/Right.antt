-- An audit finds honest replies to be right. Source: Yiu, Lin and Mouratidis, ICDE 2010: an honest provider sends
-- tuples of the owner's own trees, and their integrity proof.
use Rattle.std.specs.Prelude.{◌≡◌, ℕ, List}
use Rattle.book_model.specs.declared.items.Query.{Query}
use Rattle.lms_tree.specs.declared.links.Link.{Link}
use Rattle.proof_octets.specs.declared.publication.Publication.{Publication}
use Rattle.route_server.specs.Honesty.{IsHonest}
use Rattle.proof_octets.specs.declared.query.NearQuery.{NearQuery}
use Rattle.route_server.specs.NearHonesty.{IsNearHonest}
use Rattle.route_audit.specs.Radii.{radii}
use Rattle.route_audit.specs.Kinds.{ReplyKind}
use Rattle.route_audit.specs.Routes.{routes}
use Rattle.near_proof.specs.Honest.{IsSigned, Leads, AreKnown}

-- a client accepts these octets as an answer with the publication's header, everything that they carry comes from
-- the publication's trees, and the result is true of its map
pub record AreRight {Q A X E : Type 0} (kind : ReplyKind Q A X E) (hash sha : List ℕ → List ℕ)
    (key : List ℕ) (links : List Link) (octets : List ℕ) (q : Q) (p : Publication) : Type 0 where
  pub taken : X
  pub answer : A
  pub accepts : kind.Accepts hash key links octets q 0 taken answer
  pub header : kind.header answer ≡ p.header
  pub right : kind.IsRight hash sha p q taken answer

-- honest replies over a signed publication are right, with a route and without one
abbrev pub HonestRepliesAreRight : Type 0
HonestRepliesAreRight = (hash sha : List ℕ → List ℕ) (key first : List ℕ) (links : List Link)
    (octets : List ℕ) (p : Publication) (q : Query) → IsSigned hash sha key p →
    Leads first links key → AreKnown p.parts q → IsHonest hash sha p q octets →
    AreRight routes hash sha first links octets q p

-- honest replies to a range query are right
abbrev pub HonestReachesAreRight : Type 0
HonestReachesAreRight = (hash sha : List ℕ → List ℕ) (key first : List ℕ) (links : List Link)
    (octets : List ℕ) (p : Publication) (q : NearQuery) → IsSigned hash sha key p →
    Leads first links key → IsNearHonest hash sha p q octets →
    AreRight radii hash sha first links octets q p
