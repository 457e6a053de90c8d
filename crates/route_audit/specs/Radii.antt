-- Replies for the nodes within a radius, as a kind of replies.
use Rattle.std.specs.Prelude.{◌≡◌, ◌≢◌, ℕ, List, Ok, Err}
use Rattle.octet_text.specs.Format.{whole}
use Rattle.lms_tree.specs.declared.links.Link.{Link}
use Rattle.route_audit.specs.Kinds.{ReplyKind}
use Rattle.proof_octets.specs.declared.query.NearQuery.{NearQuery}
use Rattle.proof_octets.specs.declared.near_reply.NearReply.{NearReply}
use Rattle.proof_octets.specs.NearReplies.{near_reply, IsGoodNear}
use Rattle.proof_octets.specs.Radius.{AreWithin}
use Rattle.route_client.specs.declared.near_errors.NearError.{NearError}
use Rattle.route_client.specs.declared.near_errors.NearError.TheVariants as checks
use Rattle.route_client.specs.declared.within.Within.{Within}
use Rattle.route_client.specs.NearVerdicts.{NearAccepts, IsNearVerdict}
use Rattle.route_audit.specs.NearEvidence.{Collides, IsRight}
use Rattle.octet_text.specs.Want.{no_memory}

-- the octets are accepted as this reply with this result
pub record NearAcceptsAs (hash : List ℕ → List ℕ) (key : List ℕ) (links : List Link)
    (octets : List ℕ) (q : NearQuery) (least : ℕ) (x : Within) (a : NearReply) : Type 0 where
  pub accepts : NearAccepts hash key links octets q least x
  pub is : accepts.reply ≡ a

-- the nodes within a radius: the result consists of nodes with their distances; it is true if they are exactly
-- those within the radius in the publication's map
abbrev pub radii : ReplyKind NearQuery NearReply Within NearError
radii = record {
  Spells = λ octets a. whole near_reply octets ≡ Ok a;
  header = λ a. a.header;
  signature = λ a. a.signature;
  Accepts = NearAcceptsAs;
  Refuses = λ hash key links octets q e. IsNearVerdict hash key links octets q 0 (Err e) ×
      (e ≢ checks.Memory no_memory);
  IsGood = IsGoodNear;
  IsRight = IsRight;
  Collides = Collides;
  taken_header = λ x. x.header;
  IsTrue = λ p q x. AreWithin p.parts q x.nodes;
}
