-- The verdicts of a client on honest replies. Source: Yiu, Lin and Mouratidis, ICDE 2010: a client accepts what an
-- honest provider sends over the data that the owner signed.
use Rattle.std.specs.Prelude.{ℕ, ◌≤◌, List}
use Rattle.road_map.specs.declared.parts.Parts.{Parts}
use Rattle.lms_tree.specs.declared.links.Link.{Link}
use Rattle.proof_octets.specs.declared.publication.Publication.{Publication}
use Rattle.near_proof.specs.Honest.{IsSigned, Leads}
use Rattle.proof_octets.specs.declared.query.NearQuery.{NearQuery}
use Rattle.proof_octets.specs.Radius.{AreWithin}
use Rattle.route_client.specs.declared.within.Within.{Within}
use Rattle.route_client.specs.NearVerdicts.{NearAccepts}
use Rattle.route_server.specs.NearHonesty.{IsNearHonest}

-- a client accepts these octets under a key and a chain from it, with exactly the nodes within the radius,
-- each with its distance
pub record AreAccepted (hash : List ℕ → List ℕ) (key : List ℕ) (links : List Link)
    (octets : List ℕ) (q : NearQuery) (least : ℕ) (parts : Parts) : Type 0 where
  pub accepted : Within
  pub accepts : NearAccepts hash key links octets q least accepted
  pub within : AreWithin parts q accepted.nodes

-- the honest reply to a query from a known node is accepted, under the key that signed the publication and under
-- each key from which a chain leads to that key
abbrev pub NearRepliesAreAccepted : Type 0
NearRepliesAreAccepted = (hash sha : List ℕ → List ℕ) (key first : List ℕ) (links : List Link)
    (octets : List ℕ) (p : Publication) (q : NearQuery) (least : ℕ)
    → IsSigned hash sha key p → Leads first links key → least ≤ p.header.version →
    IsNearHonest hash sha p q octets
    → AreAccepted hash first links octets q least p.parts
