-- Laws of everything that a client accepts for a range query, honest or not. Source: the order of a client's tests,
-- which is this program's profile; RFC 8554, § 5.4.2, for the form of a public key.
use Rattle.std.specs.Prelude.{◌≡◌, ℕ, ◌≤◌, List, false}
use Rattle.road_map.specs.declared.parts.Parts.{Parts}
use Rattle.book_model.specs.declared.items.Query.{Query}
use Rattle.lms_tree.specs.declared.links.Link.{Link}
use Rattle.lms_tree.specs.Signatures.{is_key}
use Rattle.route_client.specs.declared.accepted.Checked.{Checked}
use Rattle.route_client.specs.Verdicts.{Accepts}
use Rattle.proof_octets.specs.declared.marks.Mark.{Mark}
use Rattle.proof_octets.specs.declared.query.NearQuery.{NearQuery}
use Rattle.proof_octets.specs.Radius.{AreWithin}
use Rattle.route_client.specs.declared.within.Within.{Within}
use Rattle.route_client.specs.NearVerdicts.{NearAccepts}

-- a reply accepted under a minimum version is accepted under each lower one
abbrev pub LowerVersionsAccept : Type 0
LowerVersionsAccept = (hash : List ℕ → List ℕ) (key : List ℕ) (links : List Link)
    (octets : List ℕ) (query : NearQuery) (least lower : ℕ) (x : Within) → lower ≤ least →
    NearAccepts hash key links octets query least x →
    NearAccepts hash key links octets query lower x

-- octets are accepted only under a key with the form of a public key
abbrev pub OnlyKeysAccept : Type 0
OnlyKeysAccept = (hash : List ℕ → List ℕ) (key : List ℕ) (links : List Link)
    (octets : List ℕ) (query : NearQuery) (least : ℕ) (x : Within) → is_key key ≡ false →
    ¬ NearAccepts hash key links octets query least x

-- no octets are accepted both as a reply to a query for a route and as a reply to a range query, whatever
-- the keys, the chains, the queries and the minimum versions
abbrev pub NoOctetsAnswerBoth : Type 0
NoOctetsAnswerBoth = (hash : List ℕ → List ℕ) (key near_key : List ℕ)
    (links near_links : List Link) (octets : List ℕ) (query : Query) (near : NearQuery)
    (least near_least : ℕ) (x : Checked) (y : Within) →
    Accepts hash key links octets query least x →
    ¬ NearAccepts hash near_key near_links octets near near_least y

-- two answers to one query that are true of one map are the same nodes with the same distances
abbrev pub TrueAnswersAgree : Type 0
TrueAnswersAgree = (parts : Parts) (query : NearQuery) (one other : List Mark) →
    AreWithin parts query one → AreWithin parts query other → one ≡ other
