-- Laws of everything that a client accepts, honest or not. Source: the order of a client's tests, which is this
-- program's profile; RFC 8554, § 5.4.2, for the form of a public key.
use Rattle.std.specs.Prelude.{◌≡◌, ℕ, ◌≤◌, List, false}
use Rattle.road_map.specs.declared.parts.Parts.{Parts}
use Rattle.book_model.specs.declared.items.Query.{Query}
use Rattle.lms_tree.specs.declared.links.Link.{Link}
use Rattle.lms_tree.specs.Links.{IsLink}
use Rattle.lms_tree.specs.Signatures.{is_key}
use Rattle.proof_octets.specs.declared.header.Header.{Header}
use Rattle.proof_octets.specs.Good.{IsGoodHeader}
use Rattle.proof_octets.specs.Headers.{header_text}
use Rattle.route_client.specs.declared.accepted.Accepted.{Accepted}
use Rattle.route_client.specs.declared.accepted.Checked.{Checked}
use Rattle.route_client.specs.declared.accepted.Checked.TheVariants.{Route, Apart}
use Rattle.route_client.specs.Truth.{HoldsIn}
use Rattle.route_client.specs.Verdicts.{Accepts}

-- a reply accepted under a minimum version is accepted under each lower one
abbrev pub LowerVersionsAccept : Type 0
LowerVersionsAccept = (hash : List ℕ → List ℕ) (key : List ℕ) (links : List Link)
    (octets : List ℕ) (query : Query) (least lower : ℕ) (x : Checked) → lower ≤ least →
    Accepts hash key links octets query least x → Accepts hash key links octets query lower x

-- octets are accepted only under a key with the form of a public key
abbrev pub OnlyKeysAccept : Type 0
OnlyKeysAccept = (hash : List ℕ → List ℕ) (key : List ℕ) (links : List Link)
    (octets : List ℕ) (query : Query) (least : ℕ) (x : Checked) → is_key key ≡ false →
    ¬ Accepts hash key links octets query least x

-- Octets accepted with a route are accepted for no other query, whatever the keys, the chains and the minimum
-- versions are. (Octets that prove that no route exists may be accepted for several queries: the proof for one pair
-- of ends may also be one for another pair.)
abbrev pub RoutesAnswerOneQuery : Type 0
RoutesAnswerOneQuery = (hash : List ℕ → List ℕ) (key other_key : List ℕ)
    (links other_links : List Link) (octets : List ℕ) (query other : Query) (least other_least : ℕ)
    (x : Accepted) (y : Checked) → Accepts hash key links octets query least (Route x) →
    Accepts hash other_key other_links octets other other_least y → query ≡ other

-- the text of a header is never a text that names a key
abbrev pub HeadersAreNoLinks : Type 0
HeadersAreNoLinks = (h : Header) → IsGoodHeader h → ¬ IsLink (header_text h)

-- two answers state the same about the map: the same length, or both that no walk joins the ends
abbrev pub Agree : Checked → Checked → Type 0
Agree (Route x) (Route y) = x.length ≡ y.length
Agree (Apart version header) (Apart other_version other) = Unit {0}
Agree x y = ⊥

-- two answers to one query that are true of one map agree
abbrev pub TrueAnswersAgree : Type 0
TrueAnswersAgree = (parts : Parts) (query : Query) (x y : Checked) → HoldsIn parts query x →
    HoldsIn parts query y → Agree x y
