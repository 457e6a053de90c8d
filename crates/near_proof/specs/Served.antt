-- The verdicts of a client on the answers of a service.
use Rattle.std.specs.Prelude.{◌≡◌, ℕ, ◌≤◌, ◌⊎◌, List, ◌∷◌, Some, Err}
use Rattle.road_map.specs.Walks.{Knows}
use Rattle.book_model.specs.declared.items.Query.{Query}
use Rattle.lms_tree.specs.declared.links.Link.{Link}
use Rattle.proof_octets.specs.declared.publication.Publication.{Publication}
use Rattle.route_client.specs.declared.errors.CheckError.TheVariants.{NotAnswer}
use Rattle.route_client.specs.Verdicts.{IsVerdict}
use Rattle.route_service.specs.Forms.Form.{Ask}
use Rattle.route_service.specs.Machine.{State, Step}
use Rattle.route_service.specs.Isolation.{form_in}
use Rattle.near_proof.specs.Honest.{IsSigned, Leads, AreKnown, AreAccepted}

-- a body that asks a query in an open session pinned to this publication
pub record Asks (state : State) (body : List ℕ) (session : ℕ) (q : Query) (p : Publication) :
    Type 0 where
  pub form : form_in state body ≡ Ask session q.from q.to
  pub number : session ≤ 15
  pub pinned : state.pinned session ≡ Some p

-- the reply to a question of a session: its code, the session's number, and octets that satisfy a predicate
abbrev pub Brings : ℕ → List ℕ → (List ℕ → Type 0) → Type 0
Brings session reply P = (octets : List ℕ) × (reply ≡ 0x82 ∷ session ∷ octets) × P octets

-- in any step of a run, the answer of a service to a question with known ends is accepted by a client of the
-- publication, and true of the map
abbrev pub ServedAnswersAreAccepted : Type 0
ServedAnswersAreAccepted = (hash sha : List ℕ → List ℕ) (old new : State)
    (body reply : List ℕ) (session : ℕ) (q : Query) (p : Publication) (key first : List ℕ)
    (links : List Link) (least : ℕ) → Step hash sha old body reply new →
    Asks old body session q p → IsSigned hash sha key p → Leads first links key →
    least ≤ p.header.version → AreKnown p.parts q →
    Brings session reply (λ octets. AreAccepted hash first links octets q least p.parts)

-- the answer to a question with an unknown end states that an end is unknown
abbrev pub ServedUnknownNodesAreTold : Type 0
ServedUnknownNodesAreTold = (hash sha : List ℕ → List ℕ) (old new : State)
    (body reply : List ℕ) (session : ℕ) (q : Query) (p : Publication) (key : List ℕ)
    (links : List Link) (least : ℕ) → Step hash sha old body reply new →
    Asks old body session q p → (¬ Knows p.parts q.from) ⊎ (¬ Knows p.parts q.to) →
    Brings session reply (λ octets. IsVerdict hash key links octets q least (Err (NotAnswer 1)))
