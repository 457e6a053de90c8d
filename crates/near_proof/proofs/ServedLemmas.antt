-- The answers of a service are accepted, or state that an end is unknown.
use Rattle.std.proofs.Common.{◌≡◌, ℕ, ◌≤◌, List, Some, false, nat_lt, arith, refl, subst}
use Rattle.std.proofs.lemmas.Bool.Decides.{nat_tests}
use Rattle.book_model.specs.declared.items.Query.{Query}
use Rattle.proof_octets.specs.declared.publication.Publication.{Publication}
use Rattle.route_server.specs.Honesty.{IsHonest}
use Rattle.route_service.specs.Forms.{Form}
use Rattle.route_service.specs.Forms.Form.{Ask}
use Rattle.route_service.specs.Machine.{State, Decision, Step, Replies, decision}
use Rattle.route_service.specs.Machine.Decision.{Answers}
use Rattle.near_proof.specs.Honest.{AnswersAreAccepted, UnknownNodesAreTold}
use Rattle.near_proof.specs.Served.{Asks, Brings, ServedAnswersAreAccepted, ServedUnknownNodesAreTold}

module _ (hash sha : List ℕ → List ℕ) where
  -- a question in an open session is answered over the session's publication
  decided : (state : State) (session : ℕ) (q : Query) (p : Publication) → session ≤ 15 → state.pinned session ≡ Some p → decision hash sha state (Ask session q.from q.to) ≡ Answers session p q
  decided state session q p number pinned =
      let low : nat_lt 15 session ≡ false = grind (arith, nat_tests, number) in
      rw (low, pinned) refl

  -- so the reply is honest
  pub honest_reply : (old new : State) (body reply : List ℕ) (session : ℕ) (q : Query) (p : Publication) → Step hash sha old body reply new → Asks old body session q p → Brings session reply (λ octets. IsHonest hash sha p q octets)
  honest_reply old new body reply session q p step asks =
      let by_form : Replies hash sha old.newest (decision hash sha old (Ask session q.from q.to)) reply = subst (λ (f : Form). Replies hash sha old.newest (decision hash sha old f) reply) asks.form step.0 in
      subst (λ (d : Decision). Replies hash sha old.newest d reply) (decided old session q p asks.number asks.pinned) by_form

pub answers_accepted : AnswersAreAccepted → ServedAnswersAreAccepted
answers_accepted law hash sha old new body reply session q p key first links least step asks signed leads fresh known =
    let r = honest_reply hash sha old new body reply session q p step asks in
    (r.0, r.1, law hash sha key first links r.0 p q least signed leads fresh known r.2)

pub unknown_told : UnknownNodesAreTold → ServedUnknownNodesAreTold
unknown_told law hash sha old new body reply session q p key links least step asks unknown =
    let r = honest_reply hash sha old new body reply session q p step asks in
    (r.0, r.1, law hash sha key links r.0 p q least unknown r.2)
