-- A guard never changes, and every publication that a service installs is signed as its guard requires.
use Rattle.std.proofs.Common.{◌≡◌, ◌==◌, ℕ, Bool, true, false, cond, nat_lt, nat_le, List, [], ◌∷◌, Option, None, Some, Result, Ok, Err, IfSome, refl, ◌∙◌}
use Rattle.std.specs.Int.{w64, to_be_bytes}
use Rattle.lms_tree.specs.declared.seals.SealError.{SealError}
use Rattle.lms_tree.specs.Chains.{verified_along}
use Rattle.proof_octets.specs.declared.publication.Publication.{Publication}
use Rattle.proof_octets.specs.Headers.{header_text}
use Rattle.route_service.specs.declared.guard.Guard.{Guard}
use Rattle.route_service.specs.declared.guard.Guard.TheVariants.{Open, Signed}
use Rattle.route_service.specs.Forms.{Form, form_of}
use Rattle.route_service.specs.Forms.Form.{Begin, Ask, Finish, Install, Near, Junk}
use Rattle.route_service.specs.Guards.{answers_near, cause, unsigned, IsSigned}
use Rattle.route_service.specs.Machine.{State, Decision, decision, decided, applied, next, after, of_session, begin_decision, ask_decision, near_decision, finish_decision, refusal_decision, signature_decision, install_decision}
use Rattle.route_service.specs.Machine.Decision.{Refused, Begins, Answers, AnswersNear, Finishes, Installs}
use Rattle.route_service.specs.Refusals.{spelled_publication, refusal_of}
use Rattle.route_service.specs.Signing.{HoldsSigned}

-- ---- the guard stays

guard_applied : (state : State) (d : Decision) → (applied state d).guard ≡ state.guard
guard_applied state (Refused reply) = refl
guard_applied state (Begins session) = refl
guard_applied state (Answers session p query) = refl
guard_applied state (AnswersNear session p query) = refl
guard_applied state (Finishes session) = refl
guard_applied state (Installs p) = refl

pub guard_after : (hash sha : List ℕ → List ℕ) (state : State) (bodies : List (List ℕ)) → (after hash sha state bodies).guard ≡ state.guard
guard_after hash sha state [] = refl
guard_after hash sha state (body ∷ bodies) = guard_after hash sha (next hash sha state body) bodies ∙ guard_applied state (decided hash sha state body)

-- ---- an installed publication is signed

-- the publication that a decision installs is signed
abbrev Allows : Guard → Decision → Type 0
Allows guard (Installs p) = IsSigned guard p
Allows guard d = Unit {0}

signed_by : (guard : Guard) (p : Publication) → unsigned guard p ≡ None → IsSigned guard p
signed_by Open p e = tt
signed_by (Signed key links) p e = by (verified_along key links (header_text p.header) p.signature) refl e
  where
    by : (r : Result (Unit {0}) SealError) → verified_along key links (header_text p.header) p.signature ≡ r → cause r ≡ None →
        verified_along key links (header_text p.header) p.signature ≡ Ok tt
    by (Ok done) is e = is
    by (Err why) is e = absurd (cc)

module _ (guard : Guard) (refusal : Publication → Option ℕ) (newest : ℕ) where
  refusal_allows : (p : Publication) (r : Option ℕ) → IsSigned guard p → Allows guard (refusal_decision p r)
  refusal_allows p None signed = signed
  refusal_allows p (Some code) signed = tt

  signature_allows : (p : Publication) (why : Option ℕ) → unsigned guard p ≡ why → Allows guard (signature_decision refusal p why)
  signature_allows p None is = refusal_allows p (refusal p) (signed_by guard p is)
  signature_allows p (Some why) is = tt

  version_allows : (p : Publication) (b : Bool) → Allows guard (cond b (Refused (0xe6 ∷ to_be_bytes w64 newest)) (signature_decision refusal p (unsigned guard p)))
  version_allows p true = tt
  version_allows p false = signature_allows p (unsigned guard p) refl

  install_allows : (spelled : Option Publication) → Allows guard (install_decision (unsigned guard) refusal newest spelled)
  install_allows None = tt
  install_allows (Some p) = version_allows p (nat_le p.header.version newest)

session_allows : (guard : Guard) (session : ℕ) (d : Decision) → Allows guard d → Allows guard (of_session session d)
session_allows guard session d allows = by (nat_lt 15 session)
  where
    by : (b : Bool) → Allows guard (cond b (Refused (0xe2 ∷ session ∷ [])) d)
    by true = tt
    by false = allows

module _ (hash sha : List ℕ → List ℕ) where
  decision_allows : (state : State) (form : Form) → Allows state.guard (decision hash sha state form)
  decision_allows state (Begin session) = session_allows state.guard session (begin_decision session (state.pinned session)) (by (state.pinned session))
    where
      by : (pin : Option Publication) → Allows state.guard (begin_decision session pin)
      by None = tt
      by (Some p) = tt
  decision_allows state (Ask session from to) =
      session_allows state.guard session (ask_decision session (record { from = from; to = to }) (state.pinned session)) (by (state.pinned session))
    where
      by : (pin : Option Publication) → Allows state.guard (ask_decision session (record { from = from; to = to }) pin)
      by None = tt
      by (Some p) = tt
  decision_allows state (Finish session) = session_allows state.guard session (finish_decision session (state.pinned session)) (by (state.pinned session))
    where
      by : (pin : Option Publication) → Allows state.guard (finish_decision session pin)
      by None = tt
      by (Some p) = tt
  decision_allows state (Install octets) = install_allows state.guard (refusal_of hash sha) state.newest.header.version (spelled_publication octets)
  decision_allows state (Near session from radius) =
      session_allows state.guard session (near_decision session (record { from = from; radius = radius }) (state.pinned session)) (by (state.pinned session))
    where
      by : (pin : Option Publication) → Allows state.guard (near_decision session (record { from = from; radius = radius }) pin)
      by None = tt
      by (Some p) = tt
  decision_allows state Junk = tt

  pinned_as : (guard : Guard) (pin old : Option Publication) (b : Bool) → IfSome pin (IsSigned guard) → IfSome old (IsSigned guard) → IfSome (cond b pin old) (IsSigned guard)
  pinned_as guard pin old true new kept = new
  pinned_as guard pin old false new kept = kept

  applied_signed : (state : State) (d : Decision) → Allows state.guard d → HoldsSigned state → HoldsSigned (applied state d)
  applied_signed state (Refused reply) allows h = h
  applied_signed state (Begins session) allows h = record {
    newest = h.newest;
    pinned = λ other. pinned_as state.guard (Some state.newest) (state.pinned other) (other == session) h.newest (h.pinned other);
  }
  applied_signed state (Answers session p query) allows h = h
  applied_signed state (AnswersNear session p query) allows h = h
  applied_signed state (Finishes session) allows h = record {
    newest = h.newest;
    pinned = λ other. pinned_as state.guard None (state.pinned other) (other == session) tt (h.pinned other);
  }
  applied_signed state (Installs p) allows h = record { newest = allows; pinned = h.pinned }

  pub holds_signed : (state : State) (bodies : List (List ℕ)) → HoldsSigned state → HoldsSigned (after hash sha state bodies)
  holds_signed state [] h = h
  holds_signed state (body ∷ bodies) h =
      holds_signed (next hash sha state body) bodies (applied_signed state (decided hash sha state body) (decision_allows state (form_of (answers_near state.guard) body)) h)
