-- A reason to refuse a publication is returned.
use Rattle.std.proofs.Common.{◌≡◌, ◌≢◌, ◌⊎◌, inl, inr, ◌↔◌, ℕ, ◌+◌, ◌<◌, List, true, false, refl, sym, ap, subst, ◌∙◌, IsErrOf, IsOk}
use Rattle.std.specs.declared.result.Result.{Result}
use Rattle.std.specs.declared.result.Result.TheVariants.{Ok, Err}
use Rattle.sha2.specs.Sha256.{sha256}
use Rattle.road_map.specs.declared.parts.Parts.{Parts}
use Rattle.book_model.specs.declared.settings.Settings.{Settings}
use Rattle.key_desk.specs.Desk.{IsUsedUp as HasNoFree}
use Rattle.key_desk.specs.declared.desk.Desk.{Desk as View}
use Rattle.key_desk.specs.declared.desk.DeskError.{DeskError}
use Rattle.key_desk.specs.declared.desk.DeskError.TheVariants.{KeysUsedUp, DiskFault, Closed}
use Rattle.proof_octets.specs.declared.header.Header.{Header}
use Rattle.route_server.specs.Headers.{HasHeader, Makes}
use Rattle.route_server.specs.declared.errors.BuildError.{BuildError}
use Rattle.route_server.specs.declared.errors.BuildError.TheVariants as build_errors
use Rattle.route_owner.specs.declared.errors.PublishError.{PublishError}
use Rattle.route_owner.specs.declared.errors.PublishError.TheVariants.{Build, Desk, Memory}
use Rattle.route_owner.specs.Published.{IsNoBook, IsUsedUp, IsClosed, Refuses, AnswersRefusal}
use Rattle.octet_text.specs.Want.{no_memory}

-- parts and settings have one result
abbrev pub Makings : Type 0
Makings = (hash sha : List ℕ → List ℕ) (parts : Parts) (s : Settings) (one other : Result Header BuildError)
    → Makes hash sha parts s one → Makes hash sha parts s other → one ≢ Err (build_errors.Memory no_memory) → other ≢ Err (build_errors.Memory no_memory) → one ≡ other

-- the result is one of two kinds
abbrev pub made : Header → Result Header BuildError
made h = Ok h

abbrev pub unmade : BuildError → Result Header BuildError
unmade e = Err e

same_reason : (e f : BuildError) → unmade e ≡ unmade f → e ≡ f
same_reason e f is = cc

made_isnt : (h : Header) (e : BuildError) → made h ≡ unmade e → ⊥
made_isnt h e is = cc

-- the result of a desk that signs
abbrev pub signed : ℕ → Result ℕ DeskError
signed q = Ok q

abbrev pub unsigned : DeskError → Result ℕ DeskError
unsigned f = Err f

same_fault : (e f : DeskError) → unsigned e ≡ unsigned f → e ≡ f
same_fault e f is = cc

signed_isnt : (q : ℕ) (e : DeskError) → signed q ≡ unsigned e → ⊥
signed_isnt q e is = cc

module _ (makings : Makings) (hash : List ℕ → List ℕ) (parts : Parts) (s : Settings) (desk : View) where
  -- if there is a header, there is a book
  pub no_reason : (h : Header) (e : BuildError) → HasHeader hash sha256 parts s h → IsNoBook hash parts s e → ⊥
  no_reason h e has none = made_isnt h e (makings hash sha256 parts s (made h) (unmade e) has none.0 (λ is. made_isnt h (build_errors.Memory no_memory) is) (λ is. none.1 (same_reason e (build_errors.Memory no_memory) is)))

  -- there was no reason to refuse the published map
  pub none_refused : {X : Type 0} (p : X) (h : Header) (q : ℕ) → HasHeader hash sha256 parts s h → (HasNoFree desk → desk.is_open ≡ true → signed q ≡ Err KeysUsedUp) → (desk.is_open ≡ false → signed q ≡ Err Closed)
      → AnswersRefusal {X = X} hash parts s desk (Ok p)
  none_refused p h q has used closed (Build e) none = absurd (no_reason h e has none)
  none_refused p h q has used closed (Desk KeysUsedUp) is = absurd (signed_isnt q KeysUsedUp (used is.none_free is.opened))
  none_refused p h q has used closed (Desk Closed) is = absurd (signed_isnt q Closed (closed is.closed))
  none_refused p h q has used closed (Desk DiskFault) is = absurd is
  none_refused p h q has used closed (Memory _) is = absurd is

  -- the desk's refusal is the reason
  pub desk_refused : {X : Type 0} (f : DeskError) (h : Header) → HasHeader hash sha256 parts s h → (HasNoFree desk → desk.is_open ≡ true → unsigned f ≡ Err KeysUsedUp) → (desk.is_open ≡ false → unsigned f ≡ Err Closed)
      → AnswersRefusal {X = X} hash parts s desk (Err (Desk f))
  desk_refused f h has used closed (Build e) none = absurd (no_reason h e has none)
  desk_refused f h has used closed (Desk KeysUsedUp) is = inl (ap (λ (x : DeskError). Err (Desk x)) (same_fault f KeysUsedUp (used is.none_free is.opened)))
  desk_refused f h has used closed (Desk Closed) is = inl (ap (λ (x : DeskError). Err (Desk x)) (same_fault f Closed (closed is.closed)))
  desk_refused f h has used closed (Desk DiskFault) is = absurd is
  desk_refused f h has used closed (Memory _) is = absurd is

  -- and so is the reason why there is no book
  pub book_refused : {X : Type 0} (b : BuildError) → IsNoBook hash parts s b → AnswersRefusal {X = X} hash parts s desk (Err (Build b))
  book_refused b none (Build e) other =
      inl (ap (λ (x : BuildError). Err (Build x)) (same_reason b e (makings hash sha256 parts s (unmade b) (unmade e) none.0 other.0 (λ is. none.1 (same_reason b (build_errors.Memory no_memory) is)) (λ is. other.1 (same_reason e (build_errors.Memory no_memory) is)))))
  book_refused b none (Desk KeysUsedUp) is = absurd (no_reason is.header b is.has none)
  book_refused b none (Desk Closed) is = absurd (no_reason is.header b is.has none)
  book_refused b none (Desk DiskFault) is = absurd is
  book_refused b none (Memory _) is = absurd is

-- out of memory is always an allowed result
pub memory_answers : {X : Type 0} (hash : List ℕ → List ℕ) (parts : Parts) (s : Settings) (desk : View) → AnswersRefusal {X = X} hash parts s desk (Err (Memory no_memory))
memory_answers hash parts s desk e is = inr refl
