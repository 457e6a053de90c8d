-- Parts and settings have one result, and so does every command that depends on it.
use Rattle.std.proofs.Common.{◌≡◌, ◌≢◌, inl, inr, ℕ, List, sym, subst, ◌∙◌}
use Rattle.std.specs.declared.result.Result.{Result}
use Rattle.std.specs.declared.result.Result.TheVariants.{Ok, Err}
use Rattle.sha2.specs.Sha256.{sha256}
use Rattle.road_map.specs.declared.parts.Parts.{Parts}
use Rattle.book_model.specs.declared.settings.Settings.{Settings}
use Rattle.proof_octets.specs.declared.header.Header.{Header}
use Rattle.proof_octets.specs.declared.publication.Publication.{Publication}
use Rattle.route_server.specs.Headers.{Makes}
use Rattle.route_server.specs.declared.errors.BuildError.{BuildError}
use Rattle.route_server.specs.declared.errors.BuildError.TheVariants as build
use Rattle.command_books.specs.Installing.{AfterBuild, EndsBuilding, IfInstalled, EndsInstalling}
use Rattle.command_files.specs.Endings.{Ending}
use Rattle.command_files.specs.declared.fault.Fault.{Fault}
use Rattle.command_files.specs.declared.ended.Conclusion.{Conclusion}
use Rattle.octet_text.specs.Want.{no_memory}

-- parts and settings have at most one result
abbrev pub OneMaking : Type 0
OneMaking = (hash sha : List ℕ → List ℕ) (parts : Parts) (s : Settings) (one other : Result Header BuildError)
    → Makes hash sha parts s one → Makes hash sha parts s other → one ≢ Err (build.Memory no_memory) → other ≢ Err (build.Memory no_memory) → one ≡ other

-- the rest of the command has one result
module _ (Next : Header → Ending) (o p : Result Conclusion Fault) (t u : List ℕ) where
  after_one : ((h : Header) → Next h o t → Next h p u → o ≡ p) → (m : Result Header BuildError) → AfterBuild Next m o t → AfterBuild Next m p u → o ≡ p
  after_one one (Ok h) a b = one h a b
  after_one one (Err (build.Map e)) a b = a.0 ∙ sym b.0
  after_one one (Err (build.Plan e)) a b = a.0 ∙ sym b.0
  after_one one (Err (build.Memory _)) a b = absurd a

  pub one_building : OneMaking → (parts : Parts) (s : Settings) → ((h : Header) → Next h o t → Next h p u → o ≡ p) → EndsBuilding parts s Next o t → EndsBuilding parts s Next p u → o ≡ p
  one_building makings parts s one h k =
      let same : h.made ≡ k.made =
      makings sha256 sha256 parts s h.made k.made h.makes k.makes
      (λ e. subst (λ (m : Result Header BuildError). AfterBuild Next m o t) e h.follows)
      (λ e. subst (λ (m : Result Header BuildError). AfterBuild Next m p u) e k.follows) in
      after_one one k.made (subst (λ (m : Result Header BuildError). AfterBuild Next m o t) same h.follows) k.follows

-- and so does the part after an install
pub one_installing : OneMaking → (b : Publication) (Next : Ending) (o p : Result Conclusion Fault) (t u : List ℕ)
    → (Next o t → Next p u → o ≡ p) → EndsInstalling b Next o t → EndsInstalling b Next p u → o ≡ p
one_installing makings b Next o p t u one =
    one_building (IfInstalled b Next) o p t u makings b.parts b.settings by
  where
    by : (h : Header) → IfInstalled b Next h o t → IfInstalled b Next h p u → o ≡ p
    by h (inl a) (inl c) = one a.1 c.1
    by h (inl a) (inr c) = absurd (c.0 a.0)
    by h (inr a) (inl c) = absurd (a.0 c.0)
    by h (inr a) (inr c) = a.1 ∙ sym c.1
