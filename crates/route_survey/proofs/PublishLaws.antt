-- The publication of a survey.
use Rattle.std.proofs.Common.{◌≡◌, ◌≢◌, ◌↔◌, ◌≤◌, ℕ, Result, Ok, Err, List, length, refl, ap, sym, ◌∙◌, subst}
use Rattle.sha2.specs.Sha256.{sha256}
use Rattle.lms_tree.specs.Signatures.{KeyOf, public_key, sealed, verified}
use Rattle.road_map.specs.declared.parts.Parts.{Parts}
use Rattle.book_model.specs.declared.settings.Settings.{Settings}
use Rattle.proof_octets.specs.declared.header.Header.{Header}
use Rattle.proof_octets.specs.declared.publication.Publication.{Publication}
use Rattle.proof_octets.specs.Headers.{header_text}
use Rattle.proof_octets.specs.Publications.{publication}
use Rattle.proof_octets.specs.Good.{IsGoodPublication}
use Rattle.route_server.specs.Headers.{HasHeader, Makes}
use Rattle.route_server.specs.declared.errors.BuildError.{BuildError}
use Rattle.route_server.specs.declared.errors.BuildError.TheVariants as build
use Rattle.route_owner.specs.Published.{IsSignable}
use Rattle.route_owner.proofs.Sealing.{fits_with}
use Rattle.route_survey.specs.Surveys.{survey_key, IsSurveyed}
use Rattle.octet_text.specs.Want.{no_memory}

-- the header of parts and settings with its signature
pub surveyed_so : ((b : Publication) → publication.Fits b ↔ IsGoodPublication b) → (parts left : Parts) (s : Settings) (header : Header) (made out text : List ℕ) (key : KeyOf)
    → IsSignable sha256 parts s header left → key ≡ survey_key → made ≡ out → out ≡ sealed key 0 text → verified (public_key key) text out ≡ Ok tt → text ≡ header_text header → length out ≤ 1452
    → IsSurveyed parts s (record { header = header; signature = made; settings = s; parts = left })
surveyed_so ranges parts left s header made out text key is keys same sealed_is good text_is short = record {
  of_parts = is.same;
  of_settings = refl;
  has_header = is.has;
  signed = same ∙ (sealed_is ∙ (ap (λ (k : KeyOf). sealed k 0 text) keys ∙ ap (sealed survey_key 0) text_is));
  good = subst (λ (x : List ℕ). verified (public_key survey_key) (header_text header) x ≡ Ok tt) (sym same) (subst (λ (t : List ℕ). verified (public_key survey_key) t out ≡ Ok tt) text_is (subst (λ (k : KeyOf). verified (public_key k) text out ≡ Ok tt) keys good));
  fits = fits_with ranges sha256 parts left s header made is (subst (λ (x : List ℕ). length x ≤ 1452) (sym same) short);
}

-- parts and settings have at most one result
abbrev pub MakesOne : Type 0
MakesOne = (hash sha : List ℕ → List ℕ) (parts : Parts) (s : Settings) (one other : Result Header BuildError)
    → Makes hash sha parts s one → Makes hash sha parts s other → one ≢ Err (build.Memory no_memory) → other ≢ Err (build.Memory no_memory) → one ≡ other

err_is : (e f : BuildError) (r : Result Header BuildError) → r ≡ Err e → r ≡ Err f → e ≡ f
err_is e f r is same = cc

ok_is : (x y : Header) (r : Result Header BuildError) → r ≡ Ok x → r ≡ Ok y → x ≡ y
ok_is x y r is same = cc

not_both : (x : Header) (e : BuildError) (r : Result Header BuildError) → r ≡ Ok x → r ≡ Err e → ⊥
not_both x e r is same = cc

-- if they have a header, there is no other result
pub no_fault : MakesOne → (p : Publication) → HasHeader sha256 sha256 p.parts p.settings p.header → (e : BuildError) → Makes sha256 sha256 p.parts p.settings (Err e) → e ≢ build.Memory no_memory → ⊥
no_fault law p has e makes other =
    not_both p.header e (Ok p.header) refl (law sha256 sha256 p.parts p.settings (Ok p.header) (Err e) has makes (λ bad. not_both p.header (build.Memory no_memory) (Ok p.header) refl bad) (λ bad. other (err_is e (build.Memory no_memory) (Err e) refl bad)))

pub no_other : MakesOne → (p : Publication) → HasHeader sha256 sha256 p.parts p.settings p.header → (h : Header) → HasHeader sha256 sha256 p.parts p.settings h → h ≢ p.header → ⊥
no_other law p has h made other =
    other (ok_is h p.header (Ok h) refl (law sha256 sha256 p.parts p.settings (Ok h) (Ok p.header) made has (λ bad. not_both h (build.Memory no_memory) (Ok h) refl bad) (λ bad. not_both p.header (build.Memory no_memory) (Ok p.header) refl bad)))
