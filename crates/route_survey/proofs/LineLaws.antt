-- The line of the counts.
use Rattle.std.proofs.Common.{◌≡◌, ℕ, Result, OnOk, List, ◌++◌, length, arith, ap, sym, ◌∙◌, subst}
use Rattle.std.specs.List.{All, sum_by, concat}
use Rattle.sha2.specs.Sha256.{sha256}
use Rattle.octet_text.specs.Sha.{HoldsText}
use Rattle.road_map.specs.declared.parts.Parts.{Parts}
use Rattle.book_model.specs.declared.items.Query.{Query}
use Rattle.book_model.specs.declared.settings.Settings.{Settings}
use Rattle.proof_octets.specs.declared.publication.Publication.{Publication}
use Rattle.proof_octets.specs.Publications.{publication_text}
use Rattle.near_proof.specs.Honest.{AreJoined}
use Rattle.route_survey.specs.Surveys.{IsSurveyed, IsSurveyLine, length_of, survey_line}
use Rattle.route_survey.specs.Tallies.{CountsAll, IsTallied, IsCounted}
use Rattle.route_survey.specs.declared.tally.Tally.{Tally}

-- the counts over the held book are the counts over the held publication
pub counts_over : {E : Type 0} (held p : Publication) (queries : List Query) (old new : Tally) (r : Result Unit E) → held ≡ p → OnOk r (CountsAll held queries old new) → OnOk r (CountsAll p queries old new)
counts_over held p queries old new r same counts = subst (λ (x : Publication). OnOk r (CountsAll x queries old new)) same counts

pub tallied_so : (p : Publication) (queries : List Query) (old new : Tally) → CountsAll p queries old new → old.accepted ≡ 0 → old.total ≡ 0 → HoldsText old.hasher (publication_text p) → IsTallied p queries new
tallied_so p queries old new all none zero holds = record {
  replies = all.replies;
  answered = all.answered;
  accepted = omega (arith, all.accepted, none);
  total = omega (arith, all.total, zero);
  digested = all.digested (publication_text p) holds;
}

pub joined_in : (held p : Publication) (queries : List Query) → held ≡ p → All (AreJoined p.parts) queries → All (AreJoined held.parts) queries
joined_in held p queries same all = subst (λ (x : Publication). All (AreJoined x.parts) queries) (sym same) all

-- the publication has version 1 if the settings do
pub version_one : (parts : Parts) (s : Settings) (p : Publication) → IsSurveyed parts s p → s.version ≡ 1 → p.settings.version ≡ 1
version_one parts s p is one = ap (λ (x : Settings). x.version) is.of_settings ∙ one

-- queries whose ends are joined in the parts have joined ends in the publication
pub joined_over : (parts : Parts) (s : Settings) (p : Publication) (queries : List Query) → IsSurveyed parts s p → All (AreJoined parts) queries → All (AreJoined p.parts) queries
joined_over parts s p queries is all = subst (λ (x : Parts). All (AreJoined x) queries) (sym is.of_parts) all

-- the line of the counts
pub line_so : (parts : Parts) (s s' : Settings) (queries queries' : List Query) (tally : Tally) (wanted : ℕ) (text : List ℕ)
    → s ≡ s' → queries ≡ queries' → IsCounted parts s queries tally → wanted ≡ length queries'
    → ((t : List ℕ) → HoldsText tally.hasher t → text ≡ survey_line wanted tally.accepted tally.total (sha256 t)) → IsSurveyLine parts s' queries' text
line_so parts s s' queries queries' tally wanted text same_settings same_queries counted many line =
    let is : IsSurveyed parts s' counted.made = subst (λ (x : Settings). IsSurveyed parts x counted.made) same_settings counted.is_made in
    let all : IsTallied counted.made queries' tally = subst (λ (x : List Query). IsTallied counted.made x tally) same_queries counted.tallied in
    let sums : tally.total ≡ sum_by (length_of parts) queries' = subst (λ (x : Parts). tally.total ≡ sum_by (length_of x) queries') is.of_parts all.total in
    let digest : List ℕ = sha256 (publication_text counted.made ++ concat all.replies) in
    record {
      made = counted.made;
      is_made = is;
      replies = all.replies;
      answered = all.answered;
      line = line (publication_text counted.made ++ concat all.replies) all.digested
          ∙ (ap (λ n. survey_line n tally.accepted tally.total digest) many
          ∙ (ap (λ n. survey_line (length queries') n tally.total digest) all.accepted
          ∙ ap (λ n. survey_line (length queries') (length queries') n digest) sums));
    }
