-- The counts of a survey.
use Rattle.std.specs.Prelude.{◌≡◌, ℕ, ◌+◌, ◌≤◌, List, ◌++◌, length}
use Rattle.std.specs.List.{sum_by, concat}
use Rattle.sha2.specs.Sha256.{sha256}
use Rattle.octet_text.specs.Sha.{HoldsText}
use Rattle.lms_tree.specs.Signatures.{public_key}
use Rattle.road_map.specs.declared.parts.Parts.{Parts}
use Rattle.book_model.specs.declared.items.Query.{Query}
use Rattle.book_model.specs.declared.settings.Settings.{Settings}
use Rattle.proof_octets.specs.declared.publication.Publication.{Publication}
use Rattle.proof_octets.specs.Publications.{publication_text}
use Rattle.route_server.specs.Keeping.{Kept, publication_in}
use Rattle.near_proof.specs.Honest.{IsSigned}
use Rattle.route_survey.specs.Surveys.{survey_key, IsSurveyed, IsAnswered, AllAnswered, length_of}
use Rattle.route_survey.specs.declared.tally.Tally.{Tally}

-- an installed publication of version 1 or later, signed by the survey's key
pub record IsAskable (k : Kept) : Type 0 where
  pub signed : IsSigned sha256 sha256 (public_key survey_key) (publication_in sha256 k)
  pub version : 1 ≤ (publication_in sha256 k).header.version
  pub short : length k.signature ≤ 1452

-- one more query was answered, and its reply accepted
pub record CountsOne (p : Publication) (q : Query) (old new : Tally) : Type 0 where
  pub reply : List ℕ
  pub answered : IsAnswered p q reply
  pub accepted : new.accepted ≡ old.accepted + 1
  pub total : new.total ≡ old.total + length_of p.parts q
  pub digested : (text : List ℕ) → HoldsText old.hasher text → HoldsText new.hasher (text ++ reply)

-- all these queries were answered, and their replies accepted
pub record CountsAll (p : Publication) (queries : List Query) (old new : Tally) : Type 0 where
  pub replies : List (List ℕ)
  pub answered : AllAnswered p queries replies
  pub accepted : new.accepted ≡ old.accepted + length queries
  pub total : new.total ≡ old.total + sum_by (length_of p.parts) queries
  pub digested : (text : List ℕ) → HoldsText old.hasher text →
      HoldsText new.hasher (text ++ concat replies)

-- the counts of a survey over its publication
pub record IsTallied (p : Publication) (queries : List Query) (tally : Tally) : Type 0 where
  pub replies : List (List ℕ)
  pub answered : AllAnswered p queries replies
  pub accepted : tally.accepted ≡ length queries
  pub total : tally.total ≡ sum_by (length_of p.parts) queries
  pub digested : HoldsText tally.hasher (publication_text p ++ concat replies)

-- the counts of a survey of parts and settings, over the publication that it made from them
pub record IsCounted (parts : Parts) (s : Settings) (queries : List Query)
    (tally : Tally) : Type 0 where
  pub made : Publication
  pub is_made : IsSurveyed parts s made
  pub tallied : IsTallied made queries tally
