-- The output of a survey. Source: this program's profile. Yiu, Lin and Mouratidis, ICDE 2010, measure methods with
-- random queries.
use Rattle.std.specs.Prelude.{◌≡◌, ℕ, Ok, Some, List, [], ◌∷◌, ◌++◌, length, codes, replicate}
use Rattle.std.specs.List.{sum_by, concat}
use Rattle.std.specs.Option.{unwrap_or}
use Rattle.std.specs.Fmt.{decimal}
use Rattle.hex.specs.Hex.{encode_lower}
use Rattle.sha2.specs.Sha256.{sha256}
use Rattle.lms_tree.specs.Signatures.{KeyOf, public_key, sealed, verified}
use Rattle.road_map.specs.Walks.{distance}
use Rattle.road_map.specs.declared.parts.Parts.{Parts}
use Rattle.book_model.specs.declared.items.Query.{Query}
use Rattle.book_model.specs.declared.settings.Settings.{Settings}
use Rattle.proof_octets.specs.declared.publication.Publication.{Publication}
use Rattle.proof_octets.specs.Headers.{header_text}
use Rattle.proof_octets.specs.Publications.{publication, publication_text}
use Rattle.book_model.specs.Books.{kind_of, plan_fault}
use Rattle.route_server.specs.Headers.{HasHeader}
use Rattle.route_server.specs.Honesty.{IsHonest}
use Rattle.near_proof.specs.Honest.{AreAccepted}
use Rattle.route_survey.specs.declared.errors.SurveyError.{SurveyError}
use Rattle.route_survey.specs.declared.errors.SurveyError.TheVariants.{Plan, Memory}

-- the key that a survey makes in memory: it has height 5, and its identifier and seed are zeros
abbrev pub survey_key : KeyOf
survey_key = record { kind = 5; i = replicate 16 0; seed = replicate 32 0 }

-- the line of a survey: the number of queries, the number accepted, the sum of their lengths, and a digest
abbrev pub survey_line : ℕ → ℕ → ℕ → List ℕ → List ℕ
survey_line queries accepted total digest =
    codes "queries " ++ decimal queries ++ codes " accepted " ++ decimal accepted ++ codes " total "
    ++ decimal total ++ codes " digest " ++ encode_lower digest ++ codes "\n"

-- the publication that a survey makes of parts and settings: it has the header of their book, and a valid signature
-- of this header by slot 0 of the survey's key
pub record IsSurveyed (parts : Parts) (s : Settings) (p : Publication) : Type 0 where
  pub of_parts : p.parts ≡ parts
  pub of_settings : p.settings ≡ s
  pub has_header : HasHeader sha256 sha256 parts s p.header
  pub signed : p.signature ≡ sealed survey_key 0 (header_text p.header)
  pub good : verified (public_key survey_key) (header_text p.header) p.signature ≡ Ok tt
  pub fits : publication.Fits p

-- an honest reply to a query over a publication, which a client with the survey's public key accepts
pub record IsAnswered (p : Publication) (q : Query) (reply : List ℕ) : Type 0 where
  pub honest : IsHonest sha256 sha256 p q reply
  pub accepted : AreAccepted sha256 (public_key survey_key) [] reply q 1 p.parts

-- one such reply to each query, in turn
abbrev pub AllAnswered : Publication → List Query → List (List ℕ) → Type 0
AllAnswered p [] [] = Unit {0}
AllAnswered p (q ∷ queries) (reply ∷ replies) = IsAnswered p q reply × AllAnswered p queries replies
AllAnswered p queries replies = ⊥

-- the length of a shortest walk between a query's ends, which a walk joins
abbrev pub length_of : Parts → Query → ℕ
length_of parts q = unwrap_or (distance parts q.from q.to) 0

-- The line of a survey over some parts. Each query is answered, and its reply accepted. The sum is that of the
-- lengths of shortest walks. The digest is that of the publication followed by all replies in their order.
pub record IsSurveyLine (parts : Parts) (s : Settings) (queries : List Query)
    (text : List ℕ) : Type 0 where
  pub made : Publication
  pub is_made : IsSurveyed parts s made
  pub replies : List (List ℕ)
  pub answered : AllAnswered made queries replies
  pub line : text ≡ survey_line (length queries) (length queries) (sum_by (length_of parts) queries)
      (sha256 (publication_text made ++ concat replies))

-- why there is no survey: the parts have no book under the settings, for this first reason
abbrev pub WhyNoSurvey : Parts → Settings → SurveyError → Type 0
WhyNoSurvey parts s (Plan e) = plan_fault (kind_of s.method) parts s ≡ Some e
WhyNoSurvey parts s (Memory _) = Unit {0}
