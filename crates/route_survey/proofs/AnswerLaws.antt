-- The replies that a client accepts over a survey's publication.
use Rattle.std.proofs.Common.{◌≡◌, ◌↔◌, ℕ, ◌≤◌, Option, None, Some, Result, Ok, Err, List, [], length, refl, arith, ap, sym, subst}
use Rattle.sha2.specs.Sha256.{sha256}
use Rattle.lms_tree.specs.Signatures.{public_key}
use Rattle.road_map.specs.declared.parts.Parts.{Parts}
use Rattle.road_map.specs.Least.{IsLeast}
use Rattle.road_map.specs.Laws.{DistanceLaws}
use Rattle.road_map.specs.Routes.{IsShortest}
use Rattle.road_map.specs.Walks.{Joins, distance}
use Rattle.book_model.specs.declared.settings.Settings.{Settings}
use Rattle.proof_method.proofs.Completes.{shortest_joins}
use Rattle.proof_octets.specs.declared.header.Header.{Header}
use Rattle.proof_octets.specs.declared.publication.Publication.{Publication}
use Rattle.proof_octets.specs.Good.{IsGoodPublication}
use Rattle.proof_octets.specs.Publications.{publication}
use Rattle.route_server.specs.Headers.{HasHeader, header_of}
use Rattle.route_server.specs.Keeping.{Kept, publication_in}
use Rattle.route_client.specs.declared.accepted.Accepted.{Accepted}
use Rattle.route_client.specs.declared.accepted.Checked.{Checked}
use Rattle.route_client.specs.declared.accepted.Checked.TheVariants.{Route, Apart}
use Rattle.route_client.specs.Truth.{HoldsIn}
use Rattle.route_client.specs.declared.errors.CheckError.{CheckError}
use Rattle.route_client.specs.declared.errors.CheckError.TheVariants as errors
use Rattle.route_client.specs.Verdicts.{UnlessMemory, Accepts}
use Rattle.near_proof.specs.Honest.{IsSigned, AreKnown, AreJoined, AreAccepted}
use Rattle.book_model.specs.declared.items.Query.{Query}
use Rattle.route_survey.specs.Surveys.{survey_key, IsSurveyed}
use Rattle.route_survey.specs.Tallies.{IsAskable}
use Rattle.octet_text.specs.Want.{no_memory}

-- if a reply is accepted, the only other result is out of memory
pub refused_as : (e : CheckError) (x : Checked) → UnlessMemory {A = Checked} (λ r. r ≡ Ok x) (Err e) → e ≡ errors.Memory no_memory
refused_as (errors.Memory _) x h = refl
refused_as e x h = cc

-- the length of a shortest route is the distance
by_least : (parts : Parts) (s t d : ℕ) (o : Option ℕ) → IsLeast (Joins parts s t) o → Joins parts s t d → ((e : ℕ) → Joins parts s t e → d ≤ e) → o ≡ Some d
by_least parts s t d None least joins short = absurd (least d joins)
by_least parts s t d (Some e) least joins short = let same : e ≡ d = omega (arith, least.1 d joins, short e least.0) in ap Some same

pub shortest_is : (parts : Parts) → DistanceLaws parts → (s t d : ℕ) (route : List ℕ) → IsShortest parts s t route d → distance parts s t ≡ Some d
shortest_is parts laws s t d route short = by_least parts s t d (distance parts s t) (laws.least s t) (shortest_joins parts s t d route short) short.least

-- joined ends are known
pub known_of : (parts : Parts) (q : Query) → AreJoined parts q → AreKnown parts q
known_of parts q joined = record { from = joined.from; to = joined.to }

-- the length of a route that is true of a map
pub length_is : (parts : Parts) → DistanceLaws parts → (q : Query) (x : Checked) → HoldsIn parts q x → (y : Accepted) → x ≡ Route y → distance parts q.from q.to ≡ Some y.length
length_is parts laws q x holds y is =
    let short : IsShortest parts q.from q.to y.route y.length = subst (HoldsIn parts q) is holds in
    shortest_is parts laws q.from q.to y.length y.route short

-- if a walk joins the ends, the result that no walk joins them is never true
pub never_apart : (parts : Parts) (q : Query) (x : Checked) (version : ℕ) (header : Header) → AreJoined parts q → HoldsIn parts q x → x ≡ Apart version header → ⊥
never_apart parts q x version header joined holds is = (subst (HoldsIn parts q) is holds).2 joined.length joined.joins

signed_of : (p : Publication) (parts : Parts) (s : Settings) → IsSurveyed parts s p → IsSigned sha256 sha256 (public_key survey_key) p
signed_of p parts s is = record {
  header = subst (λ (x : Parts). HasHeader sha256 sha256 x p.settings p.header) (sym is.of_parts) (subst (λ (x : Settings). HasHeader sha256 sha256 parts x p.header) (sym is.of_settings) is.has_header);
  signature = is.good;
}

version_of : (p : Publication) (parts : Parts) (s : Settings) → IsSurveyed parts s p → s.version ≡ 1 → 1 ≤ p.header.version
unfolding header_of
version_of p parts s is one = let same : p.header.version ≡ s.version = ap (λ (h : Header). h.version) is.has_header.is in omega arith

askable_as : ((b : Publication) → publication.Fits b ↔ IsGoodPublication b) → (p : Publication) (parts : Parts) (s : Settings) → IsSurveyed parts s p → s.version ≡ 1
    → IsSigned sha256 sha256 (public_key survey_key) p × (1 ≤ p.header.version) × (length p.signature ≤ 1452)
askable_as ranges p parts s is one = (signed_of p parts s is, version_of p parts s is one, ((ranges p).0 is.fits).signature)

-- an installed publication of a survey can answer queries
pub is_askable : ((b : Publication) → publication.Fits b ↔ IsGoodPublication b) → (k : Kept) (p : Publication) (parts : Parts) (s : Settings) → publication_in sha256 k ≡ p → IsSurveyed parts s p → s.version ≡ 1 → IsAskable k
is_askable ranges k p parts s held is one =
    let all = askable_as ranges (publication_in sha256 k) parts s (subst (IsSurveyed parts s) (sym held) is) one in
    record { signed = all.0; version = all.1; short = all.2 }

-- the result that a client takes from accepted octets
pub accepted_as : (key public items octets : List ℕ) (q : Query) (parts : Parts) (r : Result Checked CheckError) → public ≡ key → octets ≡ items → (a : AreAccepted sha256 key [] items q 1 parts)
    → ((x : Checked) → Accepts sha256 public [] octets q 1 x → UnlessMemory {A = Checked} (λ v. v ≡ Ok x) r) → UnlessMemory {A = Checked} (λ v. v ≡ Ok a.accepted) r
accepted_as key public items octets q parts r same whole a accepts =
    accepts a.accepted (subst (λ (k : List ℕ). Accepts sha256 k [] octets q 1 a.accepted) (sym same) (subst (λ (o : List ℕ). Accepts sha256 key [] o q 1 a.accepted) (sym whole) a.accepts))

pub same_accepted : (x y : Checked) (r : Result Checked CheckError) → r ≡ Ok x → r ≡ Ok y → x ≡ y
same_accepted x y r is same = cc

-- the facts that a survey's publication implies for its own parts and settings
pub of_itself : (parts : Parts) (s : Settings) (p : Publication) → IsSurveyed parts s p → IsSurveyed p.parts p.settings p
of_itself parts s p is = record { of_parts = refl; of_settings = refl; has_header = (signed_of p parts s is).header; signed = is.signed; good = is.good; fits = is.fits }
