-- The guarantees of publishing. Source: Yiu, Lin and Mouratidis, ICDE 2010: the data owner signs the roots of the
-- trees and hands them out with the map.
use Rattle.std.specs.Prelude.{◌≡◌, ◌≢◌, ◌⊎◌, ◌≤◌, ◌+◌, ◌<◌, ◌^◌, ℕ, true, false, List, All, length}
use Rattle.std.specs.declared.result.Result.{Result}
use Rattle.std.specs.declared.result.Result.TheVariants.{Ok, Err}
use Rattle.sha2.specs.Sha256.{sha256}
use Rattle.road_map.specs.declared.parts.Parts.{Parts}
use Rattle.road_io.specs.declared.disk.Disk.{Ghosts}
use Rattle.road_io.specs.Moments.{EachImage, AtEachMoment}
use Rattle.book_model.specs.declared.settings.Settings.{Settings}
use Rattle.lms_tree.specs.Signatures.{KeyOf, number_at, sealed}
use Rattle.desk_areas.specs.declared.area.Count.TheVariants.{Free}
use Rattle.key_desk.specs.Desk.{IsSignature, count_at, IsUsedUp as HasNoFree}
use Rattle.key_desk.specs.Spending.{IsLowestFree}
use Rattle.key_desk.specs.declared.desk.DeskError.TheVariants as desk_errors
use Rattle.key_desk.specs.declared.desk.Desk.{Desk as View}
use Rattle.desk_areas.specs.Layout.{SlotId, slots_of, slots_at, base_of, gate_of, IsCurrent, IsSigned, PutsText, SignsAtMost}
use Rattle.proof_octets.specs.declared.header.Header.{Header}
use Rattle.proof_octets.specs.declared.publication.Publication.{Publication}
use Rattle.proof_octets.specs.Headers.{header_text}
use Rattle.proof_octets.specs.Publications.{publication}
use Rattle.proof_octets.specs.Good.{IsGoodHeader, IsGoodNode, IsGoodRoad}
use Rattle.route_server.specs.Headers.{HasHeader, Makes}
use Rattle.route_server.specs.declared.errors.BuildError.{BuildError}
use Rattle.route_server.specs.declared.errors.BuildError.TheVariants as build_errors
use Rattle.route_owner.specs.declared.errors.PublishError.{PublishError}
use Rattle.route_owner.specs.declared.errors.PublishError.TheVariants.{Build, Desk, Memory}
use Rattle.octet_text.specs.Want.{no_memory}

-- the number of the slot whose one-time key signed
abbrev pub slot_of : Publication → ℕ
slot_of p = number_at p.signature 0

-- that slot in an area
abbrev pub slot_in : ℕ → Publication → SlotId
slot_in area p = record { area = area; number = slot_of p }

-- The publication of parts and settings. It has the header of their book, signed with a one-time key of this key
-- other than the last. The signature is the one that this one-time key makes of this text, so the signer cannot
-- choose any octet of it.
pub record IsPublication (hash : List ℕ → List ℕ) (key : KeyOf) (parts : Parts) (s : Settings)
    (p : Publication) : Type 0 where
  pub of_parts : p.parts ≡ parts
  pub of_settings : p.settings ≡ s
  pub has_header : HasHeader hash sha256 parts s p.header
  pub slot : slot_of p + 1 < slots_of key.kind
  pub signed : IsSignature key (slot_of p) (header_text p.header) p.signature
  pub exact : p.signature ≡ sealed key (slot_of p) (header_text p.header)
  pub fits : publication.Fits p

-- in every image, the header is in its slot of this area, which is the last open one; no text was signed in this
-- slot before; and the slot is not the area's last, which is kept for the next key
pub record IsSealed {D : Type 0} (g : Ghosts D) (old new : D) (area : ℕ)
    (p : Publication) : Type 0 where
  pub current : EachImage g new (λ i. IsCurrent i area)
  pub early : EachImage g new (λ i. slot_of p + 1 < slots_at i (base_of i area))
  pub was_free : EachImage g old (λ i. gate_of i (slot_in area p) ≡ 0)
  pub stands : EachImage g new (λ i. IsSigned i (slot_in area p) (header_text p.header))

-- P holds if a signing was begun
abbrev pub OnSigning : {X : Type 0} → Result X PublishError → Type 0 → Type 0
OnSigning (Ok p) P = P
OnSigning (Err (Build e)) P = Unit {0}
OnSigning (Err (Desk e)) P = P
OnSigning (Err (Memory _)) P = Unit {0}

-- P holds if no signing was begun
abbrev pub OnNoSigning : {X : Type 0} → Result X PublishError → Type 0 → Type 0
OnNoSigning (Ok p) P = Unit {0}
OnNoSigning (Err (Build e)) P = P
OnNoSigning (Err (Desk e)) P = Unit {0}
OnNoSigning (Err (Memory _)) P = P

-- The only changes are in the length octet of this slot, a text of at most 104 octets in it, and its gate. The slot
-- belongs to the last open area and is not its last. The signed pairs are unchanged, or this slot with this text is
-- added to them.
pub record SignsInSlot (slot : SlotId) (text d i : List ℕ) : Type 0 where
  pub current : IsCurrent d slot.area
  pub early : slot.number + 1 < slots_at d (base_of d slot.area)
  pub short : length text ≤ 104
  pub alone : PutsText slot text d i
  pub signs : SignsAtMost slot text d i

-- the same, for the lowest free slot of the last open area
pub record SignsLowest (slot : SlotId) (text d i : List ℕ) : Type 0 where
  pub free : IsLowestFree d slot
  pub short : length text ≤ 104
  pub alone : PutsText slot text d i
  pub signs : SignsAtMost slot text d i

-- at each moment, each image is one from the entry, or differs from such an image by one step with one slot and the
-- header
pub record SignsHeaderBy {D : Type 0} (Step : SlotId → List ℕ → List ℕ → List ℕ → Type 0)
    (g : Ghosts D) (old new : D) (hash : List ℕ → List ℕ) (parts : Parts)
    (s : Settings) : Type 0 where
  pub slot : SlotId
  pub header : Header
  pub of_book : HasHeader hash sha256 parts s header
  pub each : AtEachMoment g old new (λ d i. (i ≡ d) ⊎ Step slot (header_text header) d i)

-- at each moment, each image is one from the entry, or adds to such an image at most the pair of one slot and the
-- header
abbrev pub SignsHeader : {D : Type 0} → Ghosts D → D → D → (List ℕ → List ℕ) → Parts → Settings → Type 0
SignsHeader g old new hash parts s = SignsHeaderBy SignsInSlot g old new hash parts s

-- the same, for the lowest free slot
abbrev pub SignsLowestHeader : {D : Type 0} → Ghosts D → D → D → (List ℕ → List ℕ) → Parts → Settings → Type 0
SignsLowestHeader g old new hash parts s = SignsHeaderBy SignsLowest g old new hash parts s

-- why there was no book
abbrev pub IsNoBook : (List ℕ → List ℕ) → Parts → Settings → BuildError → Type 0
IsNoBook hash parts s e = Makes hash sha256 parts s (Err e) × (e ≢ build_errors.Memory no_memory)

-- those numbers of settings that no header holds fit their widths
pub record HasSettingWidths (s : Settings) : Type 0 where
  pub seed : s.seed < 2 ^ 64
  pub p1 : s.p1 < 2 ^ 64
  pub p2 : s.p2 < 2 ^ 64
  pub p3 : s.p3 < 2 ^ 64

-- the parts, unchanged, and their header under the settings
pub record IsSignable (hash : List ℕ → List ℕ) (parts : Parts) (s : Settings) (header : Header)
    (left : Parts) : Type 0 where
  pub same : left ≡ parts
  pub has : HasHeader hash sha256 parts s header
  pub good_header : IsGoodHeader header
  pub settings : HasSettingWidths s
  pub few_nodes : length parts.nodes ≤ 65536
  pub few_roads : length parts.roads ≤ 262144
  pub nodes : All IsGoodNode parts.nodes
  pub roads : All IsGoodRoad parts.roads

-- there is a header to sign and the desk is open, but it counts no slot of its current area as free, except
-- possibly the last
pub record IsUsedUp (hash : List ℕ → List ℕ) (parts : Parts) (s : Settings)
    (desk : View) : Type 0 where
  pub header : Header
  pub has : HasHeader hash sha256 parts s header
  pub opened : desk.is_open ≡ true
  pub none_free : HasNoFree desk

-- there is a header to sign, and the desk is closed
pub record IsClosed (hash : List ℕ → List ℕ) (parts : Parts) (s : Settings)
    (desk : View) : Type 0 where
  pub header : Header
  pub has : HasHeader hash sha256 parts s header
  pub closed : desk.is_open ≡ false

-- why a publication is refused, apart from out of memory and disk errors
abbrev pub Refuses : (List ℕ → List ℕ) → Parts → Settings → View → PublishError → Type 0
Refuses hash parts s desk (Build e) = IsNoBook hash parts s e
Refuses hash parts s desk (Desk desk_errors.KeysUsedUp) = IsUsedUp hash parts s desk
Refuses hash parts s desk (Desk desk_errors.Closed) = IsClosed hash parts s desk
Refuses hash parts s desk e = ⊥

-- the reason to refuse a publication is returned, unless memory ran out
abbrev pub AnswersRefusal : {X : Type 0} → (List ℕ → List ℕ) → Parts → Settings → View →
    Result X PublishError → Type 0
AnswersRefusal hash parts s desk answer = (e : PublishError) → Refuses hash parts s desk e →
    (answer ≡ Err e) ⊎ (answer ≡ Err (Memory no_memory))

-- there is a header to sign, and the desk is open and counts a slot of its current area before the last one as free
pub record CanPublish (hash : List ℕ → List ℕ) (parts : Parts) (s : Settings)
    (desk : View) : Type 0 where
  pub header : Header
  pub has : HasHeader hash sha256 parts s header
  pub opened : desk.is_open ≡ true
  pub number : ℕ
  pub early : number + 1 < slots_of desk.key.kind
  pub free : count_at desk number ≡ Free
