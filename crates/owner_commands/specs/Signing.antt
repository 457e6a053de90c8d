-- The effect of `publish` on the owner's disk.
use Rattle.std.specs.Prelude.{◌≡◌, ◌⊎◌, ℕ, ◌+◌, ◌<◌, List, length, IfSome}
use Rattle.std.specs.declared.option.Option.{Option}
use Rattle.std.specs.declared.result.Result.{Result}
use Rattle.std.specs.declared.result.Result.TheVariants.{Ok, Err}
use Rattle.std.specs.Option.{ForSome}
use Rattle.std.specs.Io.KnownBytes.{Appends}
use Rattle.sha2.specs.Sha256.{sha256}
use Rattle.road_map.specs.declared.parts.Parts.{Parts}
use Rattle.book_model.specs.declared.settings.Settings.{Settings}
use Rattle.road_io.specs.declared.disk.Disk.{Ghosts}
use Rattle.road_io.specs.Disk.{Stays}
use Rattle.road_io.specs.Moments.{EachImage, AtEachMoment, still_told}
use Rattle.road_io.specs.Contents.{Folder, AppendsFront}
use Rattle.lms_tree.specs.Signatures.{KeyOf, sealed}
use Rattle.mirror_out.specs.Mirrors.{Mirrors}
use Rattle.publication_out.specs.Sent.{pieces_in, MirrorsFront}
use Rattle.desk_areas.specs.Layout.{IsCurrent, slots_at, base_of, gate_of, IsSigned}
use Rattle.key_desk.specs.Stands.{key_in}
use Rattle.proof_octets.specs.declared.header.Header.{Header}
use Rattle.proof_octets.specs.declared.publication.Publication.{Publication}
use Rattle.proof_octets.specs.Headers.{header_text}
use Rattle.proof_octets.specs.Publications.{publication_text}
use Rattle.route_server.specs.Headers.{HasHeader}
use Rattle.route_owner.specs.Published.{slot_of, slot_in, SignsLowestHeader}
use Rattle.command_files.specs.Reading.{parts_at}
use Rattle.desk_areas.specs.Faults.{IsUsable}
use Rattle.owner_commands.specs.Names.{HasDistinctNames}
use Rattle.owner_commands.specs.Publishing.{IsPublicationOf}
use Rattle.command_files.specs.declared.fault.Fault.{Fault}
use Rattle.command_files.specs.declared.fault.Fault.TheVariants.{Sink, Disk, MirrorLost}
use Rattle.command_files.specs.declared.ended.Conclusion.{Conclusion}

-- ---- one signing

-- A publication's header is in every image, in the slot of the last open area that its signature names. That slot
-- was not spent in the disk's contents, and is not the area's last one. The signature is the one that the area's
-- key makes. No two open areas have keys with the same identifier.
pub record StandsOnDisk {D : Type 0} (g : Ghosts D) (old new : D) (p : Publication) : Type 0 where
  pub area : ℕ
  pub key : KeyOf
  pub current : EachImage g new (λ i. IsCurrent i area)
  pub held : EachImage g new (λ i. key_in i area ≡ key)
  pub names : EachImage g new HasDistinctNames
  pub exact : p.signature ≡ sealed key (slot_of p) (header_text p.header)
  pub early : EachImage g new (λ i. slot_of p + 1 < slots_at i (base_of i area))
  pub was_free : ForSome (still_told g old new) (λ c. gate_of c (slot_in area p) ≡ 0)
  pub stands : EachImage g new (λ i. IsSigned i (slot_in area p) (header_text p.header))

-- the publication of parts and settings, whose header is on the disk
pub record IsSealedOnDisk {D : Type 0} (g : Ghosts D) (old new : D) (parts : Parts) (s : Settings)
    (p : Publication) : Type 0 where
  pub header : Header
  pub of_book : HasHeader sha256 sha256 parts s header
  pub usable : ForSome (still_told g old new) IsUsable
  pub is : IsPublicationOf (still_told g old new) parts s header p
  pub on_disk : StandsOnDisk g old new p

-- no image changes, or only its lowest free slot changes, by the header of parts and settings
abbrev pub SignsAtMostHeader : {D : Type 0} → Ghosts D → D → D → Parts → Settings → Type 0
SignsAtMostHeader g old new parts s = AtEachMoment g old new Stays ⊎
    SignsLowestHeader g old new sha256 parts s

-- ---- a run

-- if the work was done, a whole text was written, even if a mirror was lost; if the sink failed, a prefix of it was
-- written; no other result is covered
abbrev pub Wrote : Result Conclusion Fault → Option (List ℕ) → Option (List ℕ) → List ℕ → Type 0
Wrote (Ok verdict) old new text = Appends old new text
Wrote (Err MirrorLost) old new text = Appends old new text
Wrote outcome old new text = AppendsFront old new text

-- P holds if something may have been written
abbrev pub OnWriting : Result Conclusion Fault → Type 0 → Type 0
OnWriting (Ok verdict) P = P
OnWriting (Err Sink) P = P
OnWriting (Err MirrorLost) P = P
OnWriting (Err fault) P = Unit {0}

-- the octets written belong to a publication whose header is on the disk
pub record WroteSealed {D : Type 0} (g : Ghosts D) (old new : D)
    (taken_before taken_now : Option (List ℕ)) (outcome : Result Conclusion Fault) : Type 0 where
  pub publication : Publication
  pub on_disk : StandsOnDisk g old new publication
  pub written : Wrote outcome taken_before taken_now (publication_text publication)

abbrev pub SealsWhatItWrites : {D : Type 0} → Ghosts D → D → D → Option (List ℕ) → Option (List ℕ) →
    Result Conclusion Fault → Type 0
SealsWhatItWrites g old new taken_before taken_now outcome = OnWriting outcome
    (WroteSealed g old new taken_before taken_now outcome)

-- ---- mirrors

-- P holds in every other case
abbrev pub OnNoWriting : Result Conclusion Fault → Type 0 → Type 0
OnNoWriting (Ok verdict) P = Unit {0}
OnNoWriting (Err Sink) P = Unit {0}
OnNoWriting (Err MirrorLost) P = Unit {0}
OnNoWriting (Err fault) P = P

-- M is a mirror; octets, label, handed, puts and room give its contents, its label, the number of pieces it
-- was handed, and its promises
module _ {M : Type 0} (octets : M → Option (List ℕ)) (label handed puts room : M → ℕ) where
  -- The mirrors that remain took the whole text, and each of the others had promised less. All remain if the work
  -- was done, and not all if one is reported as lost. If the sink failed, those that remain took a prefix of the
  -- text that is at most as long as the sink's.
  abbrev pub Mirrored : Result Conclusion Fault → List ℕ → Option (List ℕ) → Option (List ℕ) →
      List M → List M → Type 0
  Mirrored (Ok verdict) text before now old kept = Mirrors octets label handed puts room
      (pieces_in text) text old kept × (length kept ≡ length old)
  Mirrored (Err MirrorLost) text before now old kept = Mirrors octets label handed puts room
      (pieces_in text) text old kept × (length kept < length old)
  Mirrored outcome text before now old kept = MirrorsFront octets label handed puts room text before now
      old kept

  -- the octets that the sink and the mirrors took belong to one publication, whose header is on the disk
  pub record SpreadSealed {D : Type 0} (g : Ghosts D) (before now : D)
      (taken_before taken_now : Option (List ℕ)) (old kept : List M)
      (outcome : Result Conclusion Fault) : Type 0 where
    pub publication : Publication
    pub on_disk : StandsOnDisk g before now publication
    pub written : Wrote outcome taken_before taken_now (publication_text publication)
    pub mirrored : Mirrored outcome (publication_text publication) taken_before taken_now old kept

  -- the same if something may have been written; else the mirrors are unchanged
  pub record SealsWhatItMirrors {D : Type 0} (g : Ghosts D) (before now : D)
      (taken_before taken_now : Option (List ℕ)) (old kept : List M)
      (outcome : Result Conclusion Fault) : Type 0 where
    pub sealed : OnWriting outcome
        (SpreadSealed g before now taken_before taken_now old kept outcome)
    pub still : OnNoWriting outcome (kept ≡ old)

-- no image changes, or only its lowest free slot changes, by the header of the file's parts and the settings
pub record SignsFile {D : Type 0} (g : Ghosts D) (old new : D) (files : Option Folder)
    (roads : List ℕ) (s : Settings) : Type 0 where
  pub parts : Parts
  pub of_file : IfSome files (λ folder. parts_at folder roads ≡ Ok parts)
  pub one : SignsLowestHeader g old new sha256 parts s

abbrev pub SignsAtMostOne : {D : Type 0} → Ghosts D → D → D → Option Folder → List ℕ → Settings →
    Type 0
SignsAtMostOne g old new files roads s = AtEachMoment g old new Stays ⊎
    SignsFile g old new files roads s

-- ---- a refusal

-- If an owner's command was refused before its work began, the disk is unchanged: no image changes at any moment.
-- The reasons are that a file is missing or has a fault, that the desk does not open or already holds a key, that
-- no key can follow, that the settings have no book, that all one-time keys have been used, or that memory ran out.
-- This does not cover a sink or a disk that failed, or a mirror that was lost.
abbrev pub StaysRefused : {D : Type 0} → Ghosts D → D → D → Fault → Type 0
StaysRefused g old new Sink = Unit {0}
StaysRefused g old new Disk = Unit {0}
StaysRefused g old new MirrorLost = Unit {0}
StaysRefused g old new fault = AtEachMoment g old new Stays
