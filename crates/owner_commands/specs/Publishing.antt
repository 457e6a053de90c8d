-- The output of `publish`.
use Rattle.std.specs.Prelude.{◌≡◌, ℕ, ◌+◌, ◌<◌, List, []}
use Rattle.std.specs.declared.option.Option.{Option}
use Rattle.std.specs.declared.result.Result.TheVariants.{Ok, Err}
use Rattle.std.specs.Option.{ForSome}
use Rattle.road_map.specs.declared.parts.Parts.{Parts}
use Rattle.book_model.specs.declared.settings.Settings.{Settings}
use Rattle.lms_tree.specs.Signatures.{KeyOf, public_key, sealed, verified}
use Rattle.desk_areas.specs.Layout.{IsCurrent, slots_of, slots_at, base_of, gate_of}
use Rattle.proof_octets.specs.declared.header.Header.{Header}
use Rattle.proof_octets.specs.declared.publication.Publication.{Publication}
use Rattle.proof_octets.specs.Headers.{header_text}
use Rattle.proof_octets.specs.Publications.{publication, publication_text}
use Rattle.route_owner.specs.Published.{slot_of, slot_in}
use Rattle.road_io.specs.Contents.{Folder}
use Rattle.command_files.specs.Reading.{parts_at}
use Rattle.command_files.specs.Endings.{Ending, EndsReading}
use Rattle.command_desks.specs.Opening.{EndsOpening, IsKeyOn}
use Rattle.command_books.specs.Installing.{EndsBuilding}
use Rattle.command_files.specs.declared.fault.Fault.{Fault}
use Rattle.command_files.specs.declared.fault.Fault.TheVariants.{KeysUsedUp, MirrorLost}
use Rattle.command_files.specs.declared.ended.Conclusion.TheVariants.{Done}

-- all one-time keys of the last open area have been used, except the last, which signs the next key
pub record AllSpent (image : List ℕ) : Type 0 where
  pub area : ℕ
  pub current : IsCurrent image area
  pub spent : (number : ℕ) → number + 1 < slots_at image (base_of image area) →
      0 < gate_of image (record { area = area; number = number })

-- The signature is the key's, by the first unused one-time key, which is not the last. It is the one that this key
-- makes of the header, so nobody can choose any octet of it: an image, a map and settings determine one
-- publication.
pub record IsSignedFrom (image : List ℕ) (h : Header) (p : Publication) : Type 0 where
  pub key : KeyOf
  pub on_disk : IsKeyOn image key
  pub good : verified (public_key key) (header_text h) p.signature ≡ Ok tt
  pub exact : p.signature ≡ sealed key (slot_of p) (header_text h)
  pub slot : slot_of p + 1 < slots_of key.kind
  pub unused : gate_of image (slot_in on_disk.area p) ≡ 0
  pub lowest : (number : ℕ) → number < slot_of p →
      0 < gate_of image (record { area = on_disk.area; number = number })

-- the publication of parts and settings with this header
pub record IsPublicationOf (content : Option (List ℕ)) (parts : Parts) (s : Settings) (h : Header)
    (p : Publication) : Type 0 where
  pub of_parts : p.parts ≡ parts
  pub of_settings : p.settings ≡ s
  pub of_header : p.header ≡ h
  pub signed : ForSome content (λ c. IsSignedFrom c h p)
  pub fits : publication.Fits p

-- a header is signed and the publication written, unless all one-time keys have been used
abbrev pub EndsSigning : Option (List ℕ) → Parts → Settings → Header → Ending
EndsSigning content parts s h (Ok Done) text = (p : Publication) ×
    IsPublicationOf content parts s h p × (text ≡ publication_text p)
EndsSigning content parts s h (Err KeysUsedUp) text = ForSome content AllSpent × (text ≡ [])
EndsSigning content parts s h outcome text = ⊥

-- `publish` over the parts of a file; it opens the desk first
abbrev pub EndsPublish : Option (List ℕ) → Settings → Parts → Ending
EndsPublish content s parts = EndsOpening content
    (EndsBuilding parts s (EndsSigning content parts s))

-- the same over the road file with this name
abbrev pub ends_publish : Option (List ℕ) → List ℕ → Settings → Folder → Ending
ends_publish content roads s folder = EndsReading (parts_at folder roads) (EndsPublish content s)

-- if a mirror was lost, the sink has taken the whole text
abbrev pub TellsLost : Fault → Type 0
TellsLost MirrorLost = Unit {0}
TellsLost fault = ⊥
