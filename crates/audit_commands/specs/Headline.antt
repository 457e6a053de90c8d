-- The headline: the guarantee for an accepted reply.
use Rattle.std.specs.Prelude.{◌≡◌, ◌≢◌, ◌⊎◌, ℕ, List, ◌∷◌}
use Rattle.std.specs.declared.option.Option.{Option}
use Rattle.std.specs.declared.option.Option.TheVariants.{None, Some}
use Rattle.std.specs.declared.result.Result.{Result}
use Rattle.std.specs.declared.result.Result.TheVariants.{Ok, Err}
use Rattle.std.specs.Io.KnownBytes.{Appends}
use Rattle.sha2.specs.Sha256.{sha256}
use Rattle.octet_text.specs.Collisions.{AreCollision}
use Rattle.road_io.specs.declared.disk.Disk.{Ghosts}
use Rattle.road_io.specs.Causes.{Rose}
use Rattle.road_io.specs.Contents.{Folder}
use Rattle.road_io.specs.Disk.{Stays}
use Rattle.road_io.specs.Moments.{AtEachMoment, still_told}
use Rattle.lms_tree.specs.declared.links.Link.{Link}
use Rattle.desk_areas.specs.Faults.{IsUsable}
use Rattle.desk_look.specs.Forgeries.{AreSigned, Forges}
use Rattle.desk_look.specs.declared.forgery.Forgery.{Forgery}
use Rattle.proof_octets.specs.declared.header.Header.{Header}
use Rattle.proof_octets.specs.declared.publication.Publication.{Publication}
use Rattle.proof_octets.specs.Headers.{header_text}
use Rattle.route_server.specs.Headers.{HasHeader}
use Rattle.route_audit.specs.Evidence.{two_texts}
use Rattle.route_audit.specs.Kinds.{ReplyKind}
use Rattle.road_line.specs.EvidenceLine.{right_line, collision_line, forged_line}
use Rattle.command_files.specs.Endings.{Promises, TellsNone}
use Rattle.command_files.specs.Asking.{AsksFront, if_named}
use Rattle.command_files.specs.Spared.{SparesLibrary, SparesBut}
use Rattle.command_files.specs.Reading.{octets_at, publication_at, chain_at}
use Rattle.command_files.specs.HexFiles.{public_key_at}
use Rattle.command_files.specs.declared.fault.Fault.{Fault}
use Rattle.command_files.specs.declared.fault.Fault.TheVariants.{Library, Sink, Disk, Memory, OtherPublication}
use Rattle.command_files.specs.declared.ended.Conclusion.{Conclusion}
use Rattle.command_files.specs.declared.ended.Conclusion.TheVariants.{Done, Evidence}
use Rattle.audit_commands.specs.Auditing.{ends_audit}
use Rattle.audit_commands.specs.Owners.{IsOwnersKey, look_everywhere}

-- ---- the contents of a reply

-- the octets of the header, and the signature, in the answer that octets encode
pub record IsBrought {Q A X E : Type 0} (kind : ReplyKind Q A X E)
    (octets header signature : List ℕ) : Type 0 where
  pub answer : A
  pub spelled : kind.Spells octets answer
  pub header_is : header ≡ header_text (kind.header answer)
  pub signature_is : signature ≡ kind.signature answer

-- two texts that collide, if the answer that octets encode does not come from the trees of the publication's book:
-- the tree hashes the left text, and the root recomputed from the answer hashes the right one
pub record ClashIn {Q A X E : Type 0} (kind : ReplyKind Q A X E) (publication : Publication)
    (octets left right : List ℕ) : Type 0 where
  pub answer : A
  pub spelled : kind.Spells octets answer
  pub collides : kind.Collides sha256 sha256 publication answer (two_texts left right)

-- Brings gives the header of a reply and its signature, from the reply's octets. The texts of the links and this
-- header are in slots, each in one slot of every image.
pub record AreAllSigned {D : Type 0} (g : Ghosts D) (disk : D)
    (Brings : List ℕ → List ℕ → Type 0) (links : List Link) : Type 0 where
  pub header : List ℕ
  pub signature : List ℕ
  pub brought : Brings header signature
  pub signed : AreSigned (look_everywhere g disk) links header

-- ---- evidence

-- The line of two different texts with the same SHA-256 digest. Both consist of octets, so the line holds them in
-- full. Hashed tells where they are hashed.
pub record IsCollisionLine (Hashed : List ℕ → List ℕ → Type 0) (text : List ℕ) : Type 0 where
  pub left : List ℕ
  pub right : List ℕ
  pub collide : AreCollision sha256 left right
  pub hashed : Hashed left right
  pub line : text ≡ collision_line left right

-- The line of a text that the owner never signed, which is in no slot of any image, and of its signature, which
-- verifies under a key of the owner: the key of an open area of every image. The text is the first link text of the
-- chain that is not signed or, if each is signed, the reply's header.
pub record IsForgedLine {D : Type 0} (g : Ghosts D) (disk : D) (Brings : List ℕ → List ℕ → Type 0)
    (key : List ℕ) (links : List Link) (text : List ℕ) : Type 0 where
  pub header : List ℕ
  pub signature : List ℕ
  pub brought : Brings header signature
  pub forgery : Forgery
  pub forges : Forges (look_everywhere g disk) key links header signature forgery
  pub line : text ≡ forged_line forgery.text forgery.signature

abbrev pub IsEvidence : {D : Type 0} → Ghosts D → D → (List ℕ → List ℕ → Type 0) →
    (List ℕ → List ℕ → Type 0) → List ℕ → List Link → List ℕ → Type 0
IsEvidence g disk Brings Hashed key links text = IsCollisionLine Hashed text ⊎
    IsForgedLine g disk Brings key links text

-- ---- the support of an audit's result, in every image that a crash may leave

abbrev pub RestsOn : {D : Type 0} → Ghosts D → D → (List ℕ → List ℕ → Type 0) →
    (List ℕ → List ℕ → Type 0) → List ℕ → List Link → Result Conclusion Fault → List ℕ → Type 0
RestsOn g disk Brings Hashed key links (Ok Done) text = AreAllSigned g disk Brings links
RestsOn g disk Brings Hashed key links (Ok Evidence) text = IsEvidence g disk Brings Hashed key
    links text
RestsOn g disk Brings Hashed key links (Err OtherPublication) text = AreAllSigned g disk Brings
    links
RestsOn g disk Brings Hashed key links outcome text = Unit {0}

-- the files of a key, a publication, a reply and a chain, the octets written, and the support of the result
pub record WritesFinding {D : Type 0} (g : Ghosts D) (disk : D)
    (Brings : List ℕ → List ℕ → List ℕ → Type 0)
    (Hashed : Publication → List ℕ → List ℕ → List ℕ → Type 0) (folder : Folder)
    (key_name publication_name reply_name : List ℕ) (chain_name old new : Option (List ℕ))
    (outcome : Result Conclusion Fault) : Type 0 where
  pub key : List ℕ
  pub publication : Publication
  pub octets : List ℕ
  pub links : List Link
  pub text : List ℕ
  pub key_read : public_key_at folder key_name ≡ Ok key
  pub publication_read : publication_at folder publication_name ≡ Ok publication
  pub reply_read : octets_at folder reply_name ≡ Ok octets
  pub chain_read : chain_at folder chain_name ≡ Ok links
  pub written : Appends old new text
  pub rests : RestsOn g disk (Brings octets) (Hashed publication octets) key links outcome text

abbrev pub WritesFindings : {D : Type 0} → Ghosts D → D → (List ℕ → List ℕ → List ℕ → Type 0) →
    (Publication → List ℕ → List ℕ → List ℕ → Type 0) → List ℕ → List ℕ → List ℕ →
    Option (List ℕ) → Option Folder → Option (List ℕ) → Option (List ℕ) →
    Result Conclusion Fault → Type 0
WritesFindings g disk Brings Hashed key publication reply chain (Some folder) old new
    (Ok verdict) = WritesFinding g disk Brings Hashed folder key publication reply chain old new
    (Ok verdict)
WritesFindings g disk Brings Hashed key publication reply chain (Some folder) old new
    (Err OtherPublication) = WritesFinding g disk Brings Hashed folder key publication reply chain
    old new (Err OtherPublication)
WritesFindings g disk Brings Hashed key publication reply chain files old new outcome = Unit {0}

-- ---- the headline

-- the result is true of the signed map: the accepted header is that of the map, and is in one slot of every image
pub record IsTrue {Q A X E : Type 0} (kind : ReplyKind Q A X E) {D : Type 0} (g : Ghosts D) (disk : D)
    (p : Publication) (q : Q) (x : X) : Type 0 where
  pub of_map : HasHeader sha256 sha256 p.parts p.settings p.header
  pub same : kind.taken_header x ≡ p.header
  pub signed : (look_everywhere g disk).Signed (header_text p.header)
  pub truth : kind.IsTrue p q x

-- the accepted header belongs to another publication, and is in one slot of every image
pub record IsOthers {D : Type 0} (g : Ghosts D) (disk : D) (p : Publication)
    (accepted : Header) : Type 0 where
  pub other : accepted ≢ p.header
  pub signed : (look_everywhere g disk).Signed (header_text accepted)

-- the octets of the accepted header, and its signature in the reply
abbrev pub IsAcceptedHeader : Header → (List ℕ → List ℕ → Type 0) → List ℕ → List ℕ → Type 0
IsAcceptedHeader accepted Brings header signature = (header ≡ header_text accepted) ×
    Brings header signature

-- The accepted result is true; or there is evidence; or its header belongs to another publication; or memory ran
-- out; or an outside object failed. The evidence of a forged line is a link of the chain, or the accepted header
-- with the reply's own signature.
abbrev pub FindsTruth : {D : Type 0} → Ghosts D → D → (List ℕ → List ℕ → Type 0) →
    (List ℕ → List ℕ → Type 0) → List ℕ → List Link → Publication → Header → Type 0 →
    Option (List ℕ) → Option (List ℕ) → Result Conclusion Fault → Type 0
FindsTruth g disk Brings Hashed key links p accepted Truth old new (Ok Done) = Truth ×
    Appends old new right_line
FindsTruth g disk Brings Hashed key links p accepted Truth old new (Ok Evidence) = (text : List ℕ) ×
    IsEvidence g disk (IsAcceptedHeader accepted Brings) Hashed key links text ×
    Appends old new text
FindsTruth g disk Brings Hashed key links p accepted Truth old new
    (Err OtherPublication) = IsOthers g disk p accepted
FindsTruth g disk Brings Hashed key links p accepted Truth old new (Err (Memory _)) = Unit {0}
FindsTruth g disk Brings Hashed key links p accepted Truth old new (Err Library) = Unit {0}
FindsTruth g disk Brings Hashed key links p accepted Truth old new (Err Sink) = Unit {0}
FindsTruth g disk Brings Hashed key links p accepted Truth old new (Err Disk) = Unit {0}
FindsTruth g disk Brings Hashed key links p accepted Truth old new outcome = ⊥

-- The files encode a public key, a chain of links, a publication that can be installed (its header is that of its
-- parts and settings), and any octets that the client accepts under the key and the chain. The key is on the
-- owner's disk, and all keys of this disk can be used.
pub record IsAcceptedFile {Q A X E : Type 0} (kind : ReplyKind Q A X E)
    (content : Option (List ℕ)) (folder : Folder)
    (key_name publication_name reply_name : List ℕ) (q : Q) (chain_name : Option (List ℕ))
    (key : List ℕ) (links : List Link) (p : Publication) (x : X) : Type 0 where
  pub octets : List ℕ
  pub least : ℕ
  pub answer : A
  pub key_read : public_key_at folder key_name ≡ Ok key
  pub publication_read : publication_at folder publication_name ≡ Ok p
  pub reply_read : octets_at folder reply_name ≡ Ok octets
  pub chain_read : chain_at folder chain_name ≡ Ok links
  pub accepts : kind.Accepts sha256 key links octets q least x answer
  pub header : HasHeader sha256 sha256 p.parts p.settings p.header
  pub image : List ℕ
  pub told : content ≡ Some image
  pub usable : IsUsable image
  pub owners : IsOwnersKey image key

-- for all octets that the client accepts, the audit finds that they are true or belong to another publication, or
-- it writes evidence
abbrev pub AuditsAccepted : {Q A X E : Type 0} → ReplyKind Q A X E → {D : Type 0} → Ghosts D →
    Option (List ℕ) → D → List ℕ → List ℕ → List ℕ → Q → Option (List ℕ) → Option Folder →
    Option (List ℕ) → Option (List ℕ) → Result Conclusion Fault → Type 0
AuditsAccepted {Q} {A} {X} {E} kind g content disk key publication reply q chain (Some folder) old
    new outcome = (k : List ℕ) (links : List Link) (p : Publication) (x : X) →
    (file : IsAcceptedFile kind content folder key publication reply q chain k links p x)
    → FindsTruth g disk (IsBrought kind file.octets) (ClashIn kind p file.octets) k links p
    (kind.taken_header x)
    (IsTrue kind g disk p q x) old new outcome
AuditsAccepted kind g content disk key publication reply q chain None old new outcome = Unit {0}

-- ---- the command

-- The guarantees of the command over its files, its sink and the owner's disk: its result is one that these
-- require; the line has its support; the headline holds; no image of the disk changes; a disk error is always
-- returned; it loads a prefix of its names; and no other result hides a failure of the library or the sink.
pub record AuditsFiles {Q A X E : Type 0} (kind : ReplyKind Q A X E) (line : E → List ℕ) {D : Type 0}
    (g : Ghosts D) (disk new_disk : D) (key publication reply : List ℕ) (q : Q)
    (chain : Option (List ℕ)) (files : Option Folder) (asked new_asked : List (List ℕ))
    (loads new_loads : ℕ) (taken new_taken : Option (List ℕ)) (writes new_writes : ℕ)
    (outcome : Result Conclusion Fault) : Type 0 where
  pub promised : Promises (ends_audit kind line (still_told g disk new_disk) key publication reply q chain)
      TellsNone (Rose (g.faults disk) (g.faults new_disk)) files loads new_loads taken new_taken
      writes new_writes outcome
  pub finds : WritesFindings g new_disk (IsBrought kind) (ClashIn kind) key publication reply
      chain files taken new_taken outcome
  pub headline : AuditsAccepted kind g (still_told g disk new_disk) new_disk key publication reply q chain files
      taken new_taken outcome
  pub stays : AtEachMoment g disk new_disk Stays
  pub unfaulted : outcome ≢ Err Disk → g.faults new_disk ≡ g.faults disk
  pub library : SparesLibrary outcome loads new_loads
  pub asks : AsksFront (key ∷ publication ∷ reply ∷ if_named chain) asked new_asked
  pub sink : SparesBut Sink outcome writes new_writes
