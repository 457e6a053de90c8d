-- The definitions of the headline, evaluated for some results. A weakened definition fails here.
use Rattle.std.proofs.Common.{◌≡◌, ◌≢◌, ◌<◌, ◌≤◌, ℕ, List, length, arith}
use Rattle.std.specs.Prelude.{slice_index}
use Rattle.std.specs.declared.option.Option.{Option}
use Rattle.std.specs.declared.result.Result.TheVariants.{Ok, Err}
use Rattle.std.specs.Io.KnownBytes.{Appends}
use Rattle.sha2.specs.Sha256.{sha256}
use Rattle.road_io.specs.declared.disk.Disk.{Ghosts}
use Rattle.road_io.specs.Moments.{EachImage}
use Rattle.lms_tree.specs.Signatures.{verified}
use Rattle.lms_tree.specs.declared.links.Link.{Link}
use Rattle.desk_areas.specs.Layout.{SlotId, IsSigned}
use Rattle.desk_look.specs.Forgeries.{text_at}
use Rattle.proof_octets.specs.declared.header.Header.{Header}
use Rattle.proof_octets.specs.declared.publication.Publication.{Publication}
use Rattle.proof_octets.specs.Headers.{header_text}
use Rattle.road_line.specs.EvidenceLine.{right_line, forged_line}
use Rattle.command_files.specs.declared.fault.Fault.TheVariants.{Missing, OtherKey, OtherPublication}
use Rattle.command_files.specs.declared.ended.Conclusion.TheVariants.{Done, Refused, Evidence}
use Rattle.audit_commands.specs.Headline.{IsCollisionLine, IsForgedLine, IsEvidence, IsAcceptedHeader, RestsOn, IsTrue, FindsTruth}
use Rattle.audit_commands.specs.Owners.{IsOwnersKey}
use Rattle.route_audit.specs.Kinds.{ReplyKind}

-- ---- evidence

-- two equal texts are not a collision
one_text_is_no_collision : (Hashed : List ℕ → List ℕ → Type 0) (text : List ℕ) (c : IsCollisionLine Hashed text) → c.left ≡ c.right → ⊥
one_text_is_no_collision Hashed text c same = c.collide.differ same

one_digest : (Hashed : List ℕ → List ℕ → Type 0) (text : List ℕ) (c : IsCollisionLine Hashed text) → sha256 c.left ≡ sha256 c.right
one_digest Hashed text c = c.collide.one_digest

-- nor is a list a text of octets if it has a number that is not an octet
numbers_are_no_collision : (Hashed : List ℕ → List ℕ → Type 0) (text : List ℕ) (c : IsCollisionLine Hashed text) (at : ℕ) → 256 ≤ slice_index c.left at → ⊥
numbers_are_no_collision Hashed text c at great = let small : slice_index c.left at < 256 = c.collide.left_octets at in omega (arith, great, small)

module _ {D : Type 0} (g : Ghosts D) (disk : D) (Brings : List ℕ → List ℕ → Type 0) (key : List ℕ) (links : List Link) (text : List ℕ) (f : IsForgedLine g disk Brings key links text) where
  -- a text that is signed in a slot of an image is not forged
  signed_is_not_forged : (i : List ℕ) → g.image_at disk (g.clock disk) i → (slot : SlotId) → IsSigned i slot f.forgery.text → ⊥
  signed_is_not_forged i now slot signed = f.forges.forgery.unsigned i now slot signed

  -- its signature is valid under the key of an open area of every image
  good : verified f.forgery.key f.forgery.text f.forgery.signature ≡ Ok tt
  good = f.forges.forgery.good

  owners : EachImage g disk (λ i. IsOwnersKey i f.forgery.key)
  owners = f.forges.forgery.own

  -- the line has this text and this signature
  line : text ≡ forged_line f.forgery.text f.forgery.signature
  line = f.line

-- the header of the evidence is the accepted one, as the reply gives it
accepted_header : (accepted : Header) (Brings : List ℕ → List ℕ → Type 0) (header signature : List ℕ) → IsAcceptedHeader accepted Brings header signature → (header ≡ header_text accepted) × Brings header signature
accepted_header accepted Brings header signature h = h

-- ---- the support of an end

module _ {D : Type 0} (g : Ghosts D) (disk : D) (Brings Hashed : List ℕ → List ℕ → Type 0) (key : List ℕ) (links : List Link) (text : List ℕ) where
  -- the links and the header of a right reply are in slots, each in one slot of every image
  right_is_signed : (r : RestsOn g disk Brings Hashed key links (Ok Done) text) → (slot : SlotId) × EachImage g disk (λ i. IsSigned i slot r.header)
  right_is_signed r = r.signed.sealed

  right_is_linked : RestsOn g disk Brings Hashed key links (Ok Done) text → (number : ℕ) → number < length links → (slot : SlotId) × EachImage g disk (λ i. IsSigned i slot (text_at links number))
  right_is_linked r = r.signed.linked

  others_are_signed : (r : RestsOn g disk Brings Hashed key links (Err OtherPublication) text) → (slot : SlotId) × EachImage g disk (λ i. IsSigned i slot r.header)
  others_are_signed r = r.signed.sealed

  evidence_is_told : RestsOn g disk Brings Hashed key links (Ok Evidence) text → IsEvidence g disk Brings Hashed key links text
  evidence_is_told r = r

-- ---- the headline

module _ {D : Type 0} (g : Ghosts D) (disk : D) (Brings Hashed : List ℕ → List ℕ → Type 0) (key : List ℕ) (links : List Link) (p : Publication) (accepted : Header) (Truth : Type 0) (old new : Option (List ℕ)) where
  done_is_true : FindsTruth g disk Brings Hashed key links p accepted Truth old new (Ok Done) → Truth × Appends old new right_line
  done_is_true h = h

  other_is_other : FindsTruth g disk Brings Hashed key links p accepted Truth old new (Err OtherPublication) → accepted ≢ p.header
  other_is_other h = h.other

  other_is_signed : FindsTruth g disk Brings Hashed key links p accepted Truth old new (Err OtherPublication) → (slot : SlotId) × EachImage g disk (λ i. IsSigned i slot (header_text accepted))
  other_is_signed h = h.signed

  -- an accepted reply is not refused, its key belongs to the owner, and no file is missing
  never_refused : FindsTruth g disk Brings Hashed key links p accepted Truth old new (Ok Refused) → ⊥
  never_refused h = h

  never_another_key : FindsTruth g disk Brings Hashed key links p accepted Truth old new (Err OtherKey) → ⊥
  never_another_key h = h

  never_missing : FindsTruth g disk Brings Hashed key links p accepted Truth old new (Err Missing) → ⊥
  never_missing h = h

-- a true result is true of the map, has the accepted header, and this header is signed
module _ {Q A X E : Type 0} (kind : ReplyKind Q A X E) {D : Type 0} (g : Ghosts D) (disk : D) (p : Publication) (q : Q) (x : X) (t : IsTrue kind g disk p q x) where
  holds : kind.IsTrue p q x
  holds = t.truth

  same_header : kind.taken_header x ≡ p.header
  same_header = t.same

  signed : (slot : SlotId) × EachImage g disk (λ i. IsSigned i slot (header_text p.header))
  signed = t.signed
