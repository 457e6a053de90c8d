-- The order of findings, and the meaning of each.
use Rattle.std.specs.Prelude.{◌≡◌, ◌≢◌, ℕ, List, Result, Ok, Err, true, false}
use Rattle.lms_tree.specs.declared.links.Link.{Link}
use Rattle.road_io.specs.declared.disk.Disk.{Ghosts}
use Rattle.road_io.specs.Causes.{Rose}
use Rattle.key_desk.specs.declared.desk.Desk.{Desk as TheDesk}
use Rattle.key_desk.specs.declared.desk.DeskError.TheVariants as desk_errors
use Rattle.desk_look.specs.Forgeries.{AreSigned, Forges, forgery}
use Rattle.desk_look.specs.Left.{IsLeft}
use Rattle.desk_look.specs.Looks.{Look, look_at}
use Rattle.desk_look.specs.declared.forgery.Forgery.{Forgery}
use Rattle.proof_octets.specs.declared.header.Header.{Header}
use Rattle.proof_octets.specs.declared.publication.Publication.{Publication}
use Rattle.proof_octets.specs.Headers.{header_text}
use Rattle.route_server.specs.Headers.{HasHeader}
use Rattle.route_server.specs.Installing.{Installs}
use Rattle.route_server.specs.declared.errors.InstallError.TheVariants as installs
use Rattle.route_audit.specs.Evidence.{two_texts}
use Rattle.route_audit.specs.Kinds.{ReplyKind}
use Rattle.route_audit.specs.declared.errors.AuditError.{AuditError}
use Rattle.route_audit.specs.declared.errors.AuditError.TheVariants.{OtherKey, Refused, Install, Desk, OtherPublication, Memory}
use Rattle.route_audit.specs.declared.finding.Finding.{Finding}
use Rattle.route_audit.specs.declared.finding.Finding.TheVariants.{Right, Collision, Forged}
use Rattle.octet_text.specs.Want.{no_memory}

-- the subject of an audit: octets as a reply to a query, under a public key and a chain of links from it, compared
-- with a publication
pub record Audited (Query : Type 0) : Type 0 where
  pub public : List ℕ
  pub chain : List Link
  pub reply : List ℕ
  pub query : Query
  pub publication : Publication

-- ---- the steps

-- the key belongs to the owner, and the client accepts the reply under it and the chain
pub record IsAccepted {Q A X E : Type 0} (kind : ReplyKind Q A X E) (hash : List ℕ → List ℕ)
    (look : Look) (u : Audited Q) : Type 0 where
  pub own : look.Owns u.public
  pub taken : X
  pub answer : A
  pub accepts : kind.Accepts hash u.public u.chain u.reply u.query 0 taken answer

-- the reply is accepted, and the publication has the header of its parts and settings
pub record IsInstalled {Q A X E : Type 0} (kind : ReplyKind Q A X E) (hash sha : List ℕ → List ℕ)
    (look : Look) (u : Audited Q) : Type 0 where
  pub reply : IsAccepted kind hash look u
  pub header : HasHeader hash sha u.publication.parts u.publication.settings u.publication.header

-- also, the links and the header of the accepted answer were signed, and the header is the publication's
pub record IsPublished {Q A X E : Type 0} (kind : ReplyKind Q A X E) (hash sha : List ℕ → List ℕ)
    (look : Look) (u : Audited Q) : Type 0 where
  pub installed : IsInstalled kind hash sha look u
  pub signed : AreSigned look u.chain (header_text (kind.header installed.reply.answer))
  pub same : kind.header installed.reply.answer ≡ u.publication.header

-- ---- the findings

-- a link text or a header is not signed, but has a signature that verifies
pub record IsForged {Q A X E : Type 0} (kind : ReplyKind Q A X E) (hash sha : List ℕ → List ℕ)
    (look : Look) (u : Audited Q) (f : Forgery) : Type 0 where
  pub installed : IsInstalled kind hash sha look u
  pub forges : Forges look u.public u.chain (header_text (kind.header installed.reply.answer))
      (kind.signature installed.reply.answer) f

-- the header and the links are signed, but the header is not the publication's
pub record IsOther {Q A X E : Type 0} (kind : ReplyKind Q A X E) (hash sha : List ℕ → List ℕ)
    (look : Look) (u : Audited Q) : Type 0 where
  pub installed : IsInstalled kind hash sha look u
  pub signed : AreSigned look u.chain (header_text (kind.header installed.reply.answer))
  pub other : kind.header installed.reply.answer ≢ u.publication.header

-- The result of an audit: the first case that holds. Each case requires that the earlier steps passed. Memory may
-- run out at any time after the first step, so a key that does not belong to the owner has only one result.
abbrev pub Finds : {Q A X E : Type 0} → ReplyKind Q A X E → (List ℕ → List ℕ) →
    (List ℕ → List ℕ) → Look → Audited Q → Result Finding (AuditError E) → Type 0
Finds kind hash sha look u (Err OtherKey) = ¬ look.Owns u.public
Finds kind hash sha look u (Err (Refused e)) = look.Owns u.public ×
    kind.Refuses hash u.public u.chain u.reply u.query e
Finds kind hash sha look u (Err (Install e)) = IsAccepted kind hash look u ×
    Installs hash sha u.publication (Err e) × (e ≢ installs.Memory no_memory)
Finds kind hash sha look u (Err (Desk e)) = IsInstalled kind hash sha look u × look.Fails e
Finds kind hash sha look u (Ok (Forged key text signature)) =
    IsForged kind hash sha look u (forgery key text signature)
Finds kind hash sha look u (Err OtherPublication) = IsOther kind hash sha look u
Finds kind hash sha look u (Ok (Collision left right)) = (p : IsPublished kind hash sha look u) ×
    kind.Collides hash sha u.publication p.installed.reply.answer (two_texts left right)
Finds kind hash sha look u (Ok Right) = (p : IsPublished kind hash sha look u) ×
    kind.IsRight hash sha u.publication u.query p.installed.reply.taken p.installed.reply.answer
Finds kind hash sha look u (Err (Memory _)) = look.Owns u.public

-- ---- there is always a finding

-- the client accepts these octets under a key of the owner and a chain, with any minimum version, and the
-- publication can be installed, whatever its header
pub record IsAuditable {Q A X E : Type 0} (kind : ReplyKind Q A X E) (hash sha : List ℕ → List ℕ)
    (look : Look) (u : Audited Q) : Type 0 where
  pub own : look.Owns u.public
  pub least : ℕ
  pub taken : X
  pub answer : A
  pub accepts : kind.Accepts hash u.public u.chain u.reply u.query least taken answer
  pub header : HasHeader hash sha u.publication.parts u.publication.settings u.publication.header

-- there is a finding, or the accepted header is not the publication's, unless memory ran out
abbrev pub Comes : {E : Type 0} → Header → Header → Result Finding (AuditError E) → Type 0
Comes accepted published (Ok finding) = Unit {0}
Comes accepted published (Err OtherPublication) = accepted ≢ published
Comes accepted published (Err (Memory _)) = Unit {0}
Comes accepted published (Err e) = ⊥

-- ---- before the slots are examined

-- P holds if the result came before the slots were examined
abbrev pub BeforeLook : {E : Type 0} → Result Finding (AuditError E) → Type 0 → Type 0
BeforeLook (Err OtherKey) P = P
BeforeLook (Err (Refused e)) P = P
BeforeLook (Err (Install e)) P = P
BeforeLook r P = Unit {0}

-- ---- an audit

-- The result of auditing octets by a desk, and its effects. The result is the first case that holds. If the octets
-- can be audited, the desk is open and its disk does not fail, there is a finding. Nothing is touched before the
-- slots are examined. Afterwards the desk and the disk are unchanged, except that a disk error closes the desk. A
-- disk error is always returned, even if memory runs out.
pub record Audits {Q A X E : Type 0} (kind : ReplyKind Q A X E) (hash sha : List ℕ → List ℕ)
    {D : Type 0} (g : Ghosts D) (old_desk : TheDesk) (old : D) (new_desk : TheDesk) (new : D)
    (u : Audited Q) (answer : Result Finding (AuditError E)) : Type 0 where
  pub finds : Finds kind hash sha (look_at g old_desk old new) u answer
  pub comes : (auditable : IsAuditable kind hash sha (look_at g old_desk old new) u)
      → old_desk.is_open ≡ true → ¬ Rose (g.faults old) (g.faults new)
      → Comes (kind.header auditable.answer) u.publication.header answer
  pub untouched : BeforeLook answer ((new_desk ≡ old_desk) × (new ≡ old))
  pub left : IsLeft g old_desk old new_desk new
  pub closes : answer ≡ Err (Desk desk_errors.DiskFault) → new_desk.is_open ≡ false
  pub kept : answer ≢ Err (Desk desk_errors.DiskFault) → g.faults new ≡ g.faults old
