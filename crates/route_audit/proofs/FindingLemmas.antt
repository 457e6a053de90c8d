-- The results of the steps of an audit.
use Rattle.std.proofs.Common.{◌≡◌, ◌≢◌, ℕ, List, Result, Ok, Err, false, refl, ap, subst, ◌∙◌}
use Rattle.road_map.specs.declared.parts.Parts.{Parts}
use Rattle.book_model.specs.declared.settings.Settings.{Settings}
use Rattle.lms_tree.specs.declared.links.Link.{Link}
use Rattle.key_desk.specs.declared.desk.DeskError.{DeskError}
use Rattle.key_desk.specs.declared.desk.DeskError.TheVariants as desk_errors
use Rattle.road_io.specs.declared.disk.Disk.{Ghosts}
use Rattle.key_desk.specs.declared.desk.Desk.{Desk as TheDesk}
use Rattle.key_desk.specs.Desk.{Fits}
use Rattle.desk_look.specs.Left.{IsLeft}
use Rattle.desk_look.specs.Looks.{Look, look_at}
use Rattle.desk_look.proofs.LeftLemmas.{left_alone, works}
use Rattle.proof_octets.specs.declared.header.Header.{Header}
use Rattle.proof_octets.specs.declared.publication.Publication.{Publication}
use Rattle.route_server.specs.declared.errors.BuildError.{BuildError}
use Rattle.route_server.specs.declared.errors.BuildError.TheVariants as build
use Rattle.route_server.specs.declared.errors.InstallError.{InstallError}
use Rattle.route_server.specs.declared.errors.InstallError.TheVariants as install
use Rattle.route_server.specs.Headers.{HasHeader, Makes}
use Rattle.route_server.specs.Installing.{Installs}
use Rattle.route_server.specs.Keeping.{Kept, IsKept, publication_in}
use Rattle.route_server.proofs.KeepLemmas.{has_header}
use Rattle.sha2.specs.Sha256.{sha256}
use Rattle.route_audit.specs.Kinds.{AreReplies, ReplyKind}
use Rattle.route_audit.specs.Steps.{FindsIn, IsAnswerTo, IsRefused, IsNotInstalled}
use Rattle.route_audit.specs.Findings.{Audited, Audits, IsAccepted, IsInstalled, IsAuditable, Finds, Comes, BeforeLook}
use Rattle.route_audit.specs.declared.errors.AuditError.{AuditError}
use Rattle.route_audit.specs.declared.errors.AuditError.TheVariants.{OtherKey, Refused, Install, Desk, OtherPublication, Memory}
use Rattle.route_audit.specs.declared.finding.Finding.{Finding}
use Rattle.route_audit.specs.declared.finding.Finding.TheVariants.{Right, Collision, Forged}
use Rattle.octet_text.specs.Want.{no_memory}

-- octets audited under a key and a chain
abbrev pub at : {Q : Type 0} → List ℕ → List Link → List ℕ → Q → Publication → Audited Q
at public chain reply q p = record { public = public; chain = chain; reply = reply; query = q; publication = p }

module _ {Q A X E : Type 0} (kind : ReplyKind Q A X E) (hash : List ℕ → List ℕ) (look : Look) (public : List ℕ) (chain : List Link) (reply : List ℕ) (q : Q) (own : look.Owns public) where
  -- ---- results before the slots are examined

  pub refused_finds : (sha : List ℕ → List ℕ) (p : Publication) (e : AuditError E) → IsRefused kind hash public chain reply q e → Finds kind hash sha look (at public chain reply q p) (Err e)
  refused_finds sha p (Refused e) is = (own, is)
  refused_finds sha p (Memory _) is = own
  refused_finds sha p OtherKey is = absurd is
  refused_finds sha p (Install e) is = absurd is
  refused_finds sha p (Desk e) is = absurd is
  refused_finds sha p OtherPublication is = absurd is

  abbrev accepted_at : (p : Publication) (a : A) → IsAnswerTo kind hash public chain reply q a → IsAccepted kind hash look (at public chain reply q p)
  accepted_at p a answer = record { own = own; taken = answer.0; answer = a; accepts = answer.1 }

  pub not_installed_finds : (sha : List ℕ → List ℕ) (p : Publication) (a : A) (e : AuditError E) → IsAnswerTo kind hash public chain reply q a → IsNotInstalled hash sha p e → Finds kind hash sha look (at public chain reply q p) (Err e)
  not_installed_finds sha p a (Install e) answer is = (accepted_at p a answer, is.0, is.1)
  not_installed_finds sha p a (Memory _) answer is = own
  not_installed_finds sha p a OtherKey answer is = absurd is
  not_installed_finds sha p a (Refused e) answer is = absurd is
  not_installed_finds sha p a (Desk e) answer is = absurd is
  not_installed_finds sha p a OtherPublication answer is = absurd is

  -- ---- results after the slots are examined

  module _ (a : A) (answer : IsAnswerTo kind hash public chain reply q a) (k : Kept) (kept : IsKept k) where
    abbrev installed_at : IsInstalled kind hash sha256 look (at public chain reply q (publication_in hash k))
    installed_at = record { reply = accepted_at (publication_in hash k) a answer; header = has_header hash k kept }

    -- a finding about the accepted answer over the held book is a finding about the octets
    found_at : (r : Result Finding (AuditError E)) → FindsIn kind hash sha256 look public chain k q a r → Finds kind hash sha256 look (at public chain reply q (publication_in hash k)) r
    found_at (Err (Desk e)) found = (installed_at, found)
    found_at (Err OtherPublication) found = record { installed = installed_at; signed = found.0; other = found.1 }
    found_at (Err (Memory _)) found = own
    found_at (Err OtherKey) found = absurd found
    found_at (Err (Refused e)) found = absurd found
    found_at (Err (Install e)) found = absurd found
    found_at (Ok (Forged key text signature)) found = record { installed = installed_at; forges = found }
    found_at (Ok Right) found = (record { installed = installed_at; signed = found.0; same = found.1 }, found.2 public chain reply answer.0 answer.1)
    found_at (Ok (Collision left right)) found = (record { installed = installed_at; signed = found.0; same = found.1 }, found.2)

  pub found_finds : (p : Publication) (a : A) (k : Kept) (r : Result Finding (AuditError E)) → IsAnswerTo kind hash public chain reply q a → Installs hash sha256 p (Ok k) → FindsIn kind hash sha256 look public chain k q a r
      → Finds kind hash sha256 look (at public chain reply q p) r
  found_finds p a k r answer installs found =
      subst (λ (b : Publication). Finds kind hash sha256 look (at public chain reply q b) r) installs.1 (found_at a answer k installs.2 r found)

-- ---- there is always a result

abbrev pub OneMade : (List ℕ → List ℕ) → (List ℕ → List ℕ) → Type 0
OneMade hash sha = (parts : Parts) (s : Settings) (one other : Result Header BuildError) → Makes hash sha parts s one → Makes hash sha parts s other → one ≢ Err (build.Memory no_memory) → other ≢ Err (build.Memory no_memory) → one ≡ other

pub installable : (hash sha : List ℕ → List ℕ) (p : Publication) (e : InstallError) → OneMade hash sha → HasHeader hash sha p.parts p.settings p.header → Installs hash sha p (Err e) → e ≢ install.Memory no_memory → ⊥
installable hash sha p (install.Memory _) one has is other = other refl
installable hash sha p install.HeaderWrong one has is other =
    let same : ◌≡◌ {A = Result Header BuildError} (Ok is.0) (Ok p.header) = one p.parts p.settings (Ok is.0) (Ok p.header) is.1 has (λ e. absurd cc) (λ e. absurd cc) in
    is.2 cc
installable hash sha p (install.Build e) one has is other =
    let same : ◌≡◌ {A = Result Header BuildError} (Err e) (Ok p.header) = one p.parts p.settings (Err e) (Ok p.header) is.0 has (λ h. is.1 cc) (λ h. absurd cc) in
    absurd cc

module _ {Q A X E : Type 0} (kind : ReplyKind Q A X E) (laws : AreReplies kind) (hash sha : List ℕ → List ℕ) (look : Look) (u : Audited Q) (made : OneMade hash sha) (works : (e : DeskError) → ¬ look.Fails e) where
  pub comes : (r : Result Finding (AuditError E)) (c : IsAuditable kind hash sha look u) → Finds kind hash sha look u r → Comes (kind.header c.answer) u.publication.header r
  comes (Ok finding) c finds = tt
  comes (Err (Memory _)) c finds = tt
  comes (Err OtherKey) c finds = absurd (finds c.own)
  comes (Err (Refused e)) c finds = absurd (laws.not_refused hash u.public u.chain u.reply u.query c.taken c.answer e (laws.any_least hash u.public u.chain u.reply u.query c.least c.taken c.answer c.accepts) finds.1)
  comes (Err (Install e)) c finds = absurd (installable hash sha u.publication e made c.header finds.1 finds.2)
  comes (Err (Desk e)) c finds = absurd (works e finds.1)
  comes (Err OtherPublication) c finds =
      let it = finds.installed.reply in
      let same : it.answer ≡ c.answer = laws.one_answer u.reply it.answer c.answer
      (laws.spelled hash u.public u.chain u.reply u.query 0 it.taken it.answer it.accepts) (laws.spelled hash u.public u.chain u.reply u.query c.least c.taken c.answer c.accepts) in
      λ e. finds.other (ap (λ (a : A). kind.header a) same ∙ e)

-- a result after the slots are examined is not one before
pub found_late : {Q A X E : Type 0} (kind : ReplyKind Q A X E) (hash sha : List ℕ → List ℕ) (look : Look) (key : List ℕ) (links : List Link) (k : Kept) (q : Q) (a : A) (r : Result Finding (AuditError E)) (P : Type 0)
    → FindsIn kind hash sha look key links k q a r → BeforeLook r P
found_late kind hash sha look key links k q a (Ok Right) P found = tt
found_late kind hash sha look key links k q a (Ok (Collision left right)) P found = tt
found_late kind hash sha look key links k q a (Ok (Forged own text signature)) P found = tt
found_late kind hash sha look key links k q a (Err OtherKey) P found = absurd found
found_late kind hash sha look key links k q a (Err (Refused e)) P found = absurd found
found_late kind hash sha look key links k q a (Err (Install e)) P found = absurd found
found_late kind hash sha look key links k q a (Err (Desk e)) P found = tt
found_late kind hash sha look key links k q a (Err OtherPublication) P found = tt
found_late kind hash sha look key links k q a (Err (Memory _)) P found = tt

abbrev unfound : {E : Type 0} → AuditError E → Result Finding (AuditError E)
unfound e = Err e

-- if a publication was not installed, no disk failed
pub not_installed_desk : {E : Type 0} (hash sha : List ℕ → List ℕ) (p : Publication) (e : AuditError E) → IsNotInstalled hash sha p e → unfound e ≢ Err (Desk desk_errors.DiskFault)
not_installed_desk hash sha p (Install e) is = λ same. cc
not_installed_desk hash sha p (Memory _) is = λ same. cc
not_installed_desk hash sha p OtherKey is = absurd is
not_installed_desk hash sha p (Refused e) is = absurd is
not_installed_desk hash sha p (Desk e) is = absurd is
not_installed_desk hash sha p OtherPublication is = absurd is

-- a fact that always holds also holds before the slots are examined
before_any : {E : Type 0} (r : Result Finding (AuditError E)) (P : Type 0) → P → BeforeLook r P
before_any (Ok finding) P h = tt
before_any (Err OtherKey) P h = h
before_any (Err (Refused e)) P h = h
before_any (Err (Install e)) P h = h
before_any (Err (Desk e)) P h = tt
before_any (Err OtherPublication) P h = tt
before_any (Err (Memory _)) P h = tt

module _ {Q A X E : Type 0} (kind : ReplyKind Q A X E) (laws : AreReplies kind) (hash : List ℕ → List ℕ) (made : OneMade hash sha256) {D : Type 0} (g : Ghosts D) (desk : TheDesk) (disk : D) (fits : Fits g desk disk) (u : Audited Q) where
  -- an audit that ends before the slots are examined
  pub audits_before : (r : Result Finding (AuditError E)) → r ≢ Err (Desk desk_errors.DiskFault) → Finds kind hash sha256 (look_at g desk disk disk) u r → Audits kind hash sha256 g desk disk desk disk u r
  audits_before r other found = record {
    finds = found;
    comes = λ c opened steady. comes kind laws hash sha256 (look_at g desk disk disk) u made (works g desk disk disk opened steady) r c found;
    untouched = before_any r ((desk ≡ desk) × (disk ≡ disk)) (refl, refl);
    left = left_alone g desk disk fits;
    closes = λ is. absurd (other is);
    kept = λ other. refl;
  }

  -- an audit that examined the slots
  pub audits_after : (new_desk : TheDesk) (new : D) (r : Result Finding (AuditError E)) → Finds kind hash sha256 (look_at g desk disk new) u r → BeforeLook r ((new_desk ≡ desk) × (new ≡ disk)) → IsLeft g desk disk new_desk new → (r ≡ Err (Desk desk_errors.DiskFault) → new_desk.is_open ≡ false)
      → (r ≢ Err (Desk desk_errors.DiskFault) → g.faults new ≡ g.faults disk)
      → Audits kind hash sha256 g desk disk new_desk new u r
  audits_after new_desk new r found late left closes kept = record {
    finds = found;
    comes = λ c opened steady. comes kind laws hash sha256 (look_at g desk disk new) u made (works g desk disk new opened steady) r c found;
    untouched = late;
    left = left;
    closes = closes;
    kept = kept;
  }
