-- The output of an audit: its steps in order, each followed by the rest of the audit. Every kind of replies has the
-- same steps.
use Rattle.std.specs.Prelude.{◌≡◌, ◌≢◌, ◌⊎◌, ℕ, List, []}
use Rattle.std.specs.declared.option.Option.{Option}
use Rattle.std.specs.declared.result.Result.{Result}
use Rattle.std.specs.declared.result.Result.TheVariants.{Ok, Err}
use Rattle.std.specs.Option.{ForSome}
use Rattle.sha2.specs.Sha256.{sha256}
use Rattle.merkle_cover.specs.declared.clashes.TwoTexts.{TwoTexts}
use Rattle.lms_tree.specs.declared.links.Link.{Link}
use Rattle.key_desk.specs.declared.desk.DeskError.{DeskError}
use Rattle.desk_look.specs.Forgeries.{AreSigned, Forges}
use Rattle.desk_look.specs.declared.forgery.Forgery.{Forgery}
use Rattle.proof_octets.specs.declared.header.Header.{Header}
use Rattle.proof_octets.specs.declared.publication.Publication.{Publication}
use Rattle.proof_octets.specs.Headers.{header_text}
use Rattle.route_server.specs.declared.errors.BuildError.TheVariants as build
use Rattle.route_server.specs.declared.errors.InstallError.TheVariants as install
use Rattle.route_audit.specs.Kinds.{ReplyKind}
use Rattle.route_audit.specs.declared.errors.AuditError.{AuditError}
use Rattle.route_audit.specs.declared.errors.AuditError.TheVariants as audit
use Rattle.route_audit.specs.declared.finding.Finding.{Finding}
use Rattle.route_audit.specs.declared.finding.Finding.TheVariants.{Right, Collision, Forged}
use Rattle.road_line.specs.EvidenceLine.{right_line, collision_line, forged_line}
use Rattle.road_io.specs.Contents.{Folder}
use Rattle.command_files.specs.Reading.{octets_at, publication_at, chain_at}
use Rattle.command_files.specs.HexFiles.{public_key_at}
use Rattle.command_files.specs.Endings.{Ending, EndsReading}
use Rattle.command_books.specs.Installing.{EndsInstalling, fault_of_build}
use Rattle.command_desks.specs.Opening.{EndsOpening}
use Rattle.command_files.specs.declared.fault.Fault.TheVariants.{HeaderWrong, OtherKey, OtherPublication}
use Rattle.command_files.specs.declared.ended.Conclusion.TheVariants.{Done, Refused, Evidence}
use Rattle.audit_commands.specs.Owners.{IsOwnersKey, look_in}

-- ---- the steps

-- the public key belongs to the owner, and the rest of the audit follows; or it does not
abbrev pub EndsOwnersKey : Option (List ℕ) → List ℕ → Ending → Ending
EndsOwnersKey content key Next outcome text =
    ((outcome ≡ Err OtherKey) × ForSome content (λ c. ¬ IsOwnersKey c key) × (text ≡ [])) ⊎
    (ForSome content (λ c. IsOwnersKey c key) × Next outcome text)

-- the client accepts the reply under the key and the links, whatever its version, and the rest of the audit
-- follows; or it refuses the reply, and the line gives the reason
abbrev pub EndsClient : {Q A X E : Type 0} → ReplyKind Q A X E → (E → List ℕ) → List ℕ →
    List Link → List ℕ → Q → (X → A → Ending) → Ending
EndsClient {Q} {A} {X} {E} kind line key links octets q Next outcome text =
    ((e : E) × kind.Refuses sha256 key links octets q e × (outcome ≡ Ok Refused) ×
    (text ≡ line e))
    ⊎ ((x : X) × (a : A) × kind.Accepts sha256 key links octets q 0 x a × Next x a outcome text)

-- the owner signed the text of each link and the header, and the rest of the audit follows; or the line has the
-- first of these texts that the owner never signed, and its signature
abbrev pub EndsSigned : Option (List ℕ) → List ℕ → List Link → Header → List ℕ → Ending → Ending
EndsSigned content key links header signature Next outcome text =
    ((outcome ≡ Ok Evidence) × (f : Forgery) × ForSome content
    (λ c. Forges (look_in c) key links (header_text header) signature f)
    × (text ≡ forged_line f.text f.signature))
    ⊎ (ForSome content (λ c. AreSigned (look_in c) links (header_text header)) × Next outcome text)

-- the header is the publication's, and the rest of the audit follows; or it is another header
abbrev pub EndsSameHeader : Publication → Header → Ending → Ending
EndsSameHeader p header Next outcome text =
    ((outcome ≡ Err OtherPublication) × (header ≢ p.header) × (text ≡ [])) ⊎
    ((header ≡ p.header) × Next outcome text)

-- the contents of the reply come from the publication's trees, and the result is true of its map; or two texts have
-- the same digest
abbrev pub EndsComparing : {Q A X E : Type 0} → ReplyKind Q A X E → Publication → Q → X → A → Ending
EndsComparing kind p q x a outcome text =
    ((outcome ≡ Ok Done) × kind.IsRight sha256 sha256 p q x a × (text ≡ right_line))
    ⊎ ((outcome ≡ Ok Evidence) × (two : TwoTexts) × kind.Collides sha256 sha256 p a two ×
    (text ≡ collision_line two.left two.right))

-- ---- the whole audit

-- an audit over a public key, links from it, a publication and the octets of a reply; it opens the desk
-- first
abbrev pub EndsAudit : {Q A X E : Type 0} → ReplyKind Q A X E → (E → List ℕ) → Option (List ℕ) →
    List ℕ → List Link → Publication → List ℕ → Q → Ending
EndsAudit kind line content key links p octets q =
    EndsOpening content
    (EndsOwnersKey content key
    (EndsClient kind line key links octets q
    (λ x a. EndsInstalling p
    (EndsSigned content key links (kind.header a) (kind.signature a)
    (EndsSameHeader p (kind.header a)
    (EndsComparing kind p q x a))))))

-- the same over the files with these names
abbrev pub ends_audit : {Q A X E : Type 0} → ReplyKind Q A X E → (E → List ℕ) → Option (List ℕ) →
    List ℕ → List ℕ → List ℕ → Q → Option (List ℕ) → Folder → Ending
ends_audit kind line content key publication reply q chain folder =
    EndsReading (public_key_at folder key)
    (λ k. EndsReading (publication_at folder publication)
    (λ p. EndsReading (octets_at folder reply)
    (λ octets. EndsReading (chain_at folder chain)
    (λ links. EndsAudit kind line content k links p octets q))))

-- ---- the results of functions

-- how the command ends for a finding, and the text that it then writes
abbrev pub TellsFinding : Finding → Ending
TellsFinding Right outcome text = (outcome ≡ Ok Done) × (text ≡ right_line)
TellsFinding (Collision left right) outcome text = (outcome ≡ Ok Evidence) ×
    (text ≡ collision_line left right)
TellsFinding (Forged key forged signature) outcome text = (outcome ≡ Ok Evidence) ×
    (text ≡ forged_line forged signature)

-- how the command ends for the result of an audit; this line gives the reason why a reply is refused
abbrev pub Tells : {E : Type 0} → (E → List ℕ) → Result Finding (AuditError E) → Ending
Tells line (Ok finding) outcome text = TellsFinding finding outcome text
Tells line (Err (audit.Refused e)) outcome text = (outcome ≡ Ok Refused) × (text ≡ line e)
Tells line (Err audit.OtherKey) outcome text = (outcome ≡ Err OtherKey) × (text ≡ [])
Tells line (Err (audit.Install (install.Build (build.Memory _)))) outcome text = ⊥
Tells line (Err (audit.Install (install.Build e))) outcome text =
    (outcome ≡ Err (fault_of_build e)) × (text ≡ [])
Tells line (Err (audit.Install install.HeaderWrong)) outcome text = (outcome ≡ Err HeaderWrong) ×
    (text ≡ [])
Tells line (Err audit.OtherPublication) outcome text = (outcome ≡ Err OtherPublication) ×
    (text ≡ [])
Tells line (Err e) outcome text = ⊥

-- the desk could not look up the texts
abbrev pub LookFailed : {E : Type 0} → Result Finding (AuditError E) → Type 0
LookFailed answer = (e : DeskError) × (answer ≡ Err (audit.Desk e))
