-- The steps of an audit, each as one function.
use Rattle.std.specs.Prelude.{◌≡◌, ◌≢◌, ℕ, List, Result, Ok, Err}
use Rattle.lms_tree.specs.declared.links.Link.{Link}
use Rattle.desk_look.specs.Forgeries.{AreSigned, Forges, forgery}
use Rattle.desk_look.specs.Looks.{Look}
use Rattle.proof_octets.specs.declared.publication.Publication.{Publication}
use Rattle.proof_octets.specs.Headers.{header_text}
use Rattle.route_server.specs.Installing.{Installs}
use Rattle.route_server.specs.Keeping.{Kept, header_in, publication_in}
use Rattle.route_server.specs.declared.errors.InstallError.TheVariants as installs
use Rattle.route_audit.specs.Evidence.{two_texts}
use Rattle.route_audit.specs.Kinds.{ReplyKind}
use Rattle.route_audit.specs.declared.errors.AuditError.{AuditError}
use Rattle.route_audit.specs.declared.errors.AuditError.TheVariants.{Refused, Install, Desk, OtherPublication, Memory}
use Rattle.route_audit.specs.declared.finding.Finding.{Finding}
use Rattle.route_audit.specs.declared.finding.Finding.TheVariants.{Right, Collision, Forged}
use Rattle.octet_text.specs.Want.{no_memory}

-- the answer that octets encode is accepted, whatever its version
abbrev pub IsAnswerTo : {Q A X E : Type 0} → ReplyKind Q A X E → (List ℕ → List ℕ) → List ℕ →
    List Link → List ℕ → Q → A → Type 0
IsAnswerTo {Q} {A} {X} {E} kind hash key links octets q a =
    (x : X) × kind.Accepts hash key links octets q 0 x a

-- why no answer is accepted
abbrev pub IsRefused : {Q A X E : Type 0} → ReplyKind Q A X E → (List ℕ → List ℕ) → List ℕ →
    List Link → List ℕ → Q → AuditError E → Type 0
IsRefused kind hash key links octets q (Refused e) = kind.Refuses hash key links octets q e
IsRefused kind hash key links octets q (Memory _) = Unit {0}
IsRefused kind hash key links octets q _ = ⊥

-- why a publication was not installed
abbrev pub IsNotInstalled : {E : Type 0} → (List ℕ → List ℕ) → (List ℕ → List ℕ) → Publication →
    AuditError E → Type 0
IsNotInstalled hash sha p (Install e) = Installs hash sha p (Err e) × (e ≢ installs.Memory no_memory)
IsNotInstalled hash sha p (Memory _) = Unit {0}
IsNotInstalled hash sha p _ = ⊥

-- the result of comparing an answer with its publication
abbrev pub Compared : {Q A X E : Type 0} → ReplyKind Q A X E → (List ℕ → List ℕ) →
    (List ℕ → List ℕ) → Publication → Q → A → Finding → Type 0
Compared {Q} {A} {X} {E} kind hash sha p q a Right = (key : List ℕ) (links : List Link)
    (octets : List ℕ) (x : X) → kind.Accepts hash key links octets q 0 x a →
    kind.IsRight hash sha p q x a
Compared kind hash sha p q a (Collision left right) =
    kind.Collides hash sha p a (two_texts left right)
Compared kind hash sha p q a (Forged key text signature) = ⊥

-- the result for an answer over a held book, under a key and links from it: the first case that holds
abbrev pub FindsIn : {Q A X E : Type 0} → ReplyKind Q A X E → (List ℕ → List ℕ) →
    (List ℕ → List ℕ) → Look → List ℕ → List Link → Kept → Q → A → Result Finding (AuditError E) →
    Type 0
FindsIn kind hash sha look key links k q a (Err (Desk e)) = look.Fails e
FindsIn kind hash sha look key links k q a (Ok (Forged own text signature)) =
    Forges look key links (header_text (kind.header a)) (kind.signature a)
    (forgery own text signature)
FindsIn kind hash sha look key links k q a (Err OtherPublication) =
    AreSigned look links (header_text (kind.header a)) × (kind.header a ≢ header_in hash k)
FindsIn kind hash sha look key links k q a (Ok finding) =
    AreSigned look links (header_text (kind.header a)) × (kind.header a ≡ header_in hash k) ×
    Compared kind hash sha (publication_in hash k) q a finding
FindsIn kind hash sha look key links k q a (Err (Memory _)) = Unit {0}
FindsIn kind hash sha look key links k q a (Err e) = ⊥
