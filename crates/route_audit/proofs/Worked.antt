-- The definitions of an audit, evaluated for some results. A changed definition fails here.
use Rattle.std.proofs.Common.{◌≡◌, ◌≢◌, ℕ, List, Ok, Err, refl}
use Rattle.road_io.specs.declared.disk.Disk.{Ghosts}
use Rattle.key_desk.specs.declared.desk.Desk.{Desk as TheDesk}
use Rattle.key_desk.specs.declared.desk.DeskError.{DeskError}
use Rattle.desk_look.specs.Forgeries.{AreSigned, forgery}
use Rattle.desk_look.specs.Looks.{Look}
use Rattle.proof_octets.specs.declared.header.Header.{Header}
use Rattle.proof_octets.specs.Headers.{header_text}
use Rattle.route_server.specs.declared.errors.InstallError.{InstallError}
use Rattle.route_server.specs.declared.errors.InstallError.TheVariants as installs
use Rattle.route_audit.specs.Evidence.{Part, IsTreesOwn, two_texts}
use Rattle.route_audit.specs.Comparing.{Compares}
use Rattle.route_audit.specs.Kinds.{ReplyKind}
use Rattle.route_audit.specs.Findings.{Audited, IsAccepted, IsInstalled, Finds, Comes, BeforeLook, Audits}
use Rattle.route_audit.specs.declared.errors.AuditError.TheVariants.{OtherKey, Refused, Install, Desk, OtherPublication, Memory}
use Rattle.route_audit.specs.declared.finding.Finding.TheVariants.{Right, Collision, Forged}
use Rattle.octet_text.specs.Want.{no_memory}

-- ---- the results for octets that can be audited

module _ (E : Type 0) (accepted published : Header) where
  no_other_key : Comes {E = E} accepted published (Err OtherKey) → ⊥
  no_other_key h = h

  no_refusal : (e : E) → Comes accepted published (Err (Refused e)) → ⊥
  no_refusal e h = h

  no_failed_desk : (e : DeskError) → Comes {E = E} accepted published (Err (Desk e)) → ⊥
  no_failed_desk e h = h

  another_header : Comes {E = E} accepted published (Err OtherPublication) → accepted ≢ published
  another_header h = h

-- ---- before the slots are examined

module _ (E : Type 0) (P : Type 0) where
  touched_by_no_other_key : BeforeLook {E = E} (Err OtherKey) P → P
  touched_by_no_other_key h = h

  touched_by_no_refusal : (e : E) → BeforeLook (Err (Refused e)) P → P
  touched_by_no_refusal e h = h

  touched_by_no_book : (e : InstallError) → BeforeLook {E = E} (Err (Install e)) P → P
  touched_by_no_book e h = h

-- ---- findings

module _ {Q A X E : Type 0} (kind : ReplyKind Q A X E) (hash sha : List ℕ → List ℕ) (look : Look) (u : Audited Q) where
  another_key : Finds kind hash sha look u (Err OtherKey) → look.Owns u.public → ⊥
  another_key h = h

  short_under_an_own_key : Finds kind hash sha look u (Err (Memory no_memory)) → look.Owns u.public
  short_under_an_own_key h = h

  refused_by_the_client : (e : E) → Finds kind hash sha look u (Err (Refused e)) → kind.Refuses hash u.public u.chain u.reply u.query e
  refused_by_the_client e h = h.1

  refused_under_an_own_key : (e : E) → Finds kind hash sha look u (Err (Refused e)) → look.Owns u.public
  refused_under_an_own_key e h = h.0

  no_book_behind_acceptance : (e : InstallError) → Finds kind hash sha look u (Err (Install e)) → IsAccepted kind hash look u
  no_book_behind_acceptance e h = h.0

  never_no_book_of_memory : Finds kind hash sha look u (Err (Install (installs.Memory no_memory))) → ⊥
  never_no_book_of_memory h = h.2 refl

  failed_desk_failed : (e : DeskError) → Finds kind hash sha look u (Err (Desk e)) → look.Fails e
  failed_desk_failed e h = h.1

  failed_behind_the_book : (e : DeskError) → Finds kind hash sha look u (Err (Desk e)) → IsInstalled kind hash sha look u
  failed_behind_the_book e h = h.0

  forged_is_unsigned : (key text signature : List ℕ) → Finds kind hash sha look u (Ok (Forged key text signature)) → look.Unsigned text
  forged_is_unsigned key text signature h = h.forges.forgery.unsigned

  another_publication : (h : Finds kind hash sha look u (Err OtherPublication)) → kind.header h.installed.reply.answer ≢ u.publication.header
  another_publication h = h.other

  another_is_signed : (h : Finds kind hash sha look u (Err OtherPublication)) → AreSigned look u.chain (header_text (kind.header h.installed.reply.answer))
  another_is_signed h = h.signed

  right_is_signed : (h : Finds kind hash sha look u (Ok Right)) → AreSigned look u.chain (header_text (kind.header h.0.installed.reply.answer))
  right_is_signed h = h.0.signed

  right_is_published : (h : Finds kind hash sha look u (Ok Right)) → kind.header h.0.installed.reply.answer ≡ u.publication.header
  right_is_published h = h.0.same

  right_is_right : (h : Finds kind hash sha look u (Ok Right)) → kind.IsRight hash sha u.publication u.query h.0.installed.reply.taken h.0.installed.reply.answer
  right_is_right h = h.1

  collision_collides : (left right : List ℕ) → (h : Finds kind hash sha look u (Ok (Collision left right))) → kind.Collides hash sha u.publication h.0.installed.reply.answer (two_texts left right)
  collision_collides left right h = h.1

-- a finding of a comparison is about its trees
module _ (hash : List ℕ → List ℕ) (nodes pairs : Part) where
  right_nodes : Compares hash nodes pairs Right → IsTreesOwn hash nodes
  right_nodes h = h.0

  right_pairs : Compares hash nodes pairs Right → IsTreesOwn hash pairs
  right_pairs h = h.1

  never_forged : (key text signature : List ℕ) → Compares hash nodes pairs (Forged key text signature) → ⊥
  never_forged key text signature h = h

  texts_differ : (left right : List ℕ) → Compares hash nodes pairs (Collision left right) → left ≢ right
  texts_differ left right h = h.0.differ

-- a disk fault is always returned
fault_is_answered : {Q A X E : Type 0} (kind : ReplyKind Q A X E) (hash sha : List ℕ → List ℕ) {D : Type 0} (g : Ghosts D) (old_desk new_desk : TheDesk) (old new : D) (u : Audited Q)
    → Audits kind hash sha g old_desk old new_desk new u (Err (Memory no_memory)) → g.faults new ≡ g.faults old
fault_is_answered kind hash sha g old_desk new_desk old new u h = h.kept (λ is. cc)
