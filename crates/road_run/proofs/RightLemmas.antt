-- `audit` and `audit-reach` find honest replies right.
use Rattle.std.proofs.Common.{◌≡◌, inl, inr, ℕ, List, refl, sym, subst, IfSome}
use Rattle.std.specs.declared.option.Option.{Option}
use Rattle.std.specs.declared.option.Option.TheVariants.{None, Some}
use Rattle.std.specs.declared.result.Result.{Result}
use Rattle.std.specs.declared.result.Result.TheVariants.{Ok, Err}
use Rattle.std.specs.Option.{ForSome}
use Rattle.sha2.specs.Sha256.{sha256}
use Rattle.road_io.specs.declared.disk.Disk.{Ghosts}
use Rattle.road_io.specs.Causes.{Rose}
use Rattle.road_io.specs.Contents.{Folder}
use Rattle.road_io.specs.Moments.{still_told}
use Rattle.lms_tree.specs.declared.links.Link.{Link}
use Rattle.desk_areas.specs.Faults.{IsUsable}
use Rattle.desk_look.specs.Forgeries.{AreSigned}
use Rattle.proof_octets.specs.declared.header.Header.{Header}
use Rattle.proof_octets.specs.declared.publication.Publication.{Publication}
use Rattle.proof_octets.specs.Headers.{header_text}
use Rattle.route_server.specs.Headers.{HasHeader}
use Rattle.route_audit.specs.Kinds.{ReplyKind, AreReplies}
use Rattle.route_audit.specs.Routes.{routes}
use Rattle.route_audit.proofs.RouteLemmas as route
use Rattle.route_audit.specs.Radii.{radii}
use Rattle.route_audit.proofs.RadiusLemmas as radius
use Rattle.road_line.specs.WithinLine.{refused_near_line}
use Rattle.near_proof.specs.Right.{AreRight, HonestRepliesAreRight, HonestReachesAreRight}
use Rattle.road_line.specs.EvidenceLine.{right_line}
use Rattle.road_line.specs.VerdictLine.{refused_line}
use Rattle.road_command.specs.Requests.{Request, Audit, AuditReach}
use Rattle.command_files.specs.Endings.{Ending, EndsReading, Answered, Promises}
use Rattle.command_files.specs.Reading.{octets_at, publication_at, chain_at}
use Rattle.command_files.specs.HexFiles.{public_key_at}
use Rattle.command_files.specs.declared.fault.Fault.{Fault}
use Rattle.command_files.specs.declared.fault.Fault.TheVariants.{MirrorLost}
use Rattle.command_files.specs.declared.ended.Conclusion.{Conclusion}
use Rattle.command_files.specs.declared.ended.Conclusion.TheVariants.{Done, Refused, Evidence}
use Rattle.command_files.proofs.OneEnd.{HasOneEnd}
use Rattle.command_files.proofs.Written.{reads, read_as}
use Rattle.command_books.proofs.OneBuilding.{OneMaking}
use Rattle.audit_commands.specs.Auditing.{EndsOwnersKey, EndsSigned, EndsSameHeader, EndsComparing, EndsAudit, ends_audit}
use Rattle.audit_commands.specs.Owners.{IsOwnersKey, look_in}
use Rattle.audit_commands.proofs.AuditLemmas.{Behind}
use Rattle.audit_commands.proofs.OneAudit.{only_audit}
use Rattle.road_run.specs.Accepting.{FindsHonest, WritesAccepted}
use Rattle.road_run.specs.Commands.{Ends, files_for, TellsClient, RunPromises}
use Rattle.road_run.proofs.HonestLemmas.{Verdicts, writes_accepted}
use Rattle.road_run.proofs.TakenLemmas.{behind}

-- a fact about a value that exists
for_some : (x : List ℕ) (P : List ℕ → Type 0) → P x → ForSome (Some x) P
for_some x P h = λ c e. let same : x ≡ c = cc in subst P same h

no_fault : (f : Fault) → ◌≡◌ {A = Result Conclusion Fault} (Ok Done) (Err f) → ⊥
no_fault f e = cc

not_refused : ◌≡◌ {A = Result Conclusion Fault} (Ok Done) (Ok Refused) → ⊥
not_refused e = cc

no_evidence : ◌≡◌ {A = Result Conclusion Fault} (Ok Done) (Ok Evidence) → ⊥
no_evidence e = cc

module _ {Q A X E : Type 0} (kind : ReplyKind Q A X E) (line : E → List ℕ) (key : List ℕ) (links : List Link) (p : Publication) (octets : List ℕ) (q : Q) where
  -- the work is done if everything is right
  right_ends : (image : List ℕ) → IsUsable image → IsOwnersKey image key → AreSigned (look_in image) links (header_text p.header) → HasHeader sha256 sha256 p.parts p.settings p.header
      → AreRight kind sha256 sha256 key links octets q p → EndsAudit kind line (Some image) key links p octets q (Ok Done) right_line
  right_ends image usable owners signed has r =
      let mine : AreSigned (look_in image) links (header_text (kind.header r.answer)) = subst (λ (h : Header). AreSigned (look_in image) links (header_text h)) (sym r.header) signed in
      inr (inr (
        for_some image IsUsable usable,
        inr (
          for_some image (λ c. IsOwnersKey c key) owners,
          inr (
            r.taken,
            r.answer,
            r.accepts,
            record {
              made = Ok p.header;
              makes = has;
              follows = inl (refl, inr (for_some image (λ c. AreSigned (look_in c) links (header_text (kind.header r.answer))) mine, inr (r.header, inl (refl, r.right, refl))));
            },
          ),
        ),
      ))

  -- and then the line states this
  module _ (content : Option (List ℕ)) (t : List ℕ) where
    compared : (x : X) (a : A) → EndsComparing kind p q x a (Ok Done) t → t ≡ right_line
    compared x a (inl h) = h.2
    compared x a (inr h) = absurd (no_evidence h.0)

    same : (x : X) (a : A) → EndsSameHeader p (kind.header a) (EndsComparing kind p q x a) (Ok Done) t → t ≡ right_line
    same x a (inl h) = absurd (cc)
    same x a (inr h) = compared x a h.1

    signed : (x : X) (a : A) → EndsSigned content key links (kind.header a) (kind.signature a) (EndsSameHeader p (kind.header a) (EndsComparing kind p q x a)) (Ok Done) t → t ≡ right_line
    signed x a (inl h) = absurd (no_evidence h.0)
    signed x a (inr h) = same x a h.1

    client : Behind kind line content key links octets q p (Ok Done) t → t ≡ right_line
    client (inl h) = absurd (not_refused h.2)
    client (inr h) = signed h.0 h.1 (behind p (EndsSigned content key links (kind.header h.1) (kind.signature h.1) (EndsSameHeader p (kind.header h.1) (EndsComparing kind p q h.0 h.1))) (Ok Done) t tt h.3)

    owner : EndsOwnersKey content key (Behind kind line content key links octets q p) (Ok Done) t → t ≡ right_line
    owner (inl h) = absurd (cc)
    owner (inr h) = client h.1

    line_is : EndsAudit kind line content key links p octets q (Ok Done) t → t ≡ right_line
    line_is (inl h) = absurd (cc)
    line_is (inr (inl h)) = absurd (cc)
    line_is (inr (inr h)) = owner h.1

module _ {Q A X E : Type 0} (kind : ReplyKind Q A X E) (line : E → List ℕ) (laws : AreReplies kind) (makings : OneMaking) (content : Option (List ℕ)) (folder : Folder) (key_name publication_name reply_name : List ℕ) (q : Q) (chain_name : Option (List ℕ))
    (p : Publication) (key : List ℕ) (links : List Link) (octets : List ℕ) (key_read : public_key_at folder key_name ≡ Ok key) (publication_read : publication_at folder publication_name ≡ Ok p) (reply_read : octets_at folder reply_name ≡ Ok octets) (chain_read : chain_at folder chain_name ≡ Ok links) where
  abbrev OverChain : List ℕ → Publication → List ℕ → Ending
  OverChain k b o = EndsReading (chain_at folder chain_name) (λ ls. EndsAudit kind line content k ls b o q)

  abbrev OverReply : List ℕ → Publication → Ending
  OverReply k b = EndsReading (octets_at folder reply_name) (OverChain k b)

  abbrev OverPublication : List ℕ → Ending
  OverPublication k = EndsReading (publication_at folder publication_name) (OverReply k)

  abbrev Whole : Ending
  Whole = ends_audit kind line content key_name publication_name reply_name q chain_name folder

  -- over the files, and over the contents that they encode
  over_files : (o : Result Conclusion Fault) (t : List ℕ) → EndsAudit kind line content key links p octets q o t → Whole o t
  over_files o t h =
      reads (public_key_at folder key_name) key OverPublication o t key_read
      (reads (publication_at folder publication_name) p (OverReply key) o t publication_read
      (reads (octets_at folder reply_name) octets (OverChain key p) o t reply_read
      (reads (chain_at folder chain_name) links (λ ls. EndsAudit kind line content key ls p octets q) o t chain_read h)))

  of_files : (o : Result Conclusion Fault) (t : List ℕ) → Whole o t → EndsAudit kind line content key links p octets q o t
  of_files o t h =
      read_as (chain_at folder chain_name) links (λ ls. EndsAudit kind line content key ls p octets q) o t chain_read
      (read_as (octets_at folder reply_name) octets (OverChain key p) o t reply_read
      (read_as (publication_at folder publication_name) p (OverReply key) o t publication_read
      (read_as (public_key_at folder key_name) key OverPublication o t key_read h)))

  -- an audit of a right reply writes that it is right
  pub writes_right : (image : List ℕ) → content ≡ Some image → IsUsable image → IsOwnersKey image key → AreSigned (look_in image) links (header_text p.header) → HasHeader sha256 sha256 p.parts p.settings p.header
      → AreRight kind sha256 sha256 key links octets q p → (old new : Option (List ℕ)) (o : Result Conclusion Fault) → Answered Whole old new o → (o ≡ Err MirrorLost → ⊥) → WritesAccepted (λ text. text ≡ right_line) old new o
  writes_right image told usable owners signed has r old new o a lost =
      let here : Whole (Ok Done) right_line =
      over_files (Ok Done) right_line
      (subst (λ (c : Option (List ℕ)). EndsAudit kind line c key links p octets q (Ok Done) right_line) (sym told) (right_ends kind line key links p octets q image usable owners signed has r)) in
      let one : HasOneEnd Whole =
      subst (λ (c : Option (List ℕ)). HasOneEnd (ends_audit kind line c key_name publication_name reply_name q chain_name folder)) (sym told)
      (only_audit kind line laws makings image key_name publication_name reply_name q chain_name folder) in
      writes_accepted Whole (λ text. text ≡ right_line)
      (λ text h. line_is kind line key links p octets q content text (of_files (Ok Done) text h))
      (λ text h. not_refused (one (Ok Done) (Ok Refused) right_line text here h))
      (λ text h. no_evidence (one (Ok Done) (Ok Evidence) right_line text here h))
      (λ f text h. no_fault f (one (Ok Done) (Err f) right_line text here h))
      old new o a lost

-- for a request and the library of a run
finds_honest : OneMaking → Verdicts → HonestRepliesAreRight → HonestReachesAreRight → (request : Request) (files : Option Folder) (content : Option (List ℕ)) (old new : Option (List ℕ)) (o : Result Conclusion Fault)
    → IfSome (files_for request files) (λ folder. Answered (Ends content request folder) old new o) → (o ≡ Err MirrorLost → TellsClient request MirrorLost) → FindsHonest request files content old new o
finds_honest makings verdicts answers reaches (Audit key publication reply q chain) (Some folder) content old new o a lost = λ p h.
    let f = h.file in
    let d = h.desk in
    writes_right routes refused_line (route.are_replies verdicts.one verdicts.accepted) makings content folder key publication reply q chain p f.key f.links f.octets f.key_read h.publication_read f.reply_read f.chain_read d.image d.told d.usable d.owners d.signed f.signed.header
    (answers sha256 sha256 f.signer f.key f.links f.octets p q f.signed f.leads f.known f.honest) old new o a lost
finds_honest makings verdicts answers reaches (AuditReach key publication reply q chain) (Some folder) content old new o a lost = λ p h.
    let f = h.file in
    let d = h.desk in
    writes_right radii refused_near_line (radius.are_replies verdicts.near_one verdicts.near_accepted) makings content folder key publication reply q chain p f.key f.links f.octets f.key_read h.publication_read f.reply_read f.chain_read d.image d.told d.usable d.owners d.signed f.signed.header
    (reaches sha256 sha256 f.signer f.key f.links f.octets p q f.signed f.leads f.honest) old new o a lost
finds_honest makings verdicts answers reaches request files content old new o a lost = tt

-- and for a run
module _ {D : Type 0} (g : Ghosts D) (old new : D) (asked : Option Request) (files : Option Folder) (l l' : ℕ) (taken_before taken_now : Option (List ℕ)) (k k' : ℕ) (o : Result Conclusion Fault) where
  pub right_run : OneMaking → Verdicts → HonestRepliesAreRight → HonestReachesAreRight → RunPromises g old new asked files l l' taken_before taken_now k k' o
      → IfSome asked (λ request. FindsHonest request files (still_told g old new) taken_before taken_now o)
  right_run makings verdicts answers reaches r = by asked r.command
    where
      by : (asked : Option Request) → IfSome asked (λ request. Promises (Ends (still_told g old new) request) (TellsClient request) (Rose (g.faults old) (g.faults new)) (files_for request files) l l' taken_before taken_now k k' o)
          → IfSome asked (λ request. FindsHonest request files (still_told g old new) taken_before taken_now o)
      by None p = tt
      by (Some request) p = finds_honest makings verdicts answers reaches request files (still_told g old new) taken_before taken_now o p.answered p.mirror
