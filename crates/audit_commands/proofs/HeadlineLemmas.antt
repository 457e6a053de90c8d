-- The headline, from the results of an audit and the support of its lines.
use Rattle.std.proofs.Common.{◌≡◌, ◌≢◌, ◌⊎◌, inl, inr, ℕ, List, [], refl, sym, ap, subst, ◌∙◌, IfSome}
use Rattle.std.specs.declared.option.Option.{Option}
use Rattle.std.specs.declared.option.Option.TheVariants.{None, Some}
use Rattle.std.specs.declared.result.Result.{Result}
use Rattle.std.specs.declared.result.Result.TheVariants.{Ok, Err}
use Rattle.std.specs.Io.KnownBytes.{Appends}
use Rattle.sha2.specs.Sha256.{sha256}
use Rattle.road_io.specs.declared.disk.Disk.{Ghosts}
use Rattle.road_io.specs.Contents.{Folder}
use Rattle.lms_tree.specs.declared.links.Link.{Link}
use Rattle.desk_look.specs.Forgeries.{Forges}
use Rattle.proof_octets.specs.declared.header.Header.{Header}
use Rattle.proof_octets.specs.declared.publication.Publication.{Publication}
use Rattle.proof_octets.specs.Headers.{header_text}
use Rattle.route_server.specs.Headers.{HasHeader}
use Rattle.route_server.specs.declared.errors.BuildError.{BuildError}
use Rattle.route_audit.specs.Kinds.{AreReplies, ReplyKind}
use Rattle.road_line.specs.EvidenceLine.{right_line}
use Rattle.command_files.specs.Reading.{octets_at, publication_at, chain_at}
use Rattle.command_files.specs.HexFiles.{public_key_at}
use Rattle.command_books.specs.Installing.{AfterBuild, IfInstalled, EndsInstalling}
use Rattle.command_files.specs.Endings.{Ending, Answered, EndsReading}
use Rattle.audit_commands.specs.Auditing.{EndsOwnersKey, EndsSigned, EndsSameHeader, EndsComparing, EndsAudit, ends_audit}
use Rattle.audit_commands.specs.Owners.{look_everywhere}
use Rattle.audit_commands.specs.Headline.{ClashIn, IsBrought, IsAcceptedHeader, IsEvidence, WritesFindings, IsTrue, IsOthers, FindsTruth, IsAcceptedFile, AuditsAccepted}
use Rattle.audit_commands.proofs.Steps.{RestsOnNone}
use Rattle.audit_commands.proofs.AuditLemmas.{Behind}
use Rattle.command_files.specs.declared.fault.Fault.{Fault}
use Rattle.command_files.specs.declared.fault.Fault.TheVariants.{TruncatedFrame, FrameTooLong, Library, Source, Sink, Disk, Memory, UnknownNode, NoRoute, TooManyFrames, OtherPublication, MirrorLost}
use Rattle.command_files.specs.declared.ended.Conclusion.{Conclusion}
use Rattle.command_files.specs.declared.ended.Conclusion.TheVariants.{Done, Refused, Evidence}
use Rattle.command_books.proofs.OneBuilding.{OneMaking}
use Rattle.command_files.proofs.Written.{failed, read_as}

-- a run with a verdict
abbrev pub ended : Conclusion → Result Conclusion Fault
ended v = Ok v

-- the steps after the install of a publication that can be installed
pub installed : OneMaking → (p : Publication) (Next : Ending) (o : Result Conclusion Fault) (t : List ℕ) → HasHeader sha256 sha256 p.parts p.settings p.header → EndsInstalling p Next o t → Next o t
installed makings p Next o t has h = by (subst (λ (m : Result Header BuildError). AfterBuild (IfInstalled p Next) m o t) same h.follows)
  where
    same : h.made ≡ Ok p.header
    same = makings sha256 sha256 p.parts p.settings h.made (Ok p.header) h.makes has (λ e. subst (λ (m : Result Header BuildError). AfterBuild (IfInstalled p Next) m o t) e h.follows) (λ e. cc)

    by : IfInstalled p Next p.header o t → Next o t
    by (inl k) = k.1
    by (inr k) = absurd (k.0 refl)

-- evidence for what one relation gives is evidence for what another one gives
pub evidence_by : {D : Type 0} (g : Ghosts D) (disk : D) (One Other Here There : List ℕ → List ℕ → Type 0) (k key : List ℕ) (ls links : List Link) (text : List ℕ) → ((header signature : List ℕ) → One header signature → Other header signature) → ((left right : List ℕ) → Here left right → There left right) → k ≡ key → ls ≡ links
    → IsEvidence g disk One Here k ls text → IsEvidence g disk Other There key links text
evidence_by g disk One Other Here There k key ls links text by moves same same_links (inl e) = inl (record { left = e.left; right = e.right; collide = e.collide; hashed = moves e.left e.right e.hashed; line = e.line })
evidence_by g disk One Other Here There k key ls links text by moves same same_links (inr e) = inr (record {
  header = e.header;
  signature = e.signature;
  brought = by e.header e.signature e.brought;
  forgery = e.forgery;
  forges = subst (λ (x : List ℕ). Forges (look_everywhere g disk) x links e.header e.signature e.forgery) same (subst (λ (x : List Link). Forges (look_everywhere g disk) k x e.header e.signature e.forgery) same_links e.forges);
  line = e.line;
})

-- an audit ends because the accepted header belongs to another publication
pub record IsOtherEnd (p : Publication) (accepted : Header) (o : Result Conclusion Fault) : Type 0 where
  pub outcome : o ≡ Err OtherPublication
  pub other : accepted ≢ p.header

-- How an audit of accepted octets ends: with the line of a right reply, and the result is true; or with evidence;
-- or in one of the ways above.
pub record IsRightEnd (p : Publication) (accepted : Header) (Truth : Type 0) (o : Result Conclusion Fault) (t : List ℕ) : Type 0 where
  pub outcome : o ≡ Ok Done
  pub line : t ≡ right_line
  pub same : accepted ≡ p.header
  pub truth : Truth

abbrev pub IsEnd : Publication → Header → Type 0 → Ending
IsEnd p accepted Truth o t = IsRightEnd p accepted Truth o t ⊎ ((o ≡ Ok Evidence) ⊎ IsOtherEnd p accepted o)

module _ {Q A X E : Type 0} (kind : ReplyKind Q A X E) (line : E → List ℕ) (laws : AreReplies kind) (makings : OneMaking) (content : Option (List ℕ)) (folder : Folder) (key_name publication_name reply_name : List ℕ) (q : Q) (chain_name : Option (List ℕ)) (key : List ℕ) (links : List Link) (p : Publication) (x : X)
    (f : IsAcceptedFile kind content folder key_name publication_name reply_name q chain_name key links p x) where
  abbrev Truth : Type 0
  Truth = kind.IsTrue p q x

  accepts : kind.Accepts sha256 key links f.octets q 0 x f.answer
  accepts = laws.any_least sha256 key links f.octets q f.least x f.answer f.accepts

  header_is : kind.taken_header x ≡ kind.header f.answer
  header_is = laws.same_header sha256 key links f.octets q 0 x f.answer accepts

  comparing : kind.taken_header x ≡ p.header → (o : Result Conclusion Fault) (t : List ℕ) → EndsComparing kind p q x f.answer o t → IsEnd p (kind.taken_header x) Truth o t
  comparing same o t (inl h) = inl (record { outcome = h.0; line = h.2; same = same; truth = laws.truth sha256 sha256 p q x f.answer h.1 })
  comparing same o t (inr h) = inr (inl h.0)

  same_header : (o : Result Conclusion Fault) (t : List ℕ) → EndsSameHeader p (kind.header f.answer) (EndsComparing kind p q x f.answer) o t → IsEnd p (kind.taken_header x) Truth o t
  same_header o t (inl h) = inr (inr (record { outcome = h.0; other = λ e. h.1 (sym header_is ∙ e) }))
  same_header o t (inr h) = comparing (header_is ∙ h.0) o t h.1

  signed : (o : Result Conclusion Fault) (t : List ℕ) → EndsSigned content key links (kind.header f.answer) (kind.signature f.answer) (EndsSameHeader p (kind.header f.answer) (EndsComparing kind p q x f.answer)) o t → IsEnd p (kind.taken_header x) Truth o t
  signed o t (inl h) = inr (inl h.0)
  signed o t (inr h) = same_header o t h.1

  client : (o : Result Conclusion Fault) (t : List ℕ) → Behind kind line content key links f.octets q p o t → IsEnd p (kind.taken_header x) Truth o t
  client o t (inl h) = absurd (laws.not_refused sha256 key links f.octets q x f.answer h.0 accepts h.1)
  client o t (inr h) =
      let taken : h.0 ≡ x = laws.one_taken sha256 key links f.octets q h.0 x h.1 f.answer h.2 accepts in
      let answer : h.1 ≡ f.answer = laws.one_answer f.octets h.1 f.answer (laws.spelled sha256 key links f.octets q 0 h.0 h.1 h.2) (laws.spelled sha256 key links f.octets q 0 x f.answer accepts) in
      let of_x = subst (λ (y : X). EndsInstalling p (EndsSigned content key links (kind.header h.1) (kind.signature h.1) (EndsSameHeader p (kind.header h.1) (EndsComparing kind p q y h.1))) o t) taken h.3 in
      let of_a = subst (λ (a : A). EndsInstalling p (EndsSigned content key links (kind.header a) (kind.signature a) (EndsSameHeader p (kind.header a) (EndsComparing kind p q x a))) o t) answer of_x in
      signed o t (installed makings p (EndsSigned content key links (kind.header f.answer) (kind.signature f.answer) (EndsSameHeader p (kind.header f.answer) (EndsComparing kind p q x f.answer))) o t f.header of_a)

  owners : (o : Result Conclusion Fault) (t : List ℕ) → EndsOwnersKey content key (Behind kind line content key links f.octets q p) o t → IsEnd p (kind.taken_header x) Truth o t
  owners o t (inl h) = absurd (h.1 f.image f.told f.owners)
  owners o t (inr h) = client o t h.1

  opening : (o : Result Conclusion Fault) (t : List ℕ) → EndsAudit kind line content key links p f.octets q o t → IsEnd p (kind.taken_header x) Truth o t
  opening o t (inl h) = absurd (h.1 f.image f.told f.usable.open_gate)
  opening o t (inr (inl h)) = absurd (f.usable.good_block (h.1 f.image f.told).1)
  opening o t (inr (inr h)) = owners o t h.1

  -- over the contents that the files encode
  over_files : (o : Result Conclusion Fault) (t : List ℕ) → ends_audit kind line content key_name publication_name reply_name q chain_name folder o t → IsEnd p (kind.taken_header x) Truth o t
  over_files o t h =
      let by_key = read_as (public_key_at folder key_name) key (λ k. EndsReading (publication_at folder publication_name) (λ b. EndsReading (octets_at folder reply_name) (λ octets. EndsReading (chain_at folder chain_name) (λ ls. EndsAudit kind line content k ls b octets q)))) o t f.key_read h in
      let by_publication = read_as (publication_at folder publication_name) p (λ b. EndsReading (octets_at folder reply_name) (λ octets. EndsReading (chain_at folder chain_name) (λ ls. EndsAudit kind line content key ls b octets q))) o t f.publication_read by_key in
      let by_reply = read_as (octets_at folder reply_name) f.octets (λ octets. EndsReading (chain_at folder chain_name) (λ ls. EndsAudit kind line content key ls p octets q)) o t f.reply_read by_publication in
      opening o t (read_as (chain_at folder chain_name) links (λ ls. EndsAudit kind line content key ls p f.octets q) o t f.chain_read by_reply)

  same_read : {Y : Type 0} (a b : Y) (r : Result Y Fault) → r ≡ Ok a → r ≡ Ok b → a ≡ b
  same_read a b r is other = cc

  no_fault : (f : Fault) (t : List ℕ) → IsEnd p (kind.taken_header x) Truth (Err f) t → RestsOnNone f → ⊥
  no_fault f t (inl r) none = let e : failed f ≡ Ok Done = r.outcome in cc
  no_fault f t (inr (inl e)) none = let same : failed f ≡ Ok Evidence = e in cc
  no_fault f t (inr (inr r)) none = let e : failed f ≡ failed OtherPublication = r.outcome in let same : f ≡ OtherPublication = cc in subst RestsOnNone same none

  -- the header of the accepted octets is the accepted header
  brings : (octets header signature : List ℕ) → octets ≡ f.octets → IsBrought kind octets header signature → IsAcceptedHeader (kind.taken_header x) (IsBrought kind f.octets) header signature
  brings octets header signature same b =
      let moved : IsBrought kind f.octets header signature = subst (λ (xs : List ℕ). IsBrought kind xs header signature) same b in
      let answer : moved.answer ≡ f.answer = laws.one_answer f.octets moved.answer f.answer moved.spelled (laws.spelled sha256 key links f.octets q 0 x f.answer accepts) in
      (moved.header_is ∙ ap (λ (a : A). header_text (kind.header a)) answer ∙ ap (λ (h : Header). header_text h) (sym header_is), moved)

  finds : {D : Type 0} (g : Ghosts D) (disk : D) (old new : Option (List ℕ)) (o : Result Conclusion Fault) → (o ≡ Err MirrorLost → ⊥) → Answered (ends_audit kind line content key_name publication_name reply_name q chain_name folder) old new o
      → WritesFindings g disk (IsBrought kind) (ClashIn kind) key_name publication_name reply_name chain_name (Some folder) old new o → FindsTruth g disk (IsBrought kind f.octets) (ClashIn kind p f.octets) key links p (kind.taken_header x) (IsTrue kind g disk p q x) old new o
  finds g disk old new (Ok Done) lost a w = right (over_files (Ok Done) a.0 a.1)
    where
      right : IsEnd p (kind.taken_header x) Truth (Ok Done) a.0 → FindsTruth g disk (IsBrought kind f.octets) (ClashIn kind p f.octets) key links p (kind.taken_header x) (IsTrue kind g disk p q x) old new (Ok Done)
      right (inr (inl e)) = let other : ended Done ≡ ended Evidence = e in absurd (cc)
      right (inr (inr r)) = let other : ended Done ≡ failed OtherPublication = r.outcome in absurd (cc)
      right (inl r) =
          let octets : w.octets ≡ f.octets = same_read w.octets f.octets (octets_at folder reply_name) w.reply_read f.reply_read in
          let header : w.rests.header ≡ header_text p.header = (brings w.octets w.rests.header w.rests.signature octets w.rests.brought).0 ∙ ap (λ (h : Header). header_text h) r.same in (
            record {
              of_map = f.header;
              same = r.same;
              signed = subst (look_everywhere g disk).Signed header w.rests.signed.sealed;
              truth = r.truth;
            },
            subst (λ t. Appends old new t) r.line a.2,
          )
  finds g disk old new (Ok Evidence) lost a w =
      let same : w.key ≡ key = same_read w.key key (public_key_at folder key_name) w.key_read f.key_read in
      let octets : w.octets ≡ f.octets = same_read w.octets f.octets (octets_at folder reply_name) w.reply_read f.reply_read in
      let chain : w.links ≡ links = same_read w.links links (chain_at folder chain_name) w.chain_read f.chain_read in
      let publication : w.publication ≡ p = same_read w.publication p (publication_at folder publication_name) w.publication_read f.publication_read in (
        w.text,
        evidence_by g disk (IsBrought kind w.octets) (IsAcceptedHeader (kind.taken_header x) (IsBrought kind f.octets)) (ClashIn kind w.publication w.octets) (ClashIn kind p f.octets) w.key key w.links links w.text
            (λ header signature. brings w.octets header signature octets)
            (λ left right h. subst (λ (xs : List ℕ). ClashIn kind p xs left right) octets (subst (λ (b : Publication). ClashIn kind b w.octets left right) publication h))
            same chain w.rests,
        w.written,
      )
  finds g disk old new (Ok Refused) lost a w = refused (over_files (Ok Refused) a.0 a.1)
    where
      refused : IsEnd p (kind.taken_header x) Truth (Ok Refused) a.0 → ⊥
      refused (inl r) = let e : ended Refused ≡ ended Done = r.outcome in cc
      refused (inr (inl e)) = let other : ended Refused ≡ ended Evidence = e in cc
      refused (inr (inr r)) = let other : ended Refused ≡ failed OtherPublication = r.outcome in cc
  finds g disk old new (Err OtherPublication) lost a w = other (over_files (Err OtherPublication) [] a)
    where
      other : IsEnd p (kind.taken_header x) Truth (Err OtherPublication) [] → IsOthers g disk p (kind.taken_header x)
      other (inl r) = let e : failed OtherPublication ≡ ended Done = r.outcome in absurd (cc)
      other (inr (inl e)) = let same : failed OtherPublication ≡ ended Evidence = e in absurd (cc)
      other (inr (inr r)) =
          let octets : w.octets ≡ f.octets = same_read w.octets f.octets (octets_at folder reply_name) w.reply_read f.reply_read in
          record {
            other = r.other;
            signed = subst (look_everywhere g disk).Signed (brings w.octets w.rests.header w.rests.signature octets w.rests.brought).0 w.rests.signed.sealed;
          }
  finds g disk old new (Err MirrorLost) lost a w = absurd (lost refl)
  finds g disk old new (Err (Memory _)) lost a w = tt
  finds g disk old new (Err Library) lost a w = tt
  finds g disk old new (Err Sink) lost a w = tt
  finds g disk old new (Err Disk) lost a w = tt
  finds g disk old new (Err (UnknownNode id)) lost a w = absurd (no_fault (UnknownNode id) a.0 (over_files (Err (UnknownNode id)) a.0 a.1) tt)
  finds g disk old new (Err NoRoute) lost a w = absurd (no_fault NoRoute a.0 (over_files (Err NoRoute) a.0 a.1) tt)
  finds g disk old new (Err TruncatedFrame) lost a w = absurd (no_fault TruncatedFrame a.0 (over_files (Err TruncatedFrame) a.0 a.1) tt)
  finds g disk old new (Err FrameTooLong) lost a w = absurd (no_fault FrameTooLong a.0 (over_files (Err FrameTooLong) a.0 a.1) tt)
  finds g disk old new (Err TooManyFrames) lost a w = absurd (no_fault TooManyFrames a.0 (over_files (Err TooManyFrames) a.0 a.1) tt)
  finds g disk old new (Err Source) lost a w = absurd (no_fault Source a.0 (over_files (Err Source) a.0 a.1) tt)
  finds g disk old new (Err fault) lost a w = absurd (no_fault fault [] (over_files (Err fault) [] a) tt)

-- the same, if the library may state its files
pub audits_accepted : {Q A X E : Type 0} (kind : ReplyKind Q A X E) (line : E → List ℕ) → AreReplies kind → OneMaking → {D : Type 0} (g : Ghosts D) (disk : D) (files : Option Folder) (content : Option (List ℕ)) (key publication reply : List ℕ) (q : Q) (chain : Option (List ℕ)) (old new : Option (List ℕ)) (o : Result Conclusion Fault)
    → (o ≡ Err MirrorLost → ⊥) → IfSome files (λ folder. Answered (ends_audit kind line content key publication reply q chain folder) old new o) → WritesFindings g disk (IsBrought kind) (ClashIn kind) key publication reply chain files old new o → AuditsAccepted kind g content disk key publication reply q chain files old new o
audits_accepted kind line laws makings g disk (Some folder) content key publication reply q chain old new o lost a w =
    λ k links p x f. finds kind line laws makings content folder key publication reply q chain k links p x f g disk old new o lost a w
audits_accepted kind line laws makings g disk None content key publication reply q chain old new o lost a w = tt
