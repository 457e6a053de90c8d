-- How the command ends for the result of an audit.
use Rattle.std.proofs.Common.{◌≡◌, inl, inr, ℕ, ◌≤◌, true, List, [], Some, refl, subst, ◌∙◌, IfSome, arith}
use Rattle.std.specs.declared.option.Option.{Option}
use Rattle.std.specs.declared.option.Option.TheVariants.{None}
use Rattle.std.specs.declared.result.Result.{Result}
use Rattle.std.specs.declared.result.Result.TheVariants.{Ok, Err}
use Rattle.std.specs.Option.{ForSome}
use Rattle.road_io.specs.Causes.{Rose}
use Rattle.sha2.specs.Sha256.{sha256}
use Rattle.road_io.specs.declared.disk.Disk.{Ghosts}
use Rattle.road_io.specs.Disk.{Stays}
use Rattle.road_io.specs.Moments.{Image, AtEachMoment, still_told}
use Rattle.road_io.specs.Contents.{Folder}
use Rattle.lms_tree.specs.declared.links.Link.{Link}
use Rattle.desk_areas.specs.Faults.{IsUsable}
use Rattle.desk_areas.specs.Layout.{SlotId, IsSigned}
use Rattle.key_desk.specs.Desk.{Fits}
use Rattle.key_desk.specs.declared.desk.Desk.{Desk}
use Rattle.key_desk.specs.declared.desk.DeskError.{DeskError}
use Rattle.key_desk.specs.declared.desk.DeskError.TheVariants.{KeysUsedUp, DiskFault, Closed}
use Rattle.desk_look.specs.Forgeries.{AreSigned, Forges, forgery}
use Rattle.desk_look.specs.Looks.{IsKeyFrom, LookFails, look_at}
use Rattle.desk_look.specs.declared.forgery.Forgery.{Forgery}
use Rattle.proof_octets.specs.declared.publication.Publication.{Publication}
use Rattle.proof_octets.specs.Headers.{header_text}
use Rattle.route_server.specs.declared.errors.BuildError.TheVariants as build
use Rattle.route_server.specs.declared.errors.InstallError.TheVariants as install
use Rattle.route_audit.specs.Kinds.{AreReplies, ReplyKind}
use Rattle.route_audit.specs.Findings.{Finds, IsInstalled}
use Rattle.route_audit.proofs.FindingLemmas.{at}
use Rattle.route_audit.specs.declared.errors.AuditError.{AuditError}
use Rattle.route_audit.specs.declared.errors.AuditError.TheVariants as audit
use Rattle.route_audit.specs.declared.finding.Finding.{Finding}
use Rattle.route_audit.specs.declared.finding.Finding.TheVariants.{Right, Collision, Forged}
use Rattle.command_files.specs.Reading.{octets_at, publication_at, chain_at}
use Rattle.command_files.specs.HexFiles.{public_key_at}
use Rattle.command_files.specs.Endings.{Ending, EndsReading, NoEnd, Promises, TellsNone, MayEnd, WhyNot, Writes}
use Rattle.command_files.specs.declared.fault.Fault.{Fault}
use Rattle.command_files.specs.declared.fault.Fault.TheVariants.{OtherPublication}
use Rattle.command_files.specs.declared.ended.Conclusion.{Conclusion}
use Rattle.command_files.specs.declared.ended.Conclusion.TheVariants.{Done, Refused, Evidence}
use Rattle.command_files.proofs.Written.{CallsFor, reads, refused, written, why_map}
use Rattle.command_desks.specs.Opening.{HasBlocks, EndsOpening}
use Rattle.command_desks.proofs.Openings.{shut}
use Rattle.command_books.specs.Installing.{EndsInstalling}
use Rattle.audit_commands.specs.Auditing.{EndsOwnersKey, EndsClient, EndsSigned, EndsSameHeader, EndsComparing, EndsAudit, Tells, LookFailed, ends_audit}
use Rattle.audit_commands.specs.Owners.{IsOwnersKey, look_in, look_everywhere}
use Rattle.audit_commands.specs.Headline.{AreAllSigned, ClashIn, IsBrought, RestsOn}
use Rattle.audit_commands.proofs.Steps.{own, own_in, not_own, signed_more, forges_more, later}

-- the steps after the test of the owner's key
abbrev pub Behind : {Q A X E : Type 0} → ReplyKind Q A X E → (E → List ℕ) → Option (List ℕ) → List ℕ → List Link → List ℕ → Q → Publication → Ending
Behind kind line content key links octets q p =
    EndsClient kind line key links octets q (λ x a. EndsInstalling p (EndsSigned content key links (kind.header a) (kind.signature a) (EndsSameHeader p (kind.header a) (EndsComparing kind p q x a))))

module _ {D : Type 0} (g : Ghosts D) (old mid new : D) (desk : Desk) (seen : (c : List ℕ) → still_told g old new ≡ Some c → Image g new c) (blocks : HasBlocks (still_told g old new) desk) (fits : Fits g desk mid) where
  -- ---- what the desk implies, about the content that the disk still states

  module _ (c : List ℕ) (is : still_told g old new ≡ Some c) where
    owns_in : (key : List ℕ) → (look_at g desk mid new).Owns key → (look_in c).Owns key
    owns_in key h = own_in desk c fits.sound (blocks c is).1 key h

    signs_in : (text : List ℕ) → (look_at g desk mid new).Signed text → (look_in c).Signed text
    signs_in text h = (h.1.0, h.1.1 c (seen c is))

    lacks_in : (text : List ℕ) → (look_at g desk mid new).Unsigned text → (look_in c).Unsigned text
    lacks_in text h = h.1 c (seen c is)

  signed_read : (links : List Link) (header : List ℕ) → AreSigned (look_at g desk mid new) links header → ForSome (still_told g old new) (λ c. AreSigned (look_in c) links header)
  signed_read links header h c is = signed_more (look_at g desk mid new) (look_in c) (owns_in c is) (signs_in c is) (lacks_in c is) links header h

  forges_read : (key : List ℕ) (links : List Link) (header signature : List ℕ) (f : Forgery) → Forges (look_at g desk mid new) key links header signature f → ForSome (still_told g old new) (λ c. Forges (look_in c) key links header signature f)
  forges_read key links header signature f h c is = forges_more (look_at g desk mid new) (look_in c) (owns_in c is) (signs_in c is) (lacks_in c is) key links header signature f h

  -- ---- and about every image

  module _ (m : AtEachMoment g mid new Stays) where
    owns_all : (key : List ℕ) → (look_at g desk mid new).Owns key → (look_everywhere g new).Owns key
    owns_all key h = later g mid new (λ i. IsOwnersKey i key) m (λ i now. own_in desk i fits.sound (fits.areas i now) key h)

    signs_all : (text : List ℕ) → (look_at g desk mid new).Signed text → (look_everywhere g new).Signed text
    signs_all text h = h.1

    lacks_all : (text : List ℕ) → (look_at g desk mid new).Unsigned text → (look_everywhere g new).Unsigned text
    lacks_all text h = h.1

    signed_all : (links : List Link) (header : List ℕ) → AreSigned (look_at g desk mid new) links header → AreSigned (look_everywhere g new) links header
    signed_all links header h = signed_more (look_at g desk mid new) (look_everywhere g new) owns_all signs_all lacks_all links header h

    forges_all : (key : List ℕ) (links : List Link) (header signature : List ℕ) (f : Forgery) → Forges (look_at g desk mid new) key links header signature f → Forges (look_everywhere g new) key links header signature f
    forges_all key links header signature f h = forges_more (look_at g desk mid new) (look_everywhere g new) owns_all signs_all lacks_all key links header signature f h

  -- ---- the report of an answer

  module _ {Q A X E : Type 0} (kind : ReplyKind Q A X E) (line : E → List ℕ) (laws : AreReplies kind) (key : List ℕ) (links : List Link) (octets : List ℕ) (q : Q) (p : Publication) where
    -- the finding
    abbrev IsFound : Result Finding (AuditError E) → Type 0
    IsFound r = Finds kind sha256 sha256 (look_at g desk mid new) (at key links octets q p) r

    -- after the test of the owner's key
    behind : IsKeyFrom desk 0 key → (o : Result Conclusion Fault) (t : List ℕ) → Behind kind line (still_told g old new) key links octets q p o t
        → EndsOwnersKey (still_told g old new) key (Behind kind line (still_told g old new) key links octets q p) o t
    behind own_key o t h = inr (own (still_told g old new) desk key blocks fits.sound own_key, h)

    -- after the install
    behind_installed : (i : IsInstalled kind sha256 sha256 (look_at g desk mid new) (at key links octets q p)) → (o : Result Conclusion Fault) (t : List ℕ)
        → EndsSigned (still_told g old new) key links (kind.header i.reply.answer) (kind.signature i.reply.answer) (EndsSameHeader p (kind.header i.reply.answer) (EndsComparing kind p q i.reply.taken i.reply.answer)) o t
        → EndsOwnersKey (still_told g old new) key (Behind kind line (still_told g old new) key links octets q p) o t
    behind_installed i o t h = behind i.reply.own o t (inr (i.reply.taken, i.reply.answer, i.reply.accepts, record { made = Ok p.header; makes = i.header; follows = inl (refl, h) }))

    by_answer : (r : Result Finding (AuditError E)) (o : Result Conclusion Fault) (t : List ℕ) → IsFound r → Tells line r o t → EndsOwnersKey (still_told g old new) key (Behind kind line (still_told g old new) key links octets q p) o t
    by_answer (Err audit.OtherKey) o t f tells = inl (tells.0, not_own (still_told g old new) desk key blocks fits.sound f, tells.1)
    by_answer (Err (audit.Refused e)) o t f tells = behind f.0 o t (inl (e, f.1, tells.0, tells.1))
    by_answer (Err (audit.Install (install.Build (build.Map e)))) o t f tells =
        behind f.0.own o t (inr (f.0.taken, f.0.answer, f.0.accepts, record { made = Err (build.Map e); makes = f.1.0; follows = tells }))
    by_answer (Err (audit.Install (install.Build (build.Plan e)))) o t f tells =
        behind f.0.own o t (inr (f.0.taken, f.0.answer, f.0.accepts, record { made = Err (build.Plan e); makes = f.1.0; follows = tells }))
    by_answer (Err (audit.Install (install.Build (build.Memory _)))) o t f tells = absurd tells
    by_answer (Err (audit.Install install.HeaderWrong)) o t f tells =
        behind f.0.own o t (inr (f.0.taken, f.0.answer, f.0.accepts, record { made = Ok f.1.0; makes = f.1.1; follows = inr (f.1.2, tells.0, tells.1) }))
    by_answer (Err (audit.Install (install.Memory _))) o t f tells = absurd tells
    by_answer (Err (audit.Desk e)) o t f tells = absurd tells
    by_answer (Err (audit.Memory _)) o t f tells = absurd tells
    by_answer (Ok (Forged own_key text signature)) o t f tells =
        behind_installed f.installed o t (inl (tells.0, forgery own_key text signature, forges_read key links (header_text (kind.header f.installed.reply.answer)) (kind.signature f.installed.reply.answer) (forgery own_key text signature) f.forges, tells.1))
    by_answer (Err audit.OtherPublication) o t f tells = behind_installed f.installed o t (inr (signed_read links _ f.signed, inl (tells.0, f.other, tells.1)))
    by_answer (Ok (Collision left right)) o t f tells = behind_installed f.0.installed o t (inr (signed_read links _ f.0.signed, inr (f.0.same, inr (tells.0, record { left = left; right = right }, f.1, tells.1))))
    by_answer (Ok Right) o t f tells = behind_installed f.0.installed o t (inr (signed_read links _ f.0.signed, inr (f.0.same, inl (tells.0, f.1, tells.1))))

    -- after the desk was opened
    pub ends_of : ForSome (still_told g old new) IsUsable → (r : Result Finding (AuditError E)) (o : Result Conclusion Fault) (t : List ℕ) → IsFound r → Tells line r o t → EndsAudit kind line (still_told g old new) key links p octets q o t
    ends_of usable r o t f tells = inr (inr (usable, by_answer r o t f tells))

    -- the reason why nothing was written
    pub why_not : (DiskFailed : Type 0) → ForSome (still_told g old new) IsUsable → (r : Result Finding (AuditError E)) → (LookFailed r → DiskFailed) → (f : Fault) → IsFound r
        → WhyNot (LookFailed r) (Tells line r) f → WhyNot DiskFailed (EndsAudit kind line (still_told g old new) key links p octets q) f
    why_not DiskFailed usable r failed f finds =
        why_map (LookFailed r) DiskFailed (Tells line r) (EndsAudit kind line (still_told g old new) key links p octets q) failed (λ o t tells. ends_of usable r o t finds tells) f

    -- looking up the texts fails only if the disk's failure count rose
    pub look_failed : desk.is_open ≡ true → g.faults old ≤ g.faults mid → (r : Result Finding (AuditError E)) → IsFound r → LookFailed r → Rose (g.faults old) (g.faults new)
    look_failed opened later r f why = by why.0 (subst IsFound why.1 f).1
      where
        by : (e : DeskError) → LookFails g desk mid new e → Rose (g.faults old) (g.faults new)
        by KeysUsedUp h = absurd h
        by DiskFault h = grind (arith, h.1, later)
        by Closed h = absurd (cc)

    -- the accepted answer has its header
    all_signed : AtEachMoment g mid new Stays → (i : IsInstalled kind sha256 sha256 (look_at g desk mid new) (at key links octets q p)) → AreSigned (look_at g desk mid new) links (header_text (kind.header i.reply.answer))
        → AreAllSigned g new (IsBrought kind octets) links
    all_signed m i signed = record {
      header = header_text (kind.header i.reply.answer);
      signature = kind.signature i.reply.answer;
      brought = record { answer = i.reply.answer; spelled = laws.spelled sha256 key links octets q 0 i.reply.taken i.reply.answer i.reply.accepts; header_is = refl; signature_is = refl };
      signed = signed_all m links (header_text (kind.header i.reply.answer)) signed;
    }

    -- the support of a line
    pub rests_on : AtEachMoment g mid new Stays → (r : Result Finding (AuditError E)) (o : Result Conclusion Fault) (t : List ℕ) → IsFound r → Tells line r o t → RestsOn g new (IsBrought kind octets) (ClashIn kind p octets) key links o t
    rests_on m r (Ok Refused) t f tells = tt
    rests_on m (Err audit.OtherPublication) (Err OtherPublication) t f tells = all_signed m f.installed f.signed
    rests_on m (Ok Right) (Err OtherPublication) t f tells = absurd (cc)
    rests_on m (Ok (Collision left right)) (Err OtherPublication) t f tells = absurd (cc)
    rests_on m (Ok (Forged own_key text signature)) (Err OtherPublication) t f tells = absurd (cc)
    rests_on m (Err (audit.Refused e)) (Err OtherPublication) t f tells = absurd (cc)
    rests_on m (Err audit.OtherKey) (Err OtherPublication) t f tells = absurd (cc)
    rests_on m (Err (audit.Memory _)) (Err OtherPublication) t f tells = absurd tells
    rests_on m (Err (audit.Desk e)) (Err OtherPublication) t f tells = absurd tells
    rests_on m (Err (audit.Install (install.Build (build.Map e)))) (Err OtherPublication) t f tells = absurd (cc)
    rests_on m (Err (audit.Install (install.Build (build.Plan e)))) (Err OtherPublication) t f tells = absurd (cc)
    rests_on m (Err (audit.Install (install.Build (build.Memory _)))) (Err OtherPublication) t f tells = absurd tells
    rests_on m (Err (audit.Install install.HeaderWrong)) (Err OtherPublication) t f tells = absurd (cc)
    rests_on m (Err (audit.Install (install.Memory _))) (Err OtherPublication) t f tells = absurd tells
    rests_on m r (Err e) t f tells = tt
    rests_on m (Ok Right) (Ok Done) t f tells = all_signed m f.0.installed f.0.signed
    rests_on m (Ok (Collision left right)) (Ok Done) t f tells = absurd (cc)
    rests_on m (Ok (Forged own_key text signature)) (Ok Done) t f tells = absurd (cc)
    rests_on m (Ok Right) (Ok Evidence) t f tells = absurd (cc)
    rests_on m (Ok (Collision left right)) (Ok Evidence) t f tells =
        inl (record { left = left; right = right; collide = laws.collision sha256 sha256 p f.0.installed.reply.answer (record { left = left; right = right }) f.1; hashed = record { answer = f.0.installed.reply.answer; spelled = laws.spelled sha256 key links octets q 0 f.0.installed.reply.taken f.0.installed.reply.answer f.0.installed.reply.accepts; collides = f.1 }; line = tells.1 })
    rests_on m (Ok (Forged own_key text signature)) (Ok Evidence) t f tells =
        let i = f.installed in
        inr (record {
          header = header_text (kind.header i.reply.answer);
          signature = kind.signature i.reply.answer;
          brought = record { answer = i.reply.answer; spelled = laws.spelled sha256 key links octets q 0 i.reply.taken i.reply.answer i.reply.accepts; header_is = refl; signature_is = refl };
          forgery = forgery own_key text signature;
          forges = forges_all m key links (header_text (kind.header i.reply.answer)) (kind.signature i.reply.answer) (forgery own_key text signature) f.forges;
          line = tells.1;
        })
    rests_on m (Err (audit.Refused e)) (Ok Done) t f tells = absurd (cc)
    rests_on m (Err (audit.Refused e)) (Ok Evidence) t f tells = absurd (cc)
    rests_on m (Err audit.OtherKey) (Ok Done) t f tells = absurd (cc)
    rests_on m (Err audit.OtherKey) (Ok Evidence) t f tells = absurd (cc)
    rests_on m (Err audit.OtherPublication) (Ok Done) t f tells = absurd (cc)
    rests_on m (Err audit.OtherPublication) (Ok Evidence) t f tells = absurd (cc)
    rests_on m (Err (audit.Memory _)) (Ok Done) t f tells = absurd tells
    rests_on m (Err (audit.Memory _)) (Ok Evidence) t f tells = absurd tells
    rests_on m (Err (audit.Desk e)) (Ok Done) t f tells = absurd tells
    rests_on m (Err (audit.Desk e)) (Ok Evidence) t f tells = absurd tells
    rests_on m (Err (audit.Install (install.Build (build.Map e)))) (Ok Done) t f tells = absurd (cc)
    rests_on m (Err (audit.Install (install.Build (build.Map e)))) (Ok Evidence) t f tells = absurd (cc)
    rests_on m (Err (audit.Install (install.Build (build.Plan e)))) (Ok Done) t f tells = absurd (cc)
    rests_on m (Err (audit.Install (install.Build (build.Plan e)))) (Ok Evidence) t f tells = absurd (cc)
    rests_on m (Err (audit.Install (install.Build (build.Memory _)))) (Ok Done) t f tells = absurd tells
    rests_on m (Err (audit.Install (install.Build (build.Memory _)))) (Ok Evidence) t f tells = absurd tells
    rests_on m (Err (audit.Install install.HeaderWrong)) (Ok Done) t f tells = absurd (cc)
    rests_on m (Err (audit.Install install.HeaderWrong)) (Ok Evidence) t f tells = absurd (cc)
    rests_on m (Err (audit.Install (install.Memory _))) (Ok Done) t f tells = absurd tells
    rests_on m (Err (audit.Install (install.Memory _))) (Ok Evidence) t f tells = absurd tells

    -- and of a fault
    pub rests_otherwise : AtEachMoment g mid new Stays → (r : Result Finding (AuditError E)) (f : Fault) → IsFound r → WhyNot (LookFailed r) (Tells line r) f → RestsOn g new (IsBrought kind octets) (ClashIn kind p octets) key links (Err f) []
    rests_otherwise m r OtherPublication finds why = rests_on m r (Err OtherPublication) [] finds why
    rests_otherwise m r f finds why = tt

-- if the desk does not open, nothing has to be supported
pub not_opened_rests : {D : Type 0} (g : Ghosts D) (disk : D) (Brings Hashed : List ℕ → List ℕ → Type 0) (DiskFailed : Type 0) (content : Option (List ℕ)) (key : List ℕ) (links : List Link) (f : Fault) → WhyNot DiskFailed (EndsOpening content NoEnd) f → RestsOn g disk Brings Hashed key links (Err f) []
not_opened_rests g disk Brings Hashed DiskFailed content key links OtherPublication (inl h) = absurd (cc)
not_opened_rests g disk Brings Hashed DiskFailed content key links OtherPublication (inr (inl h)) = absurd (cc)
not_opened_rests g disk Brings Hashed DiskFailed content key links OtherPublication (inr (inr h)) = absurd h.1
not_opened_rests g disk Brings Hashed DiskFailed content key links f h = tt

module _ {Q A X E : Type 0} (kind : ReplyKind Q A X E) (line : E → List ℕ) where
  -- a desk that does not open
  pub not_opened : (DiskFailed : Type 0) (content : Option (List ℕ)) (key : List ℕ) (links : List Link) (p : Publication) (octets : List ℕ) (q : Q) (f : Fault) → WhyNot DiskFailed (EndsOpening content NoEnd) f → WhyNot DiskFailed (EndsAudit kind line content key links p octets q) f
  not_opened DiskFailed content key links p octets q =
      why_map DiskFailed DiskFailed (EndsOpening content NoEnd) (EndsAudit kind line content key links p octets q) (λ x. x) (shut content (EndsOwnersKey content key (Behind kind line content key links octets q p)))

  -- ---- the command

  -- an end, in terms of four files
  module _ (files : Option Folder) (content : Option (List ℕ)) (key_name publication_name reply_name : List ℕ) (chain_name : Option (List ℕ)) (key octets : List ℕ) (links : List Link) (p : Publication) (q : Q)
      (key_read : IfSome files (λ folder. public_key_at folder key_name ≡ Ok key)) (publication_read : IfSome files (λ folder. publication_at folder publication_name ≡ Ok p)) (reply_read : IfSome files (λ folder. octets_at folder reply_name ≡ Ok octets))
      (chain_read : IfSome files (λ folder. chain_at folder chain_name ≡ Ok links)) where
    by_shelf : (folder : Folder) → public_key_at folder key_name ≡ Ok key → publication_at folder publication_name ≡ Ok p → octets_at folder reply_name ≡ Ok octets → chain_at folder chain_name ≡ Ok links
        → (o : Result Conclusion Fault) (t : List ℕ) → EndsAudit kind line content key links p octets q o t → ends_audit kind line content key_name publication_name reply_name q chain_name folder o t
    by_shelf folder is_key is_publication is_reply is_chain o t h =
        reads (public_key_at folder key_name) key (λ k. EndsReading (publication_at folder publication_name) (λ b. EndsReading (octets_at folder reply_name) (λ xs. EndsReading (chain_at folder chain_name) (λ ls. EndsAudit kind line content k ls b xs q)))) o t is_key
        (reads (publication_at folder publication_name) p (λ b. EndsReading (octets_at folder reply_name) (λ xs. EndsReading (chain_at folder chain_name) (λ ls. EndsAudit kind line content key ls b xs q))) o t is_publication
        (reads (octets_at folder reply_name) octets (λ xs. EndsReading (chain_at folder chain_name) (λ ls. EndsAudit kind line content key ls p xs q)) o t is_reply
        (reads (chain_at folder chain_name) links (λ ls. EndsAudit kind line content key ls p octets q) o t is_chain h)))

    calls : (o : Result Conclusion Fault) (t : List ℕ) → EndsAudit kind line content key links p octets q o t → CallsFor (ends_audit kind line content key_name publication_name reply_name q chain_name) files o t
    calls o t h = by files key_read publication_read reply_read chain_read
      where
        by : (files : Option Folder) → IfSome files (λ folder. public_key_at folder key_name ≡ Ok key) → IfSome files (λ folder. publication_at folder publication_name ≡ Ok p) → IfSome files (λ folder. octets_at folder reply_name ≡ Ok octets) → IfSome files (λ folder. chain_at folder chain_name ≡ Ok links)
            → IfSome files (λ folder. ends_audit kind line content key_name publication_name reply_name q chain_name folder o t)
        by None a b c d = tt
        by (Some folder) a b c d = by_shelf folder a b c d o t h

    module _ (DiskFailed : Type 0) (l l' k k' : ℕ) (old : Option (List ℕ)) where
      -- an audit that wrote nothing
      pub audit_refused : (f : Fault) → WhyNot DiskFailed (EndsAudit kind line content key links p octets q) f → Promises (ends_audit kind line content key_name publication_name reply_name q chain_name) TellsNone DiskFailed files l l' old old k k' (Err f)
      audit_refused f h = refused (ends_audit kind line content key_name publication_name reply_name q chain_name) TellsNone DiskFailed files l l' k k' old (EndsAudit kind line content key links p octets q) calls f h

      -- a line that was returned
      pub audit_told : (new : Option (List ℕ)) (end o : Result Conclusion Fault) (text : List ℕ) → MayEnd TellsNone end → EndsAudit kind line content key links p octets q end text → Writes end text old new k k' o
          → Promises (ends_audit kind line content key_name publication_name reply_name q chain_name) TellsNone DiskFailed files l l' old new k k' o
      audit_told new end o text may h w = written (ends_audit kind line content key_name publication_name reply_name q chain_name) TellsNone DiskFailed files l l' k k' old (EndsAudit kind line content key links p octets q) calls new end o text may h w
