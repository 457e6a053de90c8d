-- The files, desks and replies of honest parties, and of others: where a client or an audit has to accept them.
use Rattle.std.proofs.Common.{◌≡◌, ℕ, List, [], ◌∷◌, ◌++◌, refl, sym, subst, ◌∙◌, arith}
use Rattle.std.specs.declared.option.Option.{Option}
use Rattle.std.specs.declared.option.Option.TheVariants.{None, Some}
use Rattle.std.specs.declared.result.Result.{Result}
use Rattle.std.specs.declared.result.Result.TheVariants.{Ok, Err}
use Rattle.sha2.specs.Sha256.{sha256}
use Rattle.octet_text.specs.Format.{whole}
use Rattle.road_io.specs.Contents.{Folder}
use Rattle.road_map.proofs.Among.{Contains-here}
use Rattle.book_model.specs.declared.items.Query.{Query}
use Rattle.proof_octets.specs.declared.publication.Publication.{Publication}
use Rattle.proof_octets.specs.declared.near_reply.NearReply.{NearReply}
use Rattle.proof_octets.specs.declared.query.NearQuery.{NearQuery}
use Rattle.proof_octets.specs.declared.reply.Answer.{Answer}
use Rattle.proof_octets.specs.declared.reply.Reply.{Reply}
use Rattle.proof_octets.specs.declared.reply.Reply.TheVariants as replies
use Rattle.proof_octets.specs.Headers.{header_text}
use Rattle.proof_octets.specs.Replies.{reply as reply_format}
use Rattle.proof_octets.specs.NearReplies.{near_reply}
use Rattle.lms_tree.specs.declared.links.Link.{Link}
use Rattle.desk_areas.specs.Faults.{IsUsable}
use Rattle.desk_areas.specs.Layout.{SlotId, IsSigned}
use Rattle.route_server.specs.Honesty.{IsHonest}
use Rattle.route_server.specs.NearHonesty.{IsNearHonest}
use Rattle.route_client.specs.declared.accepted.Checked.{Checked}
use Rattle.route_client.specs.declared.accepted.Checked.TheVariants.{Route, Apart}
use Rattle.route_client.specs.declared.errors.CheckError.{CheckError}
use Rattle.route_client.specs.declared.errors.CheckError.TheVariants.{NotAnswer, Malformed}
use Rattle.route_client.specs.Verdicts.{Accepts, IsVerdict, passed}
use Rattle.near_proof.specs.Honest.{AnswersAreAccepted, AreKnown, IsSigned as IsSignedBy, Leads}
use Rattle.near_proof.specs.NearLaws as near
use Rattle.road_command.specs.Requests.{Prove, Reach, Check, Audit, CheckReach, AuditReach}
use Rattle.command_files.specs.Reading.{octets_at, chain_at, publication_at}
use Rattle.command_files.specs.HexFiles.{public_key_at}
use Rattle.command_files.specs.declared.fault.Fault.{Fault}
use Rattle.command_files.specs.declared.fault.Fault.TheVariants.{Missing, UnknownNode}
use Rattle.command_files.specs.declared.ended.Conclusion.TheVariants.{Done, Refused, Evidence}
use Rattle.audit_commands.specs.Owners.{IsOwnersKey}
use Rattle.road_run.specs.Accepting.{IsHonestFile, IsHonestReach, AcceptsHonest, IsOwnersDesk, IsHonestAudit, IsHonestReachAudit, FindsHonest, IsTaken, IsNoAnswer, IsNearTaken, WritesReply, WritesNearReply, RepliesAreTaken}
use Rattle.road_run.specs.Commands.{no_files}

missing_is_no_value : {X : Type 0} (x : X) → ◌≡◌ {A = Result X Fault} (Err Missing) (Ok x) → ⊥
missing_is_no_value x e = cc

-- ---- files

module _ (folder : Folder) (key_name reply_name : List ℕ) (p : Publication) (key octets : List ℕ) (key_read : public_key_at folder key_name ≡ Ok key) (reply_read : octets_at folder reply_name ≡ Ok octets) (signed : IsSignedBy sha256 sha256 key p) where
  -- files of the key that signed a publication, and of an honest reply over it, for a client without a chain that asks for
  -- exactly its version
  honest_files : (q : Query) → AreKnown p.parts q → IsHonest sha256 sha256 p q octets → IsHonestFile folder key_name reply_name q p.header.version None p
  honest_files q known honest = record {
    key = key;
    octets = octets;
    links = [];
    signer = key;
    key_read = key_read;
    reply_read = reply_read;
    chain_read = refl;
    signed = signed;
    leads = record { chain = refl; among = Contains-here key [] };
    fresh = omega arith;
    known = known;
    honest = honest;
  }

  honest_reach_files : (q : NearQuery) → IsNearHonest sha256 sha256 p q octets → IsHonestReach folder key_name reply_name q p.header.version None p
  honest_reach_files q honest = record {
    key = key;
    octets = octets;
    links = [];
    signer = key;
    key_read = key_read;
    reply_read = reply_read;
    chain_read = refl;
    signed = signed;
    leads = record { chain = refl; among = Contains-here key [] };
    fresh = omega arith;
    honest = honest;
  }

-- what honest files must be: each reason why they are not
module _ (folder : Folder) (key_name reply_name : List ℕ) (least : ℕ) (chain : Option (List ℕ)) (p : Publication) where
  abbrev IsHonestTo : Query → Type 0
  IsHonestTo q = IsHonestFile folder key_name reply_name q least chain p

  abbrev IsHonestNear : NearQuery → Type 0
  IsHonestNear q = IsHonestReach folder key_name reply_name q least chain p

  module _ (q : Query) where
    missing_reply : octets_at folder reply_name ≡ Err Missing → IsHonestTo q → ⊥
    missing_reply none file = missing_is_no_value file.octets (sym none ∙ file.reply_read)

    missing_chain : chain_at folder chain ≡ Err Missing → IsHonestTo q → ⊥
    missing_chain none file = missing_is_no_value file.links (sym none ∙ file.chain_read)

    unsigned : ((signer : List ℕ) → IsSignedBy sha256 sha256 signer p → ⊥) → IsHonestTo q → ⊥
    unsigned none file = none file.signer file.signed

    unled : ((key signer : List ℕ) (links : List Link) → Leads key links signer → ⊥) → IsHonestTo q → ⊥
    unled none file = none file.key file.signer file.links file.leads

    unknown_end : (AreKnown p.parts q → ⊥) → IsHonestTo q → ⊥
    unknown_end none file = none file.known

    dishonest : ((octets : List ℕ) → IsHonest sha256 sha256 p q octets → ⊥) → IsHonestTo q → ⊥
    dishonest none file = none file.octets file.honest

  module _ (q : NearQuery) where
    missing_near_reply : octets_at folder reply_name ≡ Err Missing → IsHonestNear q → ⊥
    missing_near_reply none file = missing_is_no_value file.octets (sym none ∙ file.reply_read)

    missing_near_chain : chain_at folder chain ≡ Err Missing → IsHonestNear q → ⊥
    missing_near_chain none file = missing_is_no_value file.links (sym none ∙ file.chain_read)

    unsigned_near : ((signer : List ℕ) → IsSignedBy sha256 sha256 signer p → ⊥) → IsHonestNear q → ⊥
    unsigned_near none file = none file.signer file.signed

    unled_near : ((key signer : List ℕ) (links : List Link) → Leads key links signer → ⊥) → IsHonestNear q → ⊥
    unled_near none file = none file.key file.signer file.links file.leads

    dishonest_near : ((octets : List ℕ) → IsNearHonest sha256 sha256 p q octets → ⊥) → IsHonestNear q → ⊥
    dishonest_near none file = none file.octets file.honest

-- files that are missing are not honest, so nothing has to be accepted of them
missing_is_not_honest : (key reply : List ℕ) (q : Query) (least : ℕ) (chain : Option (List ℕ)) (p : Publication) → IsHonestFile no_files key reply q least chain p → ⊥
missing_is_not_honest key reply q least chain p file = missing_is_no_value file.key file.key_read

missing_reach_is_not_honest : (key reply : List ℕ) (q : NearQuery) (least : ℕ) (chain : Option (List ℕ)) (p : Publication) → IsHonestReach no_files key reply q least chain p → ⊥
missing_reach_is_not_honest key reply q least chain p file = missing_is_no_value file.key file.key_read

missing_may_be_refused : (key reply : List ℕ) (q : Query) (least : ℕ) (chain old new : Option (List ℕ)) → AcceptsHonest (Check key reply q least chain) (Some no_files) old new (Ok Refused)
missing_may_be_refused key reply q least chain old new p file = absurd (missing_is_not_honest key reply q least chain p file)

missing_reach_may_be_refused : (key reply : List ℕ) (q : NearQuery) (least : ℕ) (chain old new : Option (List ℕ)) → AcceptsHonest (CheckReach key reply q least chain) (Some no_files) old new (Ok Refused)
missing_reach_may_be_refused key reply q least chain old new p file = absurd (missing_reach_is_not_honest key reply q least chain p file)

-- ---- desks

module _ (image key : List ℕ) (p : Publication) (usable : IsUsable image) (owners : IsOwnersKey image key) where
  -- a desk with the client's key that has signed the header in one of its slots
  owners_desk : (slot : SlotId) → IsSigned image slot (header_text p.header) → IsOwnersDesk (Some image) key [] p
  owners_desk slot signed = record { image = image; told = refl; usable = usable; owners = owners; signed = record { linked = λ number known. absurd (omega (arith, known)); sealed = (slot, signed) } }

  -- one that has signed it in none is not
  unsigned_desk : ((slot : SlotId) → IsSigned image slot (header_text p.header) → ⊥) → IsOwnersDesk (Some image) key [] p → ⊥
  unsigned_desk none desk = at desk.image desk.told desk.signed.sealed.0 desk.signed.sealed.1
    where
      at : (other : List ℕ) → Some image ≡ Some other → (slot : SlotId) → IsSigned other slot (header_text p.header) → ⊥
      at other told slot signed = none slot (subst (λ (i : List ℕ). IsSigned i slot (header_text p.header)) (sym (same other told)) signed)
        where
          same : (other : List ℕ) → Some image ≡ Some other → image ≡ other
          same other told = cc

-- a desk that cannot be used, or without the client's key, is not the owner's
unusable_desk : (image key : List ℕ) (links : List Link) (p : Publication) → ((i : List ℕ) → IsUsable i → ⊥) → IsOwnersDesk (Some image) key links p → ⊥
unusable_desk image key links p none desk = none desk.image desk.usable

strange_key : (image key : List ℕ) (links : List Link) (p : Publication) → ((i : List ℕ) → IsOwnersKey i key → ⊥) → IsOwnersDesk (Some image) key links p → ⊥
strange_key image key links p none desk = none desk.image desk.owners

-- an audit of honest files, over the publication's own file and desk
honest_audit : (content : Option (List ℕ)) (folder : Folder) (key publication reply : List ℕ) (q : Query) (chain : Option (List ℕ)) (p : Publication) (file : IsHonestFile folder key reply q 0 chain p) → publication_at folder publication ≡ Ok p
    → IsOwnersDesk content file.key file.links p → IsHonestAudit content folder key publication reply q chain p
honest_audit content folder key publication reply q chain p file read desk = record { file = file; publication_read = read; desk = desk }

honest_reach_audit : (content : Option (List ℕ)) (folder : Folder) (key publication reply : List ℕ) (q : NearQuery) (chain : Option (List ℕ)) (p : Publication) (file : IsHonestReach folder key reply q 0 chain p) → publication_at folder publication ≡ Ok p
    → IsOwnersDesk content file.key file.links p → IsHonestReachAudit content folder key publication reply q chain p
honest_reach_audit content folder key publication reply q chain p file read desk = record { file = file; publication_read = read; desk = desk }

-- of missing files, or of a desk that is not known, an audit may find evidence
untold_desk : (image : List ℕ) → None ≡ Some image → ⊥
untold_desk image told = cc

missing_is_no_audit : (content : Option (List ℕ)) (key publication reply : List ℕ) (q : Query) (chain : Option (List ℕ)) (p : Publication) → IsHonestAudit content no_files key publication reply q chain p → ⊥
missing_is_no_audit content key publication reply q chain p audit = missing_is_no_value p audit.publication_read

missing_is_no_reach_audit : (content : Option (List ℕ)) (key publication reply : List ℕ) (q : NearQuery) (chain : Option (List ℕ)) (p : Publication) → IsHonestReachAudit content no_files key publication reply q chain p → ⊥
missing_is_no_reach_audit content key publication reply q chain p audit = missing_is_no_value p audit.publication_read

unknown_desk_is_no_audit : (folder : Folder) (key publication reply : List ℕ) (q : Query) (chain : Option (List ℕ)) (p : Publication) → IsHonestAudit None folder key publication reply q chain p → ⊥
unknown_desk_is_no_audit folder key publication reply q chain p audit = untold_desk audit.desk.image audit.desk.told

dishonest_audit : (content : Option (List ℕ)) (folder : Folder) (key publication reply : List ℕ) (q : Query) (chain : Option (List ℕ)) (p : Publication) → (IsHonestFile folder key reply q 0 chain p → ⊥) → IsHonestAudit content folder key publication reply q chain p → ⊥
dishonest_audit content folder key publication reply q chain p none audit = none audit.file

dishonest_reach_audit : (content : Option (List ℕ)) (folder : Folder) (key publication reply : List ℕ) (q : NearQuery) (chain : Option (List ℕ)) (p : Publication) → (IsHonestReach folder key reply q 0 chain p → ⊥) → IsHonestReachAudit content folder key publication reply q chain p → ⊥
dishonest_reach_audit content folder key publication reply q chain p none audit = none audit.file

missing_may_be_evidence : (content : Option (List ℕ)) (key publication reply : List ℕ) (q : Query) (chain old new : Option (List ℕ)) → FindsHonest (Audit key publication reply q chain) (Some no_files) content old new (Ok Evidence)
missing_may_be_evidence content key publication reply q chain old new p audit = absurd (missing_is_no_audit content key publication reply q chain p audit)

unknown_desk_may_be_evidence : (folder : Folder) (key publication reply : List ℕ) (q : NearQuery) (chain old new : Option (List ℕ)) → FindsHonest (AuditReach key publication reply q chain) (Some folder) None old new (Ok Evidence)
unknown_desk_may_be_evidence folder key publication reply q chain old new p audit = absurd (untold_desk audit.desk.image audit.desk.told)

-- ---- replies

-- the reply of one octet that an end is not a node
abbrev unknown : List ℕ
unknown = 1 ∷ []

unknown_reads : whole reply_format unknown ≡ Ok replies.UnknownNode
unfolding reply_format
unknown_reads = refl

-- no client takes it as an answer, whatever its key and its chain are
unknown_is_no_answer : (q : Query) → IsNoAnswer q unknown
unfolding reply_format passed IsVerdict
unknown_is_no_answer q key links least = refl

-- the reply that no route exists says something else, and so does one without octets
no_route_is_another : (q : Query) → IsNoAnswer q (2 ∷ []) → ⊥
unfolding reply_format passed IsVerdict
no_route_is_another q told = other (told [] [] 0)
  where
    other : ◌≡◌ {A = Result Checked CheckError} (Err (NotAnswer 1)) (Err (NotAnswer 2)) → ⊥
    other e = cc

nothing_is_another : (q : Query) → IsNoAnswer q [] → ⊥
unfolding reply_format passed IsVerdict
nothing_is_another q told = other (told [] [] 0)
  where
    other : ◌≡◌ {A = Result Checked CheckError} (Err (NotAnswer 1)) (Err (Malformed 0)) → ⊥
    other e = cc

module _ (p : Publication) (key : List ℕ) (signed : IsSignedBy sha256 sha256 key p) where
  -- of a signed publication, the reply that an end is unknown is not taken as an answer
  unknown_is_not_taken : (q : Query) → IsTaken p q unknown → ⊥
  unknown_is_not_taken q taken = let it = taken key key [] 0 signed (record { chain = refl; among = Contains-here key [] }) (omega arith) in of it.accepted it.accepts
    where
      route : (a : Answer) → ◌≡◌ {A = Result Reply ℕ} (Ok replies.UnknownNode) (Ok (replies.Answer a)) → ⊥
      route a e = cc

      apart : (a : Answer) → ◌≡◌ {A = Result Reply ℕ} (Ok replies.UnknownNode) (Ok (replies.Apart a)) → ⊥
      apart a e = cc

      of : (x : Checked) → Accepts sha256 key [] unknown q 0 x → ⊥
      of (Route x) accepts = route accepts.answer (sym unknown_reads ∙ accepts.spelled)
      of (Apart version header) accepts = apart accepts.answer (sym unknown_reads ∙ accepts.spelled)

  unknown_is_not_written : (q : Query) → WritesReply p q (Some []) (Some unknown) (Ok Done) → ⊥
  unknown_is_not_written q (octets, taken, is) = unknown_is_not_taken q (subst (IsTaken p q) (sym is) taken)

  -- nor is it taken as the reply to a range query
  unknown_is_not_near : (q : NearQuery) → IsNearTaken p q unknown → ⊥
  unfolding near_reply
  unknown_is_not_near q taken = let it = taken key key [] 0 signed (record { chain = refl; among = Contains-here key [] }) (omega arith) in unread it.accepts.reply it.accepts.spelled
    where
      unread : (a : NearReply) → whole near_reply unknown ≡ Ok a → ⊥
      unread a e = cc

  unknown_is_not_reached : (q : NearQuery) → WritesNearReply p q (Some []) (Some unknown) (Ok Done) → ⊥
  unknown_is_not_reached q (octets, taken, is) = unknown_is_not_near q (subst (IsNearTaken p q) (sym is) taken)

-- an honest reply is taken, and written with status 0
honest_is_taken : AnswersAreAccepted → (p : Publication) (q : Query) (octets : List ℕ) → AreKnown p.parts q → IsHonest sha256 sha256 p q octets → IsTaken p q octets
honest_is_taken law p q octets known honest signer key links least signed leads fresh = law sha256 sha256 signer key links octets p q least signed leads fresh known honest

honest_reach_is_taken : near.NearRepliesAreAccepted → (p : Publication) (q : NearQuery) (octets : List ℕ) → IsNearHonest sha256 sha256 p q octets → IsNearTaken p q octets
honest_reach_is_taken law p q octets honest signer key links least signed leads fresh = law sha256 sha256 signer key links octets p q least signed leads fresh honest

taken_is_written : (p : Publication) (q : Query) (before octets : List ℕ) → IsTaken p q octets → WritesReply p q (Some before) (Some (before ++ octets)) (Ok Done)
taken_is_written p q before octets taken = (octets, taken, refl)

reached_is_written : (p : Publication) (q : NearQuery) (before octets : List ℕ) → IsNearTaken p q octets → WritesNearReply p q (Some before) (Some (before ++ octets)) (Ok Done)
reached_is_written p q before octets taken = (octets, taken, refl)

-- an unknown end is told by the one octet, and by no other
unknown_is_written : (p : Publication) (q : Query) (id : ℕ) → WritesReply p q (Some []) (Some unknown) (Err (UnknownNode id))
unknown_is_written p q id = (unknown, unknown_is_no_answer q, refl)

no_route_is_not_unknown : (p : Publication) (q : Query) (id : ℕ) → WritesReply p q (Some []) (Some (2 ∷ [])) (Err (UnknownNode id)) → ⊥
no_route_is_not_unknown p q id (octets, told, is) = no_route_is_another q (subst (IsNoAnswer q) (sym is) told)

-- over a publication's file `prove` and `reach` write such octets; without the file, nothing is said of them
module _ (folder : Folder) (file : List ℕ) (p : Publication) (read : publication_at folder file ≡ Ok p) (key : List ℕ) (signed : IsSignedBy sha256 sha256 key p) where
  prove_writes_no_unknown : (q : Query) → RepliesAreTaken (Prove file q) (Some folder) (Some []) (Some unknown) (Ok Done) → ⊥
  prove_writes_no_unknown q taken = unknown_is_not_written p key signed q (taken p read)

  reach_writes_no_unknown : (q : NearQuery) → RepliesAreTaken (Reach file q) (Some folder) (Some []) (Some unknown) (Ok Done) → ⊥
  reach_writes_no_unknown q taken = unknown_is_not_reached p key signed q (taken p read)

missing_proves_anything : (file octets : List ℕ) (q : Query) → RepliesAreTaken (Prove file q) (Some no_files) (Some []) (Some octets) (Ok Done)
missing_proves_anything file octets q p read = absurd (missing_is_no_value p read)

missing_reaches_anything : (file octets : List ℕ) (q : NearQuery) → RepliesAreTaken (Reach file q) (Some no_files) (Some []) (Some octets) (Ok Done)
missing_reaches_anything file octets q p read = absurd (missing_is_no_value p read)
