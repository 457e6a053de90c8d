-- `check` and `check-reach` accept honest replies.
use Rattle.std.proofs.Common.{◌≡◌, ℕ, List, [], refl, subst, IfSome}
use Rattle.std.specs.declared.option.Option.{Option}
use Rattle.std.specs.declared.option.Option.TheVariants.{None, Some}
use Rattle.std.specs.declared.result.Result.{Result}
use Rattle.std.specs.declared.result.Result.TheVariants.{Ok, Err}
use Rattle.sha2.specs.Sha256.{sha256}
use Rattle.road_io.specs.Contents.{Folder}
use Rattle.book_model.specs.declared.items.Query.{Query}
use Rattle.proof_octets.specs.declared.publication.Publication.{Publication}
use Rattle.route_client.specs.declared.accepted.Checked.{Checked}
use Rattle.route_client.specs.Truth.{HoldsIn}
use Rattle.route_client.specs.declared.errors.CheckError.{CheckError}
use Rattle.route_client.specs.Verdicts.{IsVerdict}
use Rattle.near_proof.specs.Honest.{AnswersAreAccepted, AreAccepted}
use Rattle.road_command.specs.Requests.{Request, Check, CheckReach}
use Rattle.command_files.specs.Endings.{Ending, Answered}
use Rattle.client_commands.specs.Checking.{EndsCheck, ends_check}
use Rattle.road_run.specs.Commands.{Ends, files_for, TellsClient}
use Rattle.road_run.specs.Accepting.{IsAcceptedLine, IsWithinLine, WritesAccepted, IsHonestFile, IsHonestReach, AcceptsHonest}
use Rattle.command_files.specs.declared.fault.Fault.{Fault}
use Rattle.command_files.specs.declared.fault.Fault.TheVariants.{TruncatedFrame, FrameTooLong, Library, Source, Sink, Disk, Memory, UnknownNode, NoRoute, TooManyFrames, MirrorLost}
use Rattle.command_files.specs.declared.ended.Conclusion.{Conclusion}
use Rattle.command_files.specs.declared.ended.Conclusion.TheVariants.{Done, Refused, Evidence}
use Rattle.client_commands.proofs.CheckFiles.{of_files}
use Rattle.client_commands.proofs.OneCheck.{OneVerdict}
use Rattle.route_audit.proofs.RouteLemmas.{AcceptsVerdict}
use Rattle.proof_octets.specs.declared.query.NearQuery.{NearQuery}
use Rattle.proof_octets.specs.Radius.{AreWithin}
use Rattle.route_client.specs.declared.within.Within.{Within}
use Rattle.route_client.specs.declared.near_errors.NearError.{NearError}
use Rattle.route_client.specs.NearVerdicts.{IsNearVerdict}
use Rattle.near_proof.specs.NearLaws.{NearRepliesAreAccepted}
use Rattle.near_proof.specs.NearLaws as near
use Rattle.client_commands.specs.NearChecking.{EndsCheckReach, ends_check_reach}
use Rattle.client_commands.proofs.OneNearCheck.{OneNearVerdict}
use Rattle.route_audit.proofs.RadiusLemmas.{AcceptsVerdict as NearAcceptsVerdict}

-- octets have at most one verdict, and accepted octets have it, for routes and for range queries
pub record Verdicts : Type 0 where
  pub one : OneVerdict
  pub accepted : AcceptsVerdict
  pub near_one : OneNearVerdict
  pub near_accepted : NearAcceptsVerdict

-- honest replies are accepted, for routes and for range queries
pub record AcceptedLaws : Type 0 where
  pub answers : AnswersAreAccepted
  pub near_replies : NearRepliesAreAccepted

-- if the work was done, such a line was written, provided that this verdict is the only one and no fault is
-- reported
pub writes_accepted : (E : Ending) (IsLine : List ℕ → Type 0) → ((text : List ℕ) → E (Ok Done) text → IsLine text) → ((text : List ℕ) → E (Ok Refused) text → ⊥) → ((text : List ℕ) → E (Ok Evidence) text → ⊥)
    → ((f : Fault) (text : List ℕ) → E (Err f) text → ⊥) → (old new : Option (List ℕ)) (o : Result Conclusion Fault) → Answered E old new o → (o ≡ Err MirrorLost → ⊥) → WritesAccepted IsLine old new o
writes_accepted E IsLine done refused evidence fault old new (Ok Done) a lost = (a.0, done a.0 a.1, a.2)
writes_accepted E IsLine done refused evidence fault old new (Ok Refused) a lost = absurd (refused a.0 a.1)
writes_accepted E IsLine done refused evidence fault old new (Ok Evidence) a lost = absurd (evidence a.0 a.1)
writes_accepted E IsLine done refused evidence fault old new (Err MirrorLost) a lost = absurd (lost refl)
writes_accepted E IsLine done refused evidence fault old new (Err (Memory _)) a lost = tt
writes_accepted E IsLine done refused evidence fault old new (Err Library) a lost = tt
writes_accepted E IsLine done refused evidence fault old new (Err Sink) a lost = tt
writes_accepted E IsLine done refused evidence fault old new (Err Disk) a lost = tt
writes_accepted E IsLine done refused evidence fault old new (Err (UnknownNode id)) a lost = absurd (fault (UnknownNode id) a.0 a.1)
writes_accepted E IsLine done refused evidence fault old new (Err NoRoute) a lost = absurd (fault NoRoute a.0 a.1)
writes_accepted E IsLine done refused evidence fault old new (Err TruncatedFrame) a lost = absurd (fault TruncatedFrame a.0 a.1)
writes_accepted E IsLine done refused evidence fault old new (Err FrameTooLong) a lost = absurd (fault FrameTooLong a.0 a.1)
writes_accepted E IsLine done refused evidence fault old new (Err TooManyFrames) a lost = absurd (fault TooManyFrames a.0 a.1)
writes_accepted E IsLine done refused evidence fault old new (Err Source) a lost = absurd (fault Source a.0 a.1)
writes_accepted E IsLine done refused evidence fault old new (Err f) a lost = absurd (fault f [] a)

module _ (one : OneVerdict) (verdict : AcceptsVerdict) (laws : AnswersAreAccepted) (folder : Folder) (key reply : List ℕ) (q : Query) (least : ℕ) (chain : Option (List ℕ)) (p : Publication) (file : IsHonestFile folder key reply q least chain p) where
  accepted : AreAccepted sha256 file.key file.links file.octets q least p.parts
  accepted = laws sha256 sha256 file.signer file.key file.links file.octets p q least file.signed file.leads file.fresh file.known file.honest

  says : IsVerdict sha256 file.key file.links file.octets q least (Ok accepted.accepted)
  says = verdict sha256 file.key file.links file.octets q least accepted.accepted accepted.accepts

  -- the end over the contents that the files encode
  ends : (o : Result Conclusion Fault) (text : List ℕ) → ends_check key reply q least chain folder o text → EndsCheck file.key file.links file.octets q least o text
  ends o text h = of_files (λ k links octets. EndsCheck k links octets q least) folder key reply chain file.key file.links file.octets file.key_read file.reply_read file.chain_read o text h

  differ : (x : Checked) (e : CheckError) → Ok x ≡ Err e → ⊥
  differ x e is = cc

  done : (text : List ℕ) → ends_check key reply q least chain folder (Ok Done) text → IsAcceptedLine p.parts q text
  done text h =
      let e = ends (Ok Done) text h in
      let same : Ok accepted.accepted ≡ Ok e.0 = one sha256 file.key file.links file.octets q least (Ok accepted.accepted) (Ok e.0) says e.1 in
      let is : accepted.accepted ≡ e.0 = cc in
      record { accepted = e.0; holds = subst (HoldsIn p.parts q) is accepted.holds; line = e.2 }

  refused : (text : List ℕ) → ends_check key reply q least chain folder (Ok Refused) text → ⊥
  refused text h =
      let e = ends (Ok Refused) text h in
      differ accepted.accepted e.0 (one sha256 file.key file.links file.octets q least (Ok accepted.accepted) (Err e.0) says e.2)

  writes : (old new : Option (List ℕ)) (o : Result Conclusion Fault) → Answered (ends_check key reply q least chain folder) old new o → (o ≡ Err MirrorLost → ⊥) → WritesAccepted (IsAcceptedLine p.parts q) old new o
  writes = writes_accepted (ends_check key reply q least chain folder) (IsAcceptedLine p.parts q) done refused (λ text h. ends (Ok Evidence) text h) (λ f text h. ends (Err f) text h)

module _ (one : OneNearVerdict) (verdict : NearAcceptsVerdict) (laws : NearRepliesAreAccepted) (folder : Folder) (key reply : List ℕ) (q : NearQuery) (least : ℕ) (chain : Option (List ℕ)) (p : Publication) (file : IsHonestReach folder key reply q least chain p) where
  near_accepted : near.AreAccepted sha256 file.key file.links file.octets q least p.parts
  near_accepted = laws sha256 sha256 file.signer file.key file.links file.octets p q least file.signed file.leads file.fresh file.honest

  near_says : IsNearVerdict sha256 file.key file.links file.octets q least (Ok near_accepted.accepted)
  near_says = verdict sha256 file.key file.links file.octets q least near_accepted.accepted near_accepted.accepts

  -- the end over the contents that the files encode
  near_ends : (o : Result Conclusion Fault) (text : List ℕ) → ends_check_reach key reply q least chain folder o text → EndsCheckReach file.key file.links file.octets q least o text
  near_ends o text h = of_files (λ k links octets. EndsCheckReach k links octets q least) folder key reply chain file.key file.links file.octets file.key_read file.reply_read file.chain_read o text h

  near_differ : (x : Within) (e : NearError) → Ok x ≡ Err e → ⊥
  near_differ x e is = cc

  near_done : (text : List ℕ) → ends_check_reach key reply q least chain folder (Ok Done) text → IsWithinLine p.parts q text
  near_done text h =
      let e = near_ends (Ok Done) text h in
      let same : Ok near_accepted.accepted ≡ Ok e.0 = one sha256 file.key file.links file.octets q least (Ok near_accepted.accepted) (Ok e.0) near_says e.1 in
      let is : near_accepted.accepted ≡ e.0 = cc in
      record { nodes = e.0.nodes; within = subst (λ (x : Within). AreWithin p.parts q x.nodes) is near_accepted.within; line = e.2 }

  near_refused : (text : List ℕ) → ends_check_reach key reply q least chain folder (Ok Refused) text → ⊥
  near_refused text h =
      let e = near_ends (Ok Refused) text h in
      near_differ near_accepted.accepted e.0 (one sha256 file.key file.links file.octets q least (Ok near_accepted.accepted) (Err e.0) near_says e.2)

  near_writes : (old new : Option (List ℕ)) (o : Result Conclusion Fault) → Answered (ends_check_reach key reply q least chain folder) old new o → (o ≡ Err MirrorLost → ⊥) → WritesAccepted (IsWithinLine p.parts q) old new o
  near_writes = writes_accepted (ends_check_reach key reply q least chain folder) (IsWithinLine p.parts q) near_done near_refused (λ text h. near_ends (Ok Evidence) text h) (λ f text h. near_ends (Err f) text h)

-- the same for a request and the library of a run
pub accepts_honest : Verdicts → AcceptedLaws → (request : Request) (files : Option Folder) (content : Option (List ℕ)) (old new : Option (List ℕ)) (o : Result Conclusion Fault)
    → IfSome (files_for request files) (λ folder. Answered (Ends content request folder) old new o) → (o ≡ Err MirrorLost → TellsClient request MirrorLost) → AcceptsHonest request files old new o
accepts_honest verdicts laws (Check key reply q least chain) (Some folder) content old new o a lost = λ p file. writes verdicts.one verdicts.accepted laws.answers folder key reply q least chain p file old new o a lost
accepts_honest verdicts laws (CheckReach key reply q least chain) (Some folder) content old new o a lost = λ p file. near_writes verdicts.near_one verdicts.near_accepted laws.near_replies folder key reply q least chain p file old new o a lost
accepts_honest verdicts laws request files content old new o a lost = tt
