-- The output of `prove` and `reach` is accepted, or is the reply that is not an answer.
use Rattle.std.proofs.Common.{◌≡◌, ◌⊎◌, inl, inr, ℕ, List, sym, subst, IfSome}
use Rattle.std.proofs.lemmas.Bool.{cases_eq}
use Rattle.std.specs.declared.option.Option.{Option}
use Rattle.std.specs.declared.option.Option.TheVariants.{None, Some}
use Rattle.std.specs.declared.result.Result.{Result}
use Rattle.std.specs.declared.result.Result.TheVariants.{Ok, Err}
use Rattle.sha2.specs.Sha256.{sha256}
use Rattle.road_io.specs.Contents.{Folder}
use Rattle.road_map.specs.Walks.{Knows}
use Rattle.book_model.specs.declared.items.Query.{Query}
use Rattle.proof_octets.specs.declared.header.Header.{Header}
use Rattle.proof_octets.specs.declared.publication.Publication.{Publication}
use Rattle.route_server.specs.declared.errors.BuildError.{BuildError}
use Rattle.route_server.specs.declared.errors.BuildError.TheVariants as build
use Rattle.near_proof.specs.Honest.{UnknownNodesAreTold}
use Rattle.road_command.specs.Requests.{Request, Prove, Reach}
use Rattle.command_files.specs.Reading.{publication_at}
use Rattle.command_files.specs.TwoEnds.{IsFirstUnknown}
use Rattle.command_files.specs.Endings.{Ending, Answered}
use Rattle.command_files.specs.declared.fault.Fault.{Fault}
use Rattle.command_files.specs.declared.fault.Fault.TheVariants.{UnknownNode}
use Rattle.command_files.specs.declared.ended.Conclusion.{Conclusion}
use Rattle.command_files.specs.declared.ended.Conclusion.TheVariants.{Done, Refused, Evidence}
use Rattle.command_files.proofs.Written.{read_as}
use Rattle.command_books.specs.Installing.{AfterBuild, IfInstalled, EndsInstalling}
use Rattle.server_commands.specs.Proving.{EndsReply, EndsProve, ends_prove}
use Rattle.proof_octets.specs.declared.query.NearQuery.{NearQuery}
use Rattle.server_commands.specs.NearReaching.{EndsNear, EndsReach, ends_reach}
use Rattle.road_run.specs.Commands.{Ends, files_for}
use Rattle.road_run.specs.Accepting.{IsTaken, WritesReply, WritesNearReply, RepliesAreTaken}
use Rattle.road_run.proofs.HonestLemmas.{AcceptedLaws}

-- ---- an end that comes only after the install

-- an end that is not a fault of the install
abbrev pub IsBehind : Result Conclusion Fault → Type 0
IsBehind (Ok verdict) = Unit {0}
IsBehind (Err (UnknownNode id)) = Unit {0}
IsBehind (Err fault) = ⊥

pub behind : (p : Publication) (Next : Ending) (o : Result Conclusion Fault) (t : List ℕ) → IsBehind o → EndsInstalling p Next o t → Next o t
behind p Next o t late h = by h.made h.follows
  where
    installed : (header : Header) → IfInstalled p Next header o t → Next o t
    installed header (inl k) = k.1
    installed header (inr k) = absurd (subst IsBehind k.1 late)

    by : (made : Result Header BuildError) → AfterBuild (IfInstalled p Next) made o t → Next o t
    by (Ok header) k = installed header k
    by (Err (build.Memory _)) k = absurd k
    by (Err (build.Map e)) k = absurd (subst IsBehind k.0 late)
    by (Err (build.Plan e)) k = absurd (subst IsBehind k.0 late)

module _ (laws : AcceptedLaws) (told : UnknownNodesAreTold) (folder : Folder) (file : List ℕ) (q : Query) (p : Publication) (read : publication_at folder file ≡ Ok p) where
  ends : (o : Result Conclusion Fault) (t : List ℕ) → IsBehind o → ends_prove file q folder o t → EndsReply q p o t
  ends o t late h = behind p (EndsReply q p) o t late (read_as (publication_at folder file) p (EndsProve q) o t read h)

  unknown : (id : ℕ) → IsFirstUnknown p.parts q.from q.to id → (¬ Knows p.parts q.from) ⊎ (¬ Knows p.parts q.to)
  unknown id is = elim (cases_eq id q.from) [
    | inl e ↦ inl (λ k. is.unknown (subst (λ n. Knows p.parts n) (sym e) k))
    | inr n ↦ inr (λ k. is.unknown (subst (λ n. Knows p.parts n) (sym (is.first n).0) k))
  ]

  -- the octets written if the work was done
  pub taken : (t : List ℕ) → ends_prove file q folder (Ok Done) t → IsTaken p q t
  taken t h =
      let e = ends (Ok Done) t tt h in
      λ signer key links least signed leads fresh. laws.answers sha256 sha256 signer key links t p q least signed leads fresh (record { from = e.0; to = e.1 }) e.2

  writes : (old new : Option (List ℕ)) (o : Result Conclusion Fault) → Answered (ends_prove file q folder) old new o → WritesReply p q old new o
  writes old new (Ok Done) a = (a.0, taken a.0 a.1, a.2)
  writes old new (Ok Refused) a = absurd (ends (Ok Refused) a.0 tt a.1)
  writes old new (Ok Evidence) a = absurd (ends (Ok Evidence) a.0 tt a.1)
  writes old new (Err (UnknownNode id)) a =
      let e = ends (Err (UnknownNode id)) a.0 tt a.1 in
      (a.0, (λ key links least. told sha256 sha256 key links a.0 p q least (unknown id e.0) e.1), a.2)
  writes old new (Err fault) a = tt

module _ (laws : AcceptedLaws) (folder : Folder) (file : List ℕ) (q : NearQuery) (p : Publication) (read : publication_at folder file ≡ Ok p) where
  near_ends : (o : Result Conclusion Fault) (t : List ℕ) → IsBehind o → ends_reach file q folder o t → EndsNear q p o t
  near_ends o t late h = behind p (EndsNear q p) o t late (read_as (publication_at folder file) p (EndsReach q) o t read h)

  near_writes : (old new : Option (List ℕ)) (o : Result Conclusion Fault) → Answered (ends_reach file q folder) old new o → WritesNearReply p q old new o
  near_writes old new (Ok Done) a =
      let e = near_ends (Ok Done) a.0 tt a.1 in
      (a.0, (λ signer key links least signed leads fresh. laws.near_replies sha256 sha256 signer key links a.0 p q least signed leads fresh e), a.2)
  near_writes old new (Ok Refused) a = absurd (near_ends (Ok Refused) a.0 tt a.1)
  near_writes old new (Ok Evidence) a = absurd (near_ends (Ok Evidence) a.0 tt a.1)
  near_writes old new (Err fault) a = tt

-- the same for a request and the library of a run
pub replies_taken : AcceptedLaws → UnknownNodesAreTold → (request : Request) (files : Option Folder) (content : Option (List ℕ)) (old new : Option (List ℕ)) (o : Result Conclusion Fault)
    → IfSome (files_for request files) (λ folder. Answered (Ends content request folder) old new o) → RepliesAreTaken request files old new o
replies_taken laws told (Prove file q) (Some folder) content old new o a = λ p read. writes laws told folder file q p read old new o a
replies_taken laws told (Reach file q) (Some folder) content old new o a = λ p read. near_writes laws folder file q p read old new o a
replies_taken laws told request files content old new o a = tt
