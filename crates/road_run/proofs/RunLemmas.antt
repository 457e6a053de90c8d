-- The guarantees of each command, combined with those of a run.
use Rattle.std.proofs.Common.{◌≡◌, ℕ, List, [], refl, sym, subst, append-nil, arith, IfSome, OnOk}
use Rattle.std.specs.declared.option.Option.{Option}
use Rattle.std.specs.declared.option.Option.TheVariants.{None, Some}
use Rattle.std.specs.declared.result.Result.{Result}
use Rattle.std.specs.declared.result.Result.TheVariants.{Ok, Err}
use Rattle.road_io.specs.declared.disk.Disk.{Ghosts}
use Rattle.road_io.specs.Causes.{Rose}
use Rattle.road_io.specs.Contents.{Folder}
use Rattle.road_io.specs.Disk.{Stays}
use Rattle.road_io.specs.Given.{Gave}
use Rattle.road_io.specs.Moments.{AtEachMoment, still_told}
use Rattle.road_map.specs.Laws.{ArcLaws}
use Rattle.road_map.specs.declared.parts.Parts.{Parts}
use Rattle.key_desk.specs.Stands.{KeepsStanding}
use Rattle.key_desk.proofs.Standing.{standing_same}
use Rattle.road_command.specs.Requests.{Request, Route, Root, Dimacs, Key, Succeed, Links, Desk, Publish, Prove, Serve, ServeSigned, Check, Audit, Survey, Reach, CheckReach, AuditReach, Reduce}
use Rattle.command_files.specs.Endings.{Answered, Ending, NoDisk, Promises}
use Rattle.command_files.specs.Asking.{AsksFront}
use Rattle.command_files.specs.Exact.{NoneFailed, IsExact}
use Rattle.command_files.specs.declared.fault.Fault.{Fault}
use Rattle.command_files.specs.declared.fault.Fault.TheVariants.{Words, TruncatedFrame, Source, Library, Sink, Disk, MirrorLost}
use Rattle.command_files.specs.declared.ended.Conclusion.{Conclusion}
use Rattle.command_files.specs.declared.ended.Conclusion.TheVariants.{Done}
use Rattle.command_files.proofs.OneEnd.{HasOneEnd, exact_end}
use Rattle.command_files.proofs.OneMap.{Faults}
use Rattle.command_files.proofs.Written.{beside_disk, keeps_same}
use Rattle.command_desks.proofs.Disks.{no_moment, no_step}
use Rattle.command_books.proofs.OneBuilding.{OneMaking}
use Rattle.client_commands.proofs.OneCheck.{only_check}
use Rattle.map_commands.proofs.OneMapEnd.{only_route, only_root, only_dimacs}
use Rattle.server_commands.proofs.OneProve.{only_prove}
use Rattle.server_commands.proofs.OneServe.{exact_serve}
use Rattle.server_commands.specs.Guarding.{ServeFiles, guarded, unguarded}
use Rattle.server_commands.specs.Serving.{ServesFrames}
use Rattle.owner_commands.proofs.OneOwner.{only_key, only_desk, only_publish}
use Rattle.owner_commands.proofs.SuccessionLemmas.{only_succession, only_links}
use Rattle.audit_commands.proofs.OneAudit.{only_audit}
use Rattle.audit_commands.proofs.OneReduce.{only_reduce}
use Rattle.route_survey.proofs.SurveyLemmas.{only_survey}
use Rattle.client_commands.proofs.OneNearCheck.{only_check_reach}
use Rattle.server_commands.proofs.OneNearReach.{only_reach}
use Rattle.route_audit.specs.Radii.{radii}
use Rattle.route_audit.proofs.RadiusLemmas as radius
use Rattle.road_line.specs.WithinLine.{refused_near_line}
use Rattle.road_line.specs.VerdictLine.{refused_line}
use Rattle.route_audit.specs.Routes.{routes}
use Rattle.route_audit.proofs.RouteLemmas as route
use Rattle.road_run.specs.Accepting.{AcceptsHonest, RepliesAreTaken}
use Rattle.road_run.specs.Commands.{Ends, files_for, IsTold, LeavesUnused, TellsClient, OnDisk, RunPromises, but_for_mirrors}
use Rattle.road_run.specs.Complete.{NoneElseFailed}
use Rattle.road_run.specs.Names.{files_named}
use Rattle.road_run.specs.Sources.{HasEnded, IfServe, UnlessServe, RunGave, RunTakes, IsExactServing}
use Rattle.road_run.proofs.HonestLemmas.{Verdicts, AcceptedLaws, accepts_honest}
use Rattle.near_proof.specs.Honest.{UnknownNodesAreTold}
use Rattle.road_run.proofs.TakenLemmas.{replies_taken}

module _ {D : Type 0} (g : Ghosts D) (old new : D) (asked : Option Request) (files : Option Folder) (l l' : ℕ) (taken_before taken_now : Option (List ℕ)) (k k' : ℕ) (o : Result Conclusion Fault) where
  -- the guarantees for a request are guarantees for the arguments that make it
  pub run_promises : (request : Request) → Some request ≡ asked → Promises (Ends (still_told g old new) request) (TellsClient request) (Rose (g.faults old) (g.faults new)) (files_for request files) l l' taken_before taken_now k k' o
      → OnDisk g old new request files taken_before taken_now o → KeepsStanding g old new → RunPromises g old new asked files l l' taken_before taken_now k k' o
  run_promises request is promised on_disk stands = subst (λ (a : Option Request). RunPromises g old new a files l l' taken_before taken_now k k' o) is (record {
    words = (λ e. absurd (promised.words e), λ e. absurd (cc));
    nothing = tt;
    command = promised;
    on_disk = on_disk;
    stands = stands;
  })

  -- the same if the disk is unchanged
  pub run_stays : (request : Request) → Some request ≡ asked → Promises (Ends (still_told g old new) request) (TellsClient request) (Rose (g.faults old) (g.faults new)) (files_for request files) l l' taken_before taken_now k k' o
      → OnDisk g old new request files taken_before taken_now o → AtEachMoment g old new Stays → RunPromises g old new asked files l l' taken_before taken_now k k' o
  run_stays request is promised on_disk stays = run_promises request is promised on_disk (standing_same g old new stays)

module _ {D : Type 0} (g : Ghosts D) (disk : D) (asked : Option Request) (files : Option Folder) (l l' : ℕ) (taken_before taken_now : Option (List ℕ)) (k k' : ℕ) (o : Result Conclusion Fault) where
  -- the same for a command without a disk
  pub run_without_disk : (request : Request) → Some request ≡ asked → (AtEachMoment g disk disk Stays → OnDisk g disk disk request files taken_before taken_now o)
      → Promises (Ends (still_told g disk disk) request) (TellsClient request) NoDisk (files_for request files) l l' taken_before taken_now k k' o → RunPromises g disk disk asked files l l' taken_before taken_now k k' o
  run_without_disk request is on_disk promised =
      run_promises g disk disk asked files l l' taken_before taken_now k k' o request is
      (beside_disk (Ends (still_told g disk disk) request) (TellsClient request) (Rose (g.faults disk) (g.faults disk)) (files_for request files) l l' k k' taken_before taken_now o promised)
      (on_disk (no_moment g disk)) (no_step g disk)

-- arguments that fit no command
pub run_nothing : {D : Type 0} (g : Ghosts D) (disk : D) (asked : Option Request) (files : Option Folder) (l : ℕ) (taken : Option (List ℕ)) (k : ℕ) → None ≡ asked → RunPromises g disk disk asked files l l taken taken k k (Err Words)
run_nothing g disk asked files l taken k is = subst (λ (a : Option Request). RunPromises g disk disk a files l l taken taken k k (Err Words)) is (record {
  words = (λ e. refl, λ e. refl);
  nothing = record { silent = keeps_same taken; disk = no_moment g disk };
  command = tt;
  on_disk = tt;
  stands = no_step g disk;
})

-- ---- one end

-- the files, and the disk if it must be known, determine one end of a command
one_end : Faults → ((parts : Parts) (u : ℕ) → ArcLaws parts u) → OneMaking → Verdicts → (content : Option (List ℕ)) (request : Request) → IsTold request content → (folder : Folder) → HasOneEnd (Ends content request folder)
one_end faults arcs makings verdicts content (Route roads from to) told folder o p s t = only_route faults arcs roads from to folder o p s t
one_end faults arcs makings verdicts content (Root roads fan) told folder o p s t = only_root faults roads fan folder o p s t
one_end faults arcs makings verdicts content (Dimacs graph places) told folder o p s t = only_dimacs graph places folder o p s t
one_end faults arcs makings verdicts (Some content) (Key file kind) told folder o p s t = only_key content file kind folder o p s t
one_end faults arcs makings verdicts None (Key file kind) told folder o p s t = absurd (told refl)
one_end faults arcs makings verdicts (Some content) (Succeed file kind) told folder o p s t = only_succession content file kind folder o p s t
one_end faults arcs makings verdicts None (Succeed file kind) told folder o p s t = absurd (told refl)
one_end faults arcs makings verdicts (Some content) Links told folder o p s t = only_links content o p s t
one_end faults arcs makings verdicts None Links told folder o p s t = absurd (told refl)
one_end faults arcs makings verdicts (Some content) Desk told folder o p s t = only_desk content o p s t
one_end faults arcs makings verdicts None Desk told folder o p s t = absurd (told refl)
one_end faults arcs makings verdicts (Some content) (Publish roads settings) told folder o p s t = only_publish makings content roads settings folder o p s t
one_end faults arcs makings verdicts None (Publish roads settings) told folder o p s t = absurd (told refl)
one_end faults arcs makings verdicts content (Prove file q) told folder o p s t = only_prove makings file q folder o p s t
one_end faults arcs makings verdicts content (Serve publication) told folder o p s t = absurd told
one_end faults arcs makings verdicts content (ServeSigned publication key chain) told folder o p s t = absurd told
one_end faults arcs makings verdicts content (Check key reply q least chain) told folder o p s t = only_check verdicts.one key reply q least chain folder o p s t
one_end faults arcs makings verdicts (Some content) (Audit key publication reply q chain) told folder o p s t = only_audit routes refused_line (route.are_replies verdicts.one verdicts.accepted) makings content key publication reply q chain folder o p s t
one_end faults arcs makings verdicts None (Audit key publication reply q chain) told folder o p s t = absurd (told refl)
one_end faults arcs makings verdicts content (Survey width seed method queries) told folder o p s t = only_survey width seed method queries o p s t
one_end faults arcs makings verdicts content (Reach file q) told folder o p s t = only_reach makings file q folder o p s t
one_end faults arcs makings verdicts content (CheckReach key reply q least chain) told folder o p s t = only_check_reach verdicts.near_one key reply q least chain folder o p s t
one_end faults arcs makings verdicts (Some content) (AuditReach key publication reply q chain) told folder o p s t = only_audit radii refused_near_line (radius.are_replies verdicts.near_one verdicts.near_accepted) makings content key publication reply q chain folder o p s t
one_end faults arcs makings verdicts None (AuditReach key publication reply q chain) told folder o p s t = absurd (told refl)
one_end faults arcs makings verdicts (Some content) (Reduce key text signature) told folder o p s t = only_reduce content key text signature folder o p s t
one_end faults arcs makings verdicts None (Reduce key text signature) told folder o p s t = absurd (told refl)

-- a result is exact apart from the mirrors, if no other outside object failed
exact_but : (E : Ending) → HasOneEnd E → (before now : Option (List ℕ)) (o : Result Conclusion Fault) → Answered E before now o → (o ≡ Err Library → ⊥) → (o ≡ Err Sink → ⊥) → (o ≡ Err Disk → ⊥) → IsExact E (but_for_mirrors o)
exact_but E one before now (Err MirrorLost) a library sink disk = exact_end E one before now (Ok Done) a (λ e. cc) (λ e. cc) (λ e. cc) (λ e. cc)
exact_but E one before now o a library sink disk = exact_end E one before now o a library sink disk (λ e. cc)

module _ {D : Type 0} (g : Ghosts D) (old new : D) (asked : Option Request) (files : Option Folder) (l l' : ℕ) (taken_before taken_now : Option (List ℕ)) (k k' : ℕ) (o : Result Conclusion Fault) where
  -- the guarantees of a run are exact if no outside object failed
  pub exact_run : Faults → ((parts : Parts) (u : ℕ) → ArcLaws parts u) → OneMaking → Verdicts → RunPromises g old new asked files l l' taken_before taken_now k k' o
      → NoneFailed l l' k k' (g.faults old) (g.faults new) → IfSome asked (λ request. IfSome (files_for request files) (λ folder. IsTold request (still_told g old new) → IsExact (Ends (still_told g old new) request folder) (but_for_mirrors o)))
  exact_run faults arcs makings verdicts r n = by asked r.command
    where
      of : (request : Request) (files : Option Folder) → Promises (Ends (still_told g old new) request) (TellsClient request) (Rose (g.faults old) (g.faults new)) files l l' taken_before taken_now k k' o
          → IfSome files (λ folder. IsTold request (still_told g old new) → IsExact (Ends (still_told g old new) request folder) (but_for_mirrors o))
      of request None p = tt
      of request (Some folder) p = λ told.
          exact_but (Ends (still_told g old new) request folder) (one_end faults arcs makings verdicts (still_told g old new) request told folder) taken_before taken_now o p.answered
          (λ e. n.library_stays (p.library e)) (λ e. n.sink_stays (p.sink e)) (λ e. n.disk_stays (p.disk e))

      by : (asked : Option Request) → IfSome asked (λ request. Promises (Ends (still_told g old new) request) (TellsClient request) (Rose (g.faults old) (g.faults new)) (files_for request files) l l' taken_before taken_now k k' o)
          → IfSome asked (λ request. IfSome (files_for request files) (λ folder. IsTold request (still_told g old new) → IsExact (Ends (still_told g old new) request folder) (but_for_mirrors o)))
      by None p = tt
      by (Some request) p = of request (files_for request files) p

  -- the same if the library may have counted a file that is missing or too long
  pub exact_files : Faults → ((parts : Parts) (u : ℕ) → ArcLaws parts u) → OneMaking → Verdicts → RunPromises g old new asked files l l' taken_before taken_now k k' o
      → NoneElseFailed o k k' (g.faults old) (g.faults new) → IfSome asked (λ request. IfSome (files_for request files) (λ folder. IsTold request (still_told g old new) → IsExact (Ends (still_told g old new) request folder) (but_for_mirrors o)))
  exact_files faults arcs makings verdicts r n = by asked r.command
    where
      of : (request : Request) (files : Option Folder) → Promises (Ends (still_told g old new) request) (TellsClient request) (Rose (g.faults old) (g.faults new)) files l l' taken_before taken_now k k' o
          → IfSome files (λ folder. IsTold request (still_told g old new) → IsExact (Ends (still_told g old new) request folder) (but_for_mirrors o))
      of request None p = tt
      of request (Some folder) p = λ told.
          exact_but (Ends (still_told g old new) request folder) (one_end faults arcs makings verdicts (still_told g old new) request told folder) taken_before taken_now o p.answered
          (λ e. n.library_gave e) (λ e. n.sink_stays (p.sink e)) (λ e. n.disk_stays (p.disk e))

      by : (asked : Option Request) → IfSome asked (λ request. Promises (Ends (still_told g old new) request) (TellsClient request) (Rose (g.faults old) (g.faults new)) (files_for request files) l l' taken_before taken_now k k' o)
          → IfSome asked (λ request. IfSome (files_for request files) (λ folder. IsTold request (still_told g old new) → IsExact (Ends (still_told g old new) request folder) (but_for_mirrors o)))
      by None p = tt
      by (Some request) p = of request (files_for request files) p

  -- and it accepts honest replies
  pub honest_run : Verdicts → AcceptedLaws → RunPromises g old new asked files l l' taken_before taken_now k k' o
      → IfSome asked (λ request. AcceptsHonest request files taken_before taken_now o)
  honest_run verdicts laws r = by asked r.command
    where
      by : (asked : Option Request) → IfSome asked (λ request. Promises (Ends (still_told g old new) request) (TellsClient request) (Rose (g.faults old) (g.faults new)) (files_for request files) l l' taken_before taken_now k k' o)
          → IfSome asked (λ request. AcceptsHonest request files taken_before taken_now o)
      by None p = tt
      by (Some request) p = accepts_honest verdicts laws request files (still_told g old new) taken_before taken_now o p.answered p.mirror

  -- and the octets that it writes as a reply are accepted, or are not an answer
  pub taken_run : AcceptedLaws → UnknownNodesAreTold → RunPromises g old new asked files l l' taken_before taken_now k k' o
      → IfSome asked (λ request. RepliesAreTaken request files taken_before taken_now o)
  taken_run laws refused r = by asked r.command
    where
      by : (asked : Option Request) → IfSome asked (λ request. Promises (Ends (still_told g old new) request) (TellsClient request) (Rose (g.faults old) (g.faults new)) (files_for request files) l l' taken_before taken_now k k' o)
          → IfSome asked (λ request. RepliesAreTaken request files taken_before taken_now o)
      by None p = tt
      by (Some request) p = replies_taken laws refused request files (still_told g old new) taken_before taken_now o p.answered

-- ---- the source

-- what is taken for a request is taken for the arguments that make it
pub run_takes : (asked : Option Request) (files : Option Folder) (left rest : Option (List ℕ)) (s s' : ℕ) (taken_before taken_now : Option (List ℕ)) (o : Result Conclusion Fault) (request : Request) → Some request ≡ asked
    → IfServe (Some request) (λ named. ServesFrames named files left rest s s' taken_before taken_now o) → UnlessServe (Some request) (rest ≡ left) → (o ≡ Err Source → Rose s s')
    → RunTakes asked files left rest s s' taken_before taken_now o
run_takes asked files left rest s s' taken_before taken_now o request is serves kept source =
    subst (λ (a : Option Request). RunTakes a files left rest s s' taken_before taken_now o) is (record { serves = serves; kept = kept; source = source })

-- what the source gave for a request is what it gave for the arguments that make it
pub run_gave : (asked : Option Request) (files : Option Folder) (given given' : List ℕ) (Ended : Type 0) (s s' : ℕ) (taken_before taken_now : Option (List ℕ)) (o : Result Conclusion Fault) (request : Request) → Some request ≡ asked
    → IfServe (Some request) (λ named. Gave given given' (λ octets. ServesFrames named files (Some octets) (Some []) s s' taken_before taken_now o)) → IfServe (Some request) (λ named. HasEnded named o Ended) → UnlessServe (Some request) (given' ≡ given)
    → RunGave asked files given given' Ended s s' taken_before taken_now o
run_gave asked files given given' Ended s s' taken_before taken_now o request is serves ended nothing =
    subst (λ (a : Option Request). RunGave a files given given' Ended s s' taken_before taken_now o) is (record { serves = serves; ended = ended; nothing = nothing })

-- for arguments that fit no command, the source gave nothing
pub run_gave_nothing : (asked : Option Request) (files : Option Folder) (given : List ℕ) (Ended : Type 0) (s : ℕ) (taken_before taken_now : Option (List ℕ)) → None ≡ asked → RunGave asked files given given Ended s s taken_before taken_now (Err Words)
run_gave_nothing asked files given Ended s taken_before taken_now is =
    subst (λ (a : Option Request). RunGave a files given given Ended s s taken_before taken_now (Err Words)) is (record { serves = tt; ended = tt; nothing = refl })

-- a regular end, and a frame cut short, occur if the source gave nothing more
pub has_ended : (file : List ℕ) (o : Result Conclusion Fault) (Ended : Type 0) → OnOk o Ended → (o ≡ Err TruncatedFrame → Ended) → HasEnded (unguarded file) o Ended
has_ended file (Ok Done) Ended whole cut = whole
has_ended file (Ok conclusion) Ended whole cut = whole
has_ended file (Err TruncatedFrame) Ended whole cut = cut refl
has_ended file (Err fault) Ended whole cut = tt

-- the same if a guard may refuse the first publication
pub has_ended_signed : (file key : List ℕ) (chain : Option (List ℕ)) (o : Result Conclusion Fault) (Ended : Type 0) → (o ≡ Ok Done → Ended) → (o ≡ Err TruncatedFrame → Ended) → HasEnded (guarded file key chain) o Ended
has_ended_signed file key chain (Ok Done) Ended whole cut = whole refl
has_ended_signed file key chain (Ok conclusion) Ended whole cut = tt
has_ended_signed file key chain (Err TruncatedFrame) Ended whole cut = cut refl
has_ended_signed file key chain (Err fault) Ended whole cut = tt

-- objects that a request does not use are not used by the arguments that make it
pub unused : (asked : Option Request) (library source sink disk : Type 0) (request : Request) → Some request ≡ asked → LeavesUnused (Some request) library source sink disk → LeavesUnused asked library source sink disk
unused asked library source sink disk request is h = subst (λ (a : Option Request). LeavesUnused a library source sink disk) is h

-- arguments that fit no command use nothing
pub nothing_used : (asked : Option Request) (library source sink disk : Type 0) → None ≡ asked → library × source × sink × disk → LeavesUnused asked library source sink disk
nothing_used asked library source sink disk is h = subst (λ (a : Option Request). LeavesUnused a library source sink disk) is h

-- arguments that fit no command take nothing
pub run_takes_nothing : (asked : Option Request) (files : Option Folder) (left : Option (List ℕ)) (s : ℕ) (taken_before taken_now : Option (List ℕ)) → None ≡ asked → RunTakes asked files left left s s taken_before taken_now (Err Words)
run_takes_nothing asked files left s taken_before taken_now is =
    subst (λ (a : Option Request). RunTakes a files left left s s taken_before taken_now (Err Words)) is (record { serves = tt; kept = refl; source = λ e. absurd (cc) })

-- the arguments that request serving over files with these names
abbrev pub serve_by : List ℕ → Option (List ℕ × Option (List ℕ)) → Request
serve_by publication None = Serve publication
serve_by publication (Some guard) = ServeSigned publication guard.0 guard.1

abbrev pub serve_request : ServeFiles → Request
serve_request named = serve_by named.publication named.guard

-- a service ends by the files that its library states
pub files_served : (named : ServeFiles) (files : Option Folder) → files_for (serve_request named) files ≡ files
files_served named files = by named.guard
  where
    by : (guard : Option (List ℕ × Option (List ℕ))) → files_for (serve_by named.publication guard) files ≡ files
    by None = refl
    by (Some guard) = refl

-- the consequences if the arguments request serving
pub serve_then : (asked : Option Request) (P Q : ServeFiles → Type 0) → ((named : ServeFiles) → asked ≡ Some (serve_request named) → P named → Q named) → IfServe asked P → IfServe asked Q
serve_then (Some (Serve file)) P Q step h = step (unguarded file) refl h
serve_then (Some (ServeSigned file key chain)) P Q step h = step (guarded file key chain) refl h
serve_then asked P Q step h = tt

module _ {D : Type 0} (g : Ghosts D) (old new : D) (makings : OneMaking) (asked : Option Request) (files : Option Folder) (l l' s s' : ℕ) (taken_before taken_now : Option (List ℕ)) (k k' : ℕ) (o : Result Conclusion Fault) where
  abbrev Served : Option (List ℕ) → Option (List ℕ) → ServeFiles → Type 0
  Served left rest named = ServesFrames named files left rest s s' taken_before taken_now o

  abbrev Command : Request → Type 0
  Command request = Promises (Ends (still_told g old new) request) (TellsClient request) (Rose (g.faults old) (g.faults new)) (files_for request files) l l' taken_before taken_now k k' o

  exact_at : (left rest : Option (List ℕ)) → IfSome asked Command → ¬ Rose s s' → NoneFailed l l' k k' (g.faults old) (g.faults new) → (named : ServeFiles) → asked ≡ Some (serve_request named) → Served left rest named → IsExactServing named files left o
  exact_at left rest commands none n named is served =
      let p : Command (serve_request named) = subst (λ (a : Option Request). IfSome a Command) is commands in
      exact_serve makings named files left rest taken_before taken_now o l l' s s' k k' (g.faults old) (g.faults new) served p.library p.sink none n

  -- a result of serving is exact if no outside object failed
  pub exact_serving : (left rest : Option (List ℕ)) → RunPromises g old new asked files l l' taken_before taken_now k k' o → RunTakes asked files left rest s s' taken_before taken_now o
      → ¬ Rose s s' → NoneFailed l l' k k' (g.faults old) (g.faults new) → IfServe asked (λ named. IsExactServing named files left o)
  exact_serving left rest r t none n =
      serve_then asked (Served left rest) (λ named. IsExactServing named files left o) (exact_at left rest r.command none n) t.serves

  -- the same if the library may have counted a file that is missing or too long
  pub exact_files_serving : (left rest : Option (List ℕ)) → RunPromises g old new asked files l l' taken_before taken_now k k' o → RunTakes asked files left rest s s' taken_before taken_now o
      → ¬ Rose s s' → NoneElseFailed o k k' (g.faults old) (g.faults new) → IfServe asked (λ named. IsExactServing named files left o)
  exact_files_serving left rest r t none n =
      serve_then asked (Served left rest) (λ named. IsExactServing named files left o)
      (λ named is served.
      let p : Command (serve_request named) = subst (λ (a : Option Request). IfSome a Command) is r.command in
      exact_serve makings named files left rest taken_before taken_now o 0 0 s s' k k' (g.faults old) (g.faults new) served (λ e. absurd (n.library_gave e)) p.sink none
      (record { library_stays = λ rose. omega (arith, rose); sink_stays = n.sink_stays; disk_stays = n.disk_stays })) t.serves

  -- and the same for the octets that the source gave
  pub exact_given : (given given' : List ℕ) (Ended : Type 0) → RunPromises g old new asked files l l' taken_before taken_now k k' o → RunGave asked files given given' Ended s s' taken_before taken_now o
      → ¬ Rose s s' → NoneFailed l l' k k' (g.faults old) (g.faults new) → IfServe asked (λ named. Gave given given' (λ octets. IsExactServing named files (Some octets) o))
  exact_given given given' Ended r t none n =
      serve_then asked (λ named. Gave given given' (λ octets. Served (Some octets) (Some []) named)) (λ named. Gave given given' (λ octets. IsExactServing named files (Some octets) o))
      (λ named is gave. record { octets = gave.octets; gave = gave.gave; is = exact_at (Some gave.octets) (Some []) r.command none n named is gave.is }) t.serves

-- arguments of this request load a prefix of its names
pub asks : (asked : Option Request) (request : Request) (before now : List (List ℕ)) → Some request ≡ asked → AsksFront (files_named (Some request)) before now → AsksFront (files_named asked) before now
asks asked request before now is h = subst (λ (a : Option Request). AsksFront (files_named a) before now) is h

-- no name was requested
pub asks_none : (names before : List (List ℕ)) → AsksFront names before before
asks_none names before = record { n = 0; within = omega arith; asked = sym (append-nil before) }
