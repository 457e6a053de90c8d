-- If nothing prevents it, a run does its work.
use Rattle.std.proofs.Common.{◌≡◌, ◌≢◌, inl, inr, ℕ, suc, ◌<◌, List, [], ◌∷◌, length, refl, sym, ap, subst, ◌∙◌, IfSome, arith}
use Rattle.std.specs.declared.option.Option.{Option}
use Rattle.std.specs.declared.option.Option.TheVariants.{None, Some}
use Rattle.std.specs.declared.result.Result.{Result}
use Rattle.std.specs.declared.result.Result.TheVariants.{Ok, Err}
use Rattle.std.specs.List.{Contains}
use Rattle.road_io.specs.declared.disk.Disk.{Ghosts}
use Rattle.road_io.specs.Causes.{Rose}
use Rattle.road_io.specs.Moments.{still_told}
use Rattle.road_io.specs.Contents.{Folder}
use Rattle.road_map.proofs.Among.{Contains-here, Contains-there}
use Rattle.book_model.specs.declared.items.Query.{Query}
use Rattle.book_model.specs.declared.settings.Settings.{Settings}
use Rattle.proof_octets.specs.declared.publication.Publication.{Publication}
use Rattle.proof_octets.specs.Publications.{publication_text}
use Rattle.mirror_out.specs.Mirrors.{PromisedLess, Mirrors}
use Rattle.publication_out.specs.Sent.{pieces_in}
use Rattle.road_command.specs.Requests.{Request, Publish, Prove, Serve, ServeSigned}
use Rattle.command_books.specs.Installing.{IsInstallable}
use Rattle.command_books.proofs.OneBuilding.{OneMaking}
use Rattle.command_files.specs.Reading.{publication_at}
use Rattle.near_proof.specs.Honest.{UnknownNodesAreTold, AreKnown}
use Rattle.command_files.specs.Endings.{Ending, Answered, Promises}
use Rattle.command_files.specs.Exact.{NoneFailed, IsExact}
use Rattle.command_files.specs.Outcomes.{status_of}
use Rattle.command_files.specs.declared.fault.Fault.{Fault}
use Rattle.command_files.specs.declared.fault.Fault.TheVariants.{Words, Missing, TooLong, Road, Dimacs as DimacsFault, Map, Plan, Malformed, HeaderWrong, BadHex, OtherKey, TruncatedFrame, FrameTooLong, Library, Source, Sink, Disk, KeysUsedUp, Memory, UnknownNode, NoRoute, Held, NoKey, BadBlock, TooManyKeys, NoSuccession, SameSecret, TooManyFrames, OtherPublication, MirrorLost}
use Rattle.command_files.specs.declared.ended.Conclusion.{Conclusion}
use Rattle.command_files.specs.declared.ended.Conclusion.TheVariants.{Done, Refused, Evidence}
use Rattle.command_files.proofs.Ends.{both_known}
use Rattle.command_files.proofs.Written.{failed, read_as}
use Rattle.audit_commands.proofs.HeadlineLemmas.{installed}
use Rattle.owner_commands.specs.Signing.{SealsWhatItMirrors}
use Rattle.server_commands.specs.Proving.{EndsReply, EndsProve, ends_prove}
use Rattle.road_run.specs.Accepting.{IsTaken, WritesAccepted}
use Rattle.road_run.specs.Commands.{Ends, files_for, IsTold, TellsClient, OnMirrors, RunPromises, but_for_mirrors}
use Rattle.road_run.specs.Complete.{CallsFor, AreTold, Hinders, IsUnhindered, Answers, NoneElseFailed, PromisedEnough, IsComplete, ProvesKnown}
use Rattle.road_run.specs.Sources.{IfServe, RunTakes, IsExactServing}
use Rattle.road_run.proofs.HonestLemmas.{AcceptedLaws, writes_accepted}
use Rattle.road_run.proofs.RunLemmas.{files_served, serve_then}
use Rattle.road_run.proofs.TakenLemmas.{taken}
use Rattle.octet_text.specs.Want.{no_memory}

-- ---- an outcome by its status

-- an outcome that the files require, and that no outside object caused, is the result if nothing prevents the work
answers : (E : Ending) → IsUnhindered E → (o : Result Conclusion Fault) → (o ≢ Err (Memory no_memory) → (text : List ℕ) × E o text)
    → o ≢ Err Words → o ≢ Err Library → o ≢ Err Source → o ≢ Err Sink → o ≢ Err Disk → o ≢ Err MirrorLost → Answers (status_of o)
answers E free o called words library source sink disk mirror = by o called words library source sink disk mirror
  where
    hindered : (f : Fault) → Hinders (status_of (failed f)) → (failed f ≢ failed (Memory no_memory) → (text : List ℕ) × E (failed f) text) → failed f ≢ failed (Memory no_memory) → ⊥
    hindered f is called full = let e = called full in free (failed f) e.0 e.1 is

    by : (o : Result Conclusion Fault) → (o ≢ Err (Memory no_memory) → (text : List ℕ) × E o text)
        → o ≢ Err Words → o ≢ Err Library → o ≢ Err Source → o ≢ Err Sink → o ≢ Err Disk → o ≢ Err MirrorLost → Answers (status_of o)
    by (Ok Done) c w l s k d m = inl refl
    by (Ok Refused) c w l s k d m = inr (inl refl)
    by (Ok Evidence) c w l s k d m = inr (inr (inl refl))
    by (Err Words) c w l s k d m = absurd (w refl)
    by (Err Missing) c w l s k d m = absurd (hindered Missing (inl refl) c (λ e. cc))
    by (Err TooLong) c w l s k d m = absurd (hindered TooLong (inl refl) c (λ e. cc))
    by (Err (Road f)) c w l s k d m = absurd (hindered (Road f) (inl refl) c (λ e. cc))
    by (Err (DimacsFault f)) c w l s k d m = absurd (hindered (DimacsFault f) (inl refl) c (λ e. cc))
    by (Err (Map f)) c w l s k d m = absurd (hindered (Map f) (inl refl) c (λ e. cc))
    by (Err (Plan f)) c w l s k d m = absurd (hindered (Plan f) (inl refl) c (λ e. cc))
    by (Err (Malformed at)) c w l s k d m = absurd (hindered (Malformed at) (inl refl) c (λ e. cc))
    by (Err HeaderWrong) c w l s k d m = absurd (hindered HeaderWrong (inl refl) c (λ e. cc))
    by (Err BadHex) c w l s k d m = absurd (hindered BadHex (inl refl) c (λ e. cc))
    by (Err OtherKey) c w l s k d m = absurd (hindered OtherKey (inl refl) c (λ e. cc))
    by (Err TruncatedFrame) c w l s k d m = absurd (hindered TruncatedFrame (inl refl) c (λ e. cc))
    by (Err FrameTooLong) c w l s k d m = absurd (hindered FrameTooLong (inl refl) c (λ e. cc))
    by (Err Library) c w l s k d m = absurd (l refl)
    by (Err Source) c w l s k d m = absurd (s refl)
    by (Err Sink) c w l s k d m = absurd (k refl)
    by (Err Disk) c w l s k d m = absurd (d refl)
    by (Err KeysUsedUp) c w l s k d m = absurd (hindered KeysUsedUp (inr (inl refl)) c (λ e. cc))
    by (Err (Memory _)) c w l s k d m = inr (inr (inr (inr (inr refl))))
    by (Err (UnknownNode id)) c w l s k d m = inr (inr (inr (inl refl)))
    by (Err NoRoute) c w l s k d m = inr (inr (inr (inl refl)))
    by (Err Held) c w l s k d m = absurd (hindered Held (inr (inr (inl refl))) c (λ e. cc))
    by (Err NoKey) c w l s k d m = absurd (hindered NoKey (inr (inr (inl refl))) c (λ e. cc))
    by (Err BadBlock) c w l s k d m = absurd (hindered BadBlock (inr (inr (inl refl))) c (λ e. cc))
    by (Err TooManyKeys) c w l s k d m = absurd (hindered TooManyKeys (inr (inr (inl refl))) c (λ e. cc))
    by (Err NoSuccession) c w l s k d m = absurd (hindered NoSuccession (inr (inr (inl refl))) c (λ e. cc))
    by (Err SameSecret) c w l s k d m = absurd (hindered SameSecret (inr (inr (inl refl))) c (λ e. cc))
    by (Err TooManyFrames) c w l s k d m = absurd (hindered TooManyFrames (inr (inr (inr refl))) c (λ e. cc))
    by (Err OtherPublication) c w l s k d m = inr (inr (inr (inr (inl refl))))
    by (Err MirrorLost) c w l s k d m = absurd (m refl)

-- if no mirror was lost, the outcome is the same apart from the mirrors
same_but : (o : Result Conclusion Fault) → o ≢ Err MirrorLost → but_for_mirrors o ≡ o
same_but (Err MirrorLost) n = absurd (n refl)
same_but o n = refl

-- ---- no mirror is lost

module _ {M : Type 0} (octets : M → Option (List ℕ)) (label handed puts room : M → ℕ) where
  -- mirrors that promised enough all remain
  all_stay : (count : ℕ) (text : List ℕ) (old kept : List M) → ((m : M) → Contains old m → ¬ PromisedLess count text (puts m) (room m)) → Mirrors octets label handed puts room count text old kept → length kept ≡ length old
  all_stay count text [] kept enough h = ap length h
  all_stay count text (m ∷ old) kept enough (inl h) =
      ap length h.2 ∙ ap suc (all_stay count text old h.1 (λ x c. enough x (Contains-there m x old c)) h.4)
  all_stay count text (m ∷ old) kept enough (inr h) = absurd (enough m (Contains-here m old) h.0)

  none_lost : {D : Type 0} (g : Ghosts D) (before now : D) (roads : List ℕ) (settings : Settings) (taken_before taken_now : Option (List ℕ)) (old kept : List M) → SealsWhatItMirrors octets label handed puts room g before now taken_before taken_now old kept (Err MirrorLost)
      → ¬ PromisedEnough puts room g before now (Publish roads settings) taken_before taken_now old
  none_lost g before now roads settings taken_before taken_now old kept h enough =
      let s = h.sealed in
      let text : List ℕ = publication_text s.publication in
      let all : length kept ≡ length old = all_stay (pieces_in text) text old kept (enough s.publication s.on_disk s.written) s.mirrored.0 in
      let fewer : length kept < length old = s.mirrored.1 in
      omega (arith, all, fewer)

-- ---- a run

module _ {D M : Type 0} (g : Ghosts D) (octets : M → Option (List ℕ)) (label handed puts room : M → ℕ) (old new : D) (files : Option Folder) (left rest : Option (List ℕ)) (l l' s s' : ℕ) (taken_before taken_now : Option (List ℕ)) (k k' : ℕ) (mirrors kept : List M) (o : Result Conclusion Fault) where
  -- a run is complete
  pub complete_run : (asked : Option Request) → RunPromises g old new asked files l l' taken_before taken_now k k' o → RunTakes asked files left rest s s' taken_before taken_now o
      → OnMirrors octets label handed puts room g old new asked taken_before taken_now mirrors kept o
      → (NoneFailed l l' k k' (g.faults old) (g.faults new) → IfSome asked (λ request. IfSome (files_for request files) (λ folder. IsTold request (still_told g old new) → IsExact (Ends (still_told g old new) request folder) (but_for_mirrors o))))
      → (¬ Rose s s' → NoneFailed l l' k k' (g.faults old) (g.faults new) → IfServe asked (λ named. IsExactServing named files left o))
      → ¬ Rose s s' → NoneFailed l l' k k' (g.faults old) (g.faults new)
      → IfSome asked (λ request. IfSome (files_for request files) (λ folder. AreTold (still_told g old new) left request → IsComplete (CallsFor (still_told g old new) left request folder) (PromisedEnough puts room g old new request taken_before taken_now mirrors) o))
  complete_run None r t m exact serving still n = tt
  complete_run (Some request) r t m exact serving still n =
      by (Some request) (files_for request files) left r.command t.source m (exact n)
      (serve_then (Some request) (λ named. IsExactServing named files left o) (λ named. IsExactServing named (files_for request files) left o)
      (λ named is h.
      subst (λ (a : Option Request). IsExactServing named (files_over a) left o) (sym is)
      (subst (λ (f : Option Folder). IsExactServing named f left o) (sym (files_served named files)) h))
      (serving still n))
    where
      files_over : Option Request → Option Folder
      files_over None = files
      files_over (Some r) = files_for r files

      Command : Option Folder → Request → Type 0
      Command files request = Promises (Ends (still_told g old new) request) (TellsClient request) (Rose (g.faults old) (g.faults new)) files l l' taken_before taken_now k k' o

      Complete : Option (List ℕ) → Request → Folder → Type 0
      Complete left request folder = IsComplete (CallsFor (still_told g old new) left request folder) (PromisedEnough puts room g old new request taken_before taken_now mirrors) o

      -- without a mirror
      plain : (request : Request) (folder : Folder) → Promises (Ends (still_told g old new) request) (TellsClient request) (Rose (g.faults old) (g.faults new)) (Some folder) l l' taken_before taken_now k k' o
          → (o ≡ Err Source → Rose s s') → (PromisedEnough puts room g old new request taken_before taken_now mirrors → o ≢ Err MirrorLost)
          → IsExact (Ends (still_told g old new) request folder) (but_for_mirrors o) → IsComplete (Ends (still_told g old new) request folder) (PromisedEnough puts room g old new request taken_before taken_now mirrors) o
      plain request folder p source mirror exact = λ free enough.
          let E : Ending = Ends (still_told g old new) request folder in
          answers E free o (subst (IsExact E) (same_but o (mirror enough)) exact).called_for p.words (λ e. n.library_stays (p.library e)) (λ e. still (source e)) (λ e. n.sink_stays (p.sink e)) (λ e. n.disk_stays (p.disk e)) (mirror enough)

      by : (asked : Option Request) (files : Option Folder) (left : Option (List ℕ)) → IfSome asked (Command files) → (o ≡ Err Source → Rose s s') → OnMirrors octets label handed puts room g old new asked taken_before taken_now mirrors kept o
          → IfSome asked (λ request. IfSome files (λ folder. IsTold request (still_told g old new) → IsExact (Ends (still_told g old new) request folder) (but_for_mirrors o)))
          → IfServe asked (λ named. IsExactServing named files left o)
          → IfSome asked (λ request. IfSome files (λ folder. AreTold (still_told g old new) left request → Complete left request folder))
      by None files left p source m exact serving = tt
      by (Some request) None left p source m exact serving = tt
      by (Some (Serve file)) (Some folder) None p source m exact serving = λ told. absurd (told refl)
      by (Some (Serve file)) (Some folder) (Some text) p source m exact serving = λ told free enough.
          answers _ free o serving.called_for p.words (λ e. n.library_stays (p.library e)) (λ e. still (source e)) (λ e. n.sink_stays (p.sink e)) (λ e. n.disk_stays (p.disk e)) (λ e. p.mirror e)
      by (Some (ServeSigned file key chain)) (Some folder) None p source m exact serving = λ told. absurd (told refl)
      by (Some (ServeSigned file key chain)) (Some folder) (Some text) p source m exact serving = λ told free enough.
          answers _ free o serving.called_for p.words (λ e. n.library_stays (p.library e)) (λ e. still (source e)) (λ e. n.sink_stays (p.sink e)) (λ e. n.disk_stays (p.disk e)) (λ e. p.mirror e)
      by (Some (Publish roads settings)) (Some folder) left p source m exact serving = λ told.
          plain (Publish roads settings) folder p source
          (λ enough e. none_lost octets label handed puts room g old new roads settings taken_before taken_now mirrors kept (subst (SealsWhatItMirrors octets label handed puts room g old new taken_before taken_now mirrors kept) e m) enough) (exact told)
      by (Some request) (Some folder) left p source m exact serving = λ told. plain request folder p source (λ enough e. p.mirror e) (exact told)

  -- the same if the library may have counted a file that is missing or too long
  pub complete_files : (asked : Option Request) → RunPromises g old new asked files l l' taken_before taken_now k k' o → RunTakes asked files left rest s s' taken_before taken_now o
      → OnMirrors octets label handed puts room g old new asked taken_before taken_now mirrors kept o
      → (NoneElseFailed o k k' (g.faults old) (g.faults new) → IfSome asked (λ request. IfSome (files_for request files) (λ folder. IsTold request (still_told g old new) → IsExact (Ends (still_told g old new) request folder) (but_for_mirrors o))))
      → (¬ Rose s s' → NoneElseFailed o k k' (g.faults old) (g.faults new) → IfServe asked (λ named. IsExactServing named files left o))
      → ¬ Rose s s' → NoneElseFailed o k k' (g.faults old) (g.faults new)
      → IfSome asked (λ request. IfSome (files_for request files) (λ folder. AreTold (still_told g old new) left request → IsComplete (CallsFor (still_told g old new) left request folder) (PromisedEnough puts room g old new request taken_before taken_now mirrors) o))
  complete_files None r t m exact serving still n = tt
  complete_files (Some request) r t m exact serving still n =
      by (Some request) (files_for request files) left r.command t.source m (exact n)
      (serve_then (Some request) (λ named. IsExactServing named files left o) (λ named. IsExactServing named (files_for request files) left o)
      (λ named is h.
      subst (λ (a : Option Request). IsExactServing named (files_over a) left o) (sym is)
      (subst (λ (f : Option Folder). IsExactServing named f left o) (sym (files_served named files)) h))
      (serving still n))
    where
      files_over : Option Request → Option Folder
      files_over None = files
      files_over (Some r) = files_for r files

      Command : Option Folder → Request → Type 0
      Command files request = Promises (Ends (still_told g old new) request) (TellsClient request) (Rose (g.faults old) (g.faults new)) files l l' taken_before taken_now k k' o

      Complete : Option (List ℕ) → Request → Folder → Type 0
      Complete left request folder = IsComplete (CallsFor (still_told g old new) left request folder) (PromisedEnough puts room g old new request taken_before taken_now mirrors) o

      -- without a mirror
      plain : (request : Request) (folder : Folder) → Promises (Ends (still_told g old new) request) (TellsClient request) (Rose (g.faults old) (g.faults new)) (Some folder) l l' taken_before taken_now k k' o
          → (o ≡ Err Source → Rose s s') → (PromisedEnough puts room g old new request taken_before taken_now mirrors → o ≢ Err MirrorLost)
          → IsExact (Ends (still_told g old new) request folder) (but_for_mirrors o) → IsComplete (Ends (still_told g old new) request folder) (PromisedEnough puts room g old new request taken_before taken_now mirrors) o
      plain request folder p source mirror exact = λ free enough.
          let E : Ending = Ends (still_told g old new) request folder in
          answers E free o (subst (IsExact E) (same_but o (mirror enough)) exact).called_for p.words (λ e. n.library_gave e) (λ e. still (source e)) (λ e. n.sink_stays (p.sink e)) (λ e. n.disk_stays (p.disk e)) (mirror enough)

      by : (asked : Option Request) (files : Option Folder) (left : Option (List ℕ)) → IfSome asked (Command files) → (o ≡ Err Source → Rose s s') → OnMirrors octets label handed puts room g old new asked taken_before taken_now mirrors kept o
          → IfSome asked (λ request. IfSome files (λ folder. IsTold request (still_told g old new) → IsExact (Ends (still_told g old new) request folder) (but_for_mirrors o)))
          → IfServe asked (λ named. IsExactServing named files left o)
          → IfSome asked (λ request. IfSome files (λ folder. AreTold (still_told g old new) left request → Complete left request folder))
      by None files left p source m exact serving = tt
      by (Some request) None left p source m exact serving = tt
      by (Some (Serve file)) (Some folder) None p source m exact serving = λ told. absurd (told refl)
      by (Some (Serve file)) (Some folder) (Some text) p source m exact serving = λ told free enough.
          answers _ free o serving.called_for p.words (λ e. n.library_gave e) (λ e. still (source e)) (λ e. n.sink_stays (p.sink e)) (λ e. n.disk_stays (p.disk e)) (λ e. p.mirror e)
      by (Some (ServeSigned file key chain)) (Some folder) None p source m exact serving = λ told. absurd (told refl)
      by (Some (ServeSigned file key chain)) (Some folder) (Some text) p source m exact serving = λ told free enough.
          answers _ free o serving.called_for p.words (λ e. n.library_gave e) (λ e. still (source e)) (λ e. n.sink_stays (p.sink e)) (λ e. n.disk_stays (p.disk e)) (λ e. p.mirror e)
      by (Some (Publish roads settings)) (Some folder) left p source m exact serving = λ told.
          plain (Publish roads settings) folder p source
          (λ enough e. none_lost octets label handed puts room g old new roads settings taken_before taken_now mirrors kept (subst (SealsWhatItMirrors octets label handed puts room g old new taken_before taken_now mirrors kept) e m) enough) (exact told)
      by (Some request) (Some folder) left p source m exact serving = λ told. plain request folder p source (λ enough e. p.mirror e) (exact told)

-- ---- `prove` over a publication that can be installed

module _ (makings : OneMaking) (laws : AcceptedLaws) (told : UnknownNodesAreTold) (folder : Folder) (file : List ℕ) (q : Query) (p : Publication) (read : publication_at folder file ≡ Ok p) (has : IsInstallable p) (known : AreKnown p.parts q) where
  reply : (o : Result Conclusion Fault) (t : List ℕ) → ends_prove file q folder o t → EndsReply q p o t
  reply o t h = installed makings p (EndsReply q p) o t has (read_as (publication_at folder file) p (EndsProve q) o t read h)

  no_fault : (f : Fault) (t : List ℕ) → ends_prove file q folder (Err f) t → ⊥
  no_fault (UnknownNode id) t h = both_known p.parts q.from q.to id known.from known.to (reply (Err (UnknownNode id)) t h).0
  no_fault f t h = reply (Err f) t h

  proves : (old new : Option (List ℕ)) (o : Result Conclusion Fault) → Answered (ends_prove file q folder) old new o → (o ≡ Err MirrorLost → ⊥) → WritesAccepted (IsTaken p q) old new o
  proves = writes_accepted (ends_prove file q folder) (IsTaken p q) (taken laws told folder file q p read) (λ t h. reply (Ok Refused) t h) (λ t h. reply (Ok Evidence) t h) no_fault

-- the same for a run
pub proves_run : OneMaking → AcceptedLaws → UnknownNodesAreTold → {D : Type 0} (g : Ghosts D) (old new : D) (asked : Option Request) (files : Option Folder) (l l' : ℕ) (taken_before taken_now : Option (List ℕ)) (k k' : ℕ) (o : Result Conclusion Fault)
    → RunPromises g old new asked files l l' taken_before taken_now k k' o → IfSome asked (λ request. ProvesKnown request files taken_before taken_now o)
proves_run makings laws told g old new asked files l l' taken_before taken_now k k' o r = by asked files r.command
  where
    by : (asked : Option Request) (files : Option Folder) → IfSome asked (λ request. Promises (Ends (still_told g old new) request) (TellsClient request) (Rose (g.faults old) (g.faults new)) (files_for request files) l l' taken_before taken_now k k' o)
        → IfSome asked (λ request. ProvesKnown request files taken_before taken_now o)
    by None files p = tt
    by (Some (Prove file q)) (Some folder) p = λ b read has known. proves makings laws told folder file q b read has known taken_before taken_now o p.answered (λ e. p.mirror e)
    by (Some request) files p = tt
