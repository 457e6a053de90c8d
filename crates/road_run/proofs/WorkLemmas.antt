-- The work of each command, combined with the work that arguments request.
use Rattle.std.proofs.Common.{◌≡◌, ◌≢◌, ℕ, List, [], refl, subst}
use Rattle.std.specs.declared.option.Option.{Option}
use Rattle.std.specs.declared.option.Option.TheVariants.{None, Some}
use Rattle.std.specs.declared.result.Result.{Result}
use Rattle.std.specs.declared.result.Result.TheVariants.{Err}
use Rattle.road_io.specs.declared.library.Library.{Ghosts as LibraryView}
use Rattle.road_io.specs.declared.source.Source.{Ghosts as SourceView}
use Rattle.road_io.specs.declared.sink.Sink.{Ghosts as SinkView}
use Rattle.road_io.specs.declared.disk.Disk.{Ghosts as DiskView}
use Rattle.mirror_out.specs.declared.mirror.Mirror.{Ghosts as MirrorView}
use Rattle.road_io.specs.Causes.{Rose}
use Rattle.road_io.specs.Disk.{Stays}
use Rattle.road_io.specs.Moments.{AtEachMoment, still_told}
use Rattle.key_desk.specs.Stands.{KeepsStanding}
use Rattle.road_command.specs.Requests.{Request}
use Rattle.command_files.specs.Endings.{NoDisk, Promises}
use Rattle.command_files.proofs.Written.{beside_disk}
use Rattle.command_desks.proofs.Disks.{no_moment, no_step}
use Rattle.command_files.specs.Asking.{AsksFront}
use Rattle.command_files.specs.Spared.{SparesLibrary, SparesBut}
use Rattle.command_files.specs.declared.fault.Fault.{Fault}
use Rattle.command_files.specs.declared.fault.Fault.TheVariants.{Words, Source, Sink, Disk}
use Rattle.command_files.specs.declared.ended.Conclusion.{Conclusion}
use Rattle.server_commands.specs.Guarding.{ServeFiles}
use Rattle.road_run.specs.Commands.{Ends, files_for, TellsClient, OnDisk, OnMirrors, LeavesUnused}
use Rattle.road_run.specs.Gone.{OnGone}
use Rattle.road_run.specs.Names.{files_named}
use Rattle.road_run.specs.Sources.{IfServe, UnlessServe}
use Rattle.road_run.specs.Runs.{WorksOver}
use Rattle.road_run.proofs.RunLemmas.{run_promises, run_without_disk, run_nothing, run_takes_nothing, run_gave_nothing, asks_none}

-- the list of the mirrors that are gone, for the arguments that make a request
module _ {M D : Type 0} (octets : M → Option (List ℕ)) (label handed puts room faults : M → ℕ) (g : DiskView D) (before now : D) (taken_before taken_now : Option (List ℕ)) (old kept gone_before gone_now : List M) (o : Result Conclusion Fault) (asked : Option Request) where
  pub gone_for : (request : Request) → Some request ≡ asked → OnGone octets label handed puts room faults g before now (Some request) taken_before taken_now old kept gone_before gone_now o
      → OnGone octets label handed puts room faults g before now asked taken_before taken_now old kept gone_before gone_now o
  gone_for request is h = subst (λ (a : Option Request). OnGone octets label handed puts room faults g before now a taken_before taken_now old kept gone_before gone_now o) is h

  pub gone_for_none : None ≡ asked → gone_now ≡ gone_before → OnGone octets label handed puts room faults g before now asked taken_before taken_now old kept gone_before gone_now o
  gone_for_none is h = subst (λ (a : Option Request). OnGone octets label handed puts room faults g before now a taken_before taken_now old kept gone_before gone_now o) is h

module _ {L S K D M : Type 0} (library : LibraryView L) (source : SourceView S) (sink : SinkView K) (disk : DiskView D) (mirror : MirrorView M) (asked : Option Request) where
  -- arguments that fit no command
  pub works_nothing : (l : L) (s : S) (k : K) (d : D) (ms : List M) → None ≡ asked → WorksOver library source sink disk mirror asked l l s s k k d d ms ms (Err Words)
  works_nothing l s k d ms is = subst (λ (a : Option Request). WorksOver library source sink disk mirror a l l s s k k d d ms ms (Err Words)) is (record {
    promised = run_nothing disk d None (library.files l) (library.faults l) (sink.taken k) (sink.faults k) refl;
    takes = run_takes_nothing None (library.files l) (source.left s) (source.faults s) (sink.taken k) (sink.taken k) refl;
    gave = run_gave_nothing None (library.files l) (source.given s) (source.ended s) (source.faults s) (sink.taken k) (sink.taken k) refl;
    mirrors = refl;
    unfaulted = λ n. refl;
    library_spared = λ n. refl;
    source_spared = λ n. refl;
    sink_spared = λ n. refl;
    asks = asks_none [] (library.asked l);
    unused = (refl, refl, refl, refl);
  })

  module _ (l l' : L) (s s' : S) (k k' : K) (d d' : D) (ms ms' : List M) (o : Result Conclusion Fault) (request : Request) (is : Some request ≡ asked) where
    -- the work for a request is the work for the arguments that make it
    pub works : WorksOver library source sink disk mirror (Some request) l l' s s' k k' d d' ms ms' o → WorksOver library source sink disk mirror asked l l' s s' k k' d d' ms ms' o
    works h = subst (λ (a : Option Request). WorksOver library source sink disk mirror a l l' s s' k k' d d' ms ms' o) is h

  module _ (l l' : L) (s : S) (k k' : K) (d d' : D) (ms ms' : List M) (o : Result Conclusion Fault) (request : Request) (is : Some request ≡ asked)
      (serves : (P : ServeFiles → Type 0) → IfServe (Some request) P) (kept : (P : Type 0) → P → UnlessServe (Some request) P) (no_frames : TellsClient request Source → ⊥) where
    -- a command without a source
    pub works_without_source : Promises (Ends (still_told disk d d') request) (TellsClient request) (Rose (disk.faults d) (disk.faults d')) (files_for request (library.files l')) (library.faults l) (library.faults l') (sink.taken k) (sink.taken k') (sink.faults k) (sink.faults k') o
        → OnDisk disk d d' request (library.files l') (sink.taken k) (sink.taken k') o → KeepsStanding disk d d'
        → OnMirrors mirror.octets mirror.named mirror.handed mirror.puts mirror.room disk d d' (Some request) (sink.taken k) (sink.taken k') ms ms' o
        → (o ≢ Err Disk → disk.faults d' ≡ disk.faults d) → SparesLibrary o (library.faults l) (library.faults l') → SparesBut Sink o (sink.faults k) (sink.faults k')
        → AsksFront (files_named (Some request)) (library.asked l) (library.asked l') → LeavesUnused (Some request) (l' ≡ l) (s ≡ s) (k' ≡ k) (d' ≡ d)
        → WorksOver library source sink disk mirror asked l l' s s k k' d d' ms ms' o
    works_without_source promised on_disk stands mirrors unfaulted loads writes asks unused = works l l' s s k k' d d' ms ms' o request is (record {
      promised = run_promises disk d d' (Some request) (library.files l') (library.faults l) (library.faults l') (sink.taken k) (sink.taken k') (sink.faults k) (sink.faults k') o request refl promised on_disk stands;
      takes = record { serves = serves _; kept = kept _ refl; source = λ e. absurd (no_frames (promised.source e)) };
      gave = record { serves = serves _; ended = serves _; nothing = kept _ refl };
      mirrors = mirrors;
      unfaulted = unfaulted;
      library_spared = loads;
      source_spared = λ n. refl;
      sink_spared = writes;
      asks = asks;
      unused = unused;
    })

  module _ (l l' : L) (s : S) (k k' : K) (d : D) (ms : List M) (o : Result Conclusion Fault) (request : Request) (is : Some request ≡ asked)
      (serves : (P : ServeFiles → Type 0) → IfServe (Some request) P) (kept : (P : Type 0) → P → UnlessServe (Some request) P) (no_frames : TellsClient request Source → ⊥) where
    -- a command without a source and without a disk
    pub works_without_disk : Promises (Ends (still_told disk d d) request) (TellsClient request) NoDisk (files_for request (library.files l')) (library.faults l) (library.faults l') (sink.taken k) (sink.taken k') (sink.faults k) (sink.faults k') o
        → (AtEachMoment disk d d Stays → OnDisk disk d d request (library.files l') (sink.taken k) (sink.taken k') o)
        → OnMirrors mirror.octets mirror.named mirror.handed mirror.puts mirror.room disk d d (Some request) (sink.taken k) (sink.taken k') ms ms o
        → SparesLibrary o (library.faults l) (library.faults l') → SparesBut Sink o (sink.faults k) (sink.faults k')
        → AsksFront (files_named (Some request)) (library.asked l) (library.asked l') → LeavesUnused (Some request) (l' ≡ l) (s ≡ s) (k' ≡ k) (d ≡ d)
        → WorksOver library source sink disk mirror asked l l' s s k k' d d ms ms o
    works_without_disk promised on_disk mirrors loads writes asks unused = works_without_source l l' s k k' d d ms ms o request is serves kept no_frames
        (beside_disk (Ends (still_told disk d d) request) (TellsClient request) (Rose (disk.faults d) (disk.faults d)) (files_for request (library.files l')) (library.faults l) (library.faults l') (sink.faults k) (sink.faults k') (sink.taken k) (sink.taken k') o promised)
        (on_disk (no_moment disk d)) (no_step disk d) mirrors (λ n. refl) loads writes asks unused
