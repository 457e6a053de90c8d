-- The guarantees of `run`, as one fact about its objects: a library, a source, a sink, a disk and mirrors. Each
-- object is given by what its trait states about it.
use Rattle.std.specs.Prelude.{◌≡◌, ◌≢◌, ℕ, List, IfSome}
use Rattle.std.specs.declared.option.Option.{Option}
use Rattle.std.specs.declared.option.Option.TheVariants.{Some}
use Rattle.std.specs.declared.result.Result.{Result}
use Rattle.std.specs.declared.result.Result.TheVariants.{Err}
use Rattle.road_io.specs.declared.library.Library.{Ghosts as LibraryView}
use Rattle.road_io.specs.declared.source.Source.{Ghosts as SourceView}
use Rattle.road_io.specs.declared.sink.Sink.{Ghosts as SinkView}
use Rattle.road_io.specs.declared.disk.Disk.{Ghosts as DiskView}
use Rattle.mirror_out.specs.declared.mirror.Mirror.{Ghosts as MirrorView}
use Rattle.road_io.specs.Causes.{Rose}
use Rattle.road_io.specs.Given.{Gave}
use Rattle.road_io.specs.Moments.{still_told}
use Rattle.road_command.specs.Requests.{Request}
use Rattle.command_files.specs.Outcomes.{status_of}
use Rattle.command_files.specs.Exact.{NoneFailed, IsExact}
use Rattle.command_files.specs.Asking.{AsksFront}
use Rattle.command_files.specs.Spared.{SparesLibrary, SparesBut}
use Rattle.command_files.specs.declared.fault.Fault.{Fault}
use Rattle.command_files.specs.declared.fault.Fault.TheVariants.{Source, Sink, Disk}
use Rattle.command_files.specs.declared.ended.Conclusion.{Conclusion}
use Rattle.road_run.specs.Commands.{Ends, files_for, IsTold, LeavesUnused, OnMirrors, WritesBehindSync, RunPromises, but_for_mirrors}
use Rattle.road_run.specs.Complete.{CallsFor, AreTold, IsComplete, NoneElseFailed, PromisedEnough, ProvesKnown}
use Rattle.road_run.specs.Names.{files_named}
use Rattle.road_run.specs.Sources.{IfServe, IsExactServing, RunGave, RunTakes}
use Rattle.road_run.specs.Accepting.{AcceptsHonest, FindsHonest, RepliesAreTaken}

module _ {L S K D M : Type 0} (library : LibraryView L) (source : SourceView S) (sink : SinkView K)
    (disk : DiskView D) (mirror : MirrorView M) where
  -- The effect of requested work on its objects, however it ended: its guarantees, what it takes from the source,
  -- what the source gave, what it hands to the mirrors, that each failure of an object is its result, which names
  -- it loads, and that objects which it does not use are unchanged.
  pub record WorksOver (asked : Option Request) (l l' : L) (s s' : S) (k k' : K) (d d' : D)
      (ms ms' : List M) (o : Result Conclusion Fault) : Type 0 where
    pub promised : RunPromises disk d d' asked (library.files l') (library.faults l)
        (library.faults l') (sink.taken k) (sink.taken k') (sink.faults k) (sink.faults k') o
    pub takes : RunTakes asked (library.files l') (source.left s) (source.left s') (source.faults s)
        (source.faults s') (sink.taken k) (sink.taken k') o
    pub gave : RunGave asked (library.files l') (source.given s) (source.given s') (source.ended s')
        (source.faults s) (source.faults s') (sink.taken k) (sink.taken k') o
    pub mirrors : OnMirrors mirror.octets mirror.named mirror.handed mirror.puts mirror.room disk d
        d' asked (sink.taken k) (sink.taken k') ms ms' o
    pub unfaulted : o ≢ Err Disk → disk.faults d' ≡ disk.faults d
    pub library_spared : SparesLibrary o (library.faults l) (library.faults l')
    pub source_spared : SparesBut Source o (source.faults s) (source.faults s')
    pub sink_spared : SparesBut Sink o (sink.faults k) (sink.faults k')
    pub asks : AsksFront (files_named asked) (library.asked l) (library.asked l')
    pub unused : LeavesUnused asked (l' ≡ l) (s' ≡ s) (k' ≡ k) (d' ≡ d)

  -- a run of this request, with these objects before and after, and with this status and outcome: its work, and the
  -- consequences of its work
  pub record RunsOver (asked : Option Request) (l l' : L) (s s' : S) (k k' : K) (d d' : D)
      (ms ms' : List M) (exit : ℕ) (o : Result Conclusion Fault) : Type 0 where
    pub status : exit ≡ status_of o
    pub works : WorksOver asked l l' s s' k k' d d' ms ms' o
    pub synced : WritesBehindSync mirror.octets mirror.named mirror.handed mirror.puts mirror.room disk
        d d' asked (sink.taken k) (sink.taken k') ms ms' o
    pub exact : NoneFailed (library.faults l) (library.faults l') (sink.faults k) (sink.faults k')
        (disk.faults d) (disk.faults d') →
        IfSome asked (λ request. IfSome (files_for request (library.files l')) (λ folder.
        IsTold request (still_told disk d d') →
        IsExact (Ends (still_told disk d d') request folder) (but_for_mirrors o)))
    pub serve_exact : ¬ Rose (source.faults s) (source.faults s') → NoneFailed (library.faults l)
        (library.faults l') (sink.faults k) (sink.faults k') (disk.faults d) (disk.faults d') →
        IfServe asked (λ named. IsExactServing named (library.files l') (source.left s) o)
    pub given_exact : ¬ Rose (source.faults s) (source.faults s') → NoneFailed (library.faults l)
        (library.faults l') (sink.faults k) (sink.faults k') (disk.faults d) (disk.faults d') →
        IfServe asked (λ named. Gave (source.given s) (source.given s') (λ octets.
        IsExactServing named (library.files l') (Some octets) o))
    pub honest : IfSome asked (λ request. AcceptsHonest request (library.files l') (sink.taken k)
        (sink.taken k') o)
    pub right : IfSome asked (λ request. FindsHonest request (library.files l') (still_told disk d d')
        (sink.taken k) (sink.taken k') o)
    pub taken : IfSome asked (λ request. RepliesAreTaken request (library.files l') (sink.taken k)
        (sink.taken k') o)
    pub proves : IfSome asked (λ request. ProvesKnown request (library.files l') (sink.taken k)
        (sink.taken k') o)
    pub complete : ¬ Rose (source.faults s) (source.faults s') → NoneFailed (library.faults l)
        (library.faults l') (sink.faults k) (sink.faults k') (disk.faults d) (disk.faults d') →
        IfSome asked (λ request. IfSome (files_for request (library.files l')) (λ folder.
        AreTold (still_told disk d d') (source.left s) request →
        IsComplete (CallsFor (still_told disk d d') (source.left s) request folder)
        (PromisedEnough mirror.puts mirror.room disk d d' request (sink.taken k) (sink.taken k') ms)
        o))
    -- the same where a library counts a file that is missing or too long as a failure
    pub file_exact : NoneElseFailed o (sink.faults k) (sink.faults k') (disk.faults d)
        (disk.faults d') →
        IfSome asked (λ request. IfSome (files_for request (library.files l')) (λ folder.
        IsTold request (still_told disk d d') →
        IsExact (Ends (still_told disk d d') request folder) (but_for_mirrors o)))
    pub file_serve_exact : ¬ Rose (source.faults s) (source.faults s') → NoneElseFailed o
        (sink.faults k) (sink.faults k') (disk.faults d) (disk.faults d') →
        IfServe asked (λ named. IsExactServing named (library.files l') (source.left s) o)
    pub file_complete : ¬ Rose (source.faults s) (source.faults s') → NoneElseFailed o
        (sink.faults k) (sink.faults k') (disk.faults d) (disk.faults d') →
        IfSome asked (λ request. IfSome (files_for request (library.files l')) (λ folder.
        AreTold (still_told disk d d') (source.left s) request →
        IsComplete (CallsFor (still_told disk d d') (source.left s) request folder)
        (PromisedEnough mirror.puts mirror.room disk d d' request (sink.taken k) (sink.taken k') ms)
        o))
