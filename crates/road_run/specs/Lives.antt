-- Whole lives of an owner's disk: runs of the program with any arguments, one after the other; looks before them
-- that spend a one-time key on a text on the disk; and crashes within or between them.
use Rattle.std.specs.Prelude.{◌≡◌, ◌≢◌, ℕ, ◌≤◌, List, [], ◌∷◌, ◌++◌, map, IfSome}
use Rattle.std.specs.List.{range_with_len}
use Rattle.std.specs.declared.option.Option.{Option}
use Rattle.std.specs.declared.option.Option.TheVariants.{None, Some}
use Rattle.std.specs.declared.result.Result.{Result}
use Rattle.std.specs.declared.result.Result.TheVariants.{Ok, Err}
use Rattle.road_io.specs.declared.disk.Disk.{Ghosts}
use Rattle.road_io.specs.Moments.{EachImage}
use Rattle.road_io.specs.Contents.{Folder}
use Rattle.key_desk.specs.Runs.{Crashed}
use Rattle.desk_sight.specs.declared.looking.Use.{Use}
use Rattle.desk_sight.specs.Looks.{Spends}
use Rattle.road_command.specs.Requests.{Request, Publish, Succeed, Links}
use Rattle.command_files.specs.declared.fault.Fault.{Fault}
use Rattle.command_files.specs.declared.fault.Fault.TheVariants.{Sink, MirrorLost}
use Rattle.command_files.specs.declared.ended.Conclusion.{Conclusion}
use Rattle.owner_commands.specs.Signing.{OnWriting, SpreadSealed}
use Rattle.owner_commands.specs.StandingKeys.{FollowsByFile, WroteChain}
use Rattle.owner_commands.specs.Releases.{Release, header_release, link_release, AllStand, AllApart}
use Rattle.road_run.specs.Commands.{OnDisk, OnMirrors, RunPromises}

-- the signatures released if something may have been written
abbrev pub where_written : (P : Type 0) (outcome : Result Conclusion Fault) → OnWriting outcome P →
    (P → List Release) → List Release
where_written P (Ok verdict) it given = given it
where_written P (Err Sink) it given = given it
where_written P (Err MirrorLost) it given = given it
where_written P (Err fault) it given = []

-- each disk of a life tells its contents
abbrev pub EachTells : {D : Type 0} → Ghosts D → D → List (D × List Release) → Type 0
EachTells g disk [] = g.content disk ≢ None
EachTells g disk (state ∷ states) = (g.content disk ≢ None) × EachTells g state.0 states

-- M is a mirror; octets, label, handed, puts and room give its contents, its label, the number of pieces it
-- was handed, and its promises
module _ {M : Type 0} (octets : M → Option (List ℕ)) (label handed puts room : M → ℕ) {D : Type 0}
    (g : Ghosts D) where
  -- A run of the program from one disk to another: the command that its arguments request, its files, sink and
  -- mirrors, how it ended, and the guarantees of `run` for these.
  pub record Run (old new : D) : Type 0 where
    pub asked : Option Request
    pub files : Option Folder
    pub library_before : ℕ
    pub library_now : ℕ
    pub taken_before : Option (List ℕ)
    pub taken_now : Option (List ℕ)
    pub sink_before : ℕ
    pub sink_now : ℕ
    pub mirrors_before : List M
    pub mirrors_now : List M
    pub outcome : Result Conclusion Fault
    pub promised : RunPromises g old new asked files library_before library_now taken_before
        taken_now sink_before sink_now outcome
    pub mirrored : OnMirrors octets label handed puts room g old new asked taken_before taken_now
        mirrors_before mirrors_now outcome

  -- The signatures that a run released, by its guarantees. `publish` releases the signature of the publication of
  -- which octets went to the sink or to a mirror. `succeed` releases the signature of the link text of the new key.
  -- `links` releases the signatures of the chain of which octets went to the sink. No other command releases any.
  -- If a sink and the mirrors do not state what they took, or took nothing, the publication or the chain in the
  -- guarantee counts as released: it is on the disk, but no clause states that its octets are those that were
  -- taken.
  abbrev pub given_by : (old new : D) (asked : Option Request) (files : Option Folder)
      (taken_before taken_now : Option (List ℕ)) (before now : List M)
      (outcome : Result Conclusion Fault) →
      IfSome asked (λ request. OnDisk g old new request files taken_before taken_now outcome) →
      OnMirrors octets label handed puts room g old new asked taken_before taken_now before now
      outcome →
      List Release
  given_by old new (Some (Publish roads settings)) files taken_before taken_now before now outcome
      on_disk mirrored =
      where_written
      (SpreadSealed octets label handed puts room g old new taken_before taken_now before now outcome)
      outcome mirrored.sealed (λ it. header_release it.on_disk.key it.on_disk.area it.publication ∷ [])
  given_by old new (Some (Succeed secret kind)) files taken_before taken_now before now outcome
      on_disk mirrored =
      where_written (FollowsByFile g new files secret kind) outcome on_disk.follows
      (λ it. link_release it.follows.keys it.follows.before ∷ [])
  given_by old new (Some Links) files taken_before taken_now before now outcome on_disk mirrored =
      where_written (WroteChain g new taken_before taken_now outcome) outcome on_disk.1
      (λ it. map (link_release it.chain.keys) (range_with_len 0 it.chain.last))
  given_by old new asked files taken_before taken_now before now outcome on_disk mirrored = []

  abbrev pub given : (old new : D) → Run old new → List Release
  given old new run = given_by old new run.asked run.files run.taken_before run.taken_now
      run.mirrors_before run.mirrors_now run.outcome run.promised.on_disk run.mirrored

  -- One step of a life, from the signatures released before to those released after. A run ends; or a crash
  -- interrupts a run at one of its moments, before it releases anything; or a crash comes between two runs. A run
  -- that is interrupted while it writes is one whose sink fails there, followed by a crash. Between two runs, a
  -- look may spend a slot on the text in it, up to its end or until a crash, and releases nothing.
  pub data Step (old new : D) (before after : List Release) : Type 0 where
    Ran : (run : Run old new) → after ≡ before ++ given old new run → Step old new before after
    Cut : (called : D) (run : Run old called) (k : ℕ) → g.clock old ≤ k → k ≤ g.clock called →
        Crashed g k called new → after ≡ before → Step old new before after
    Broke : Crashed g (g.clock old) old new → after ≡ before → Step old new before after
    Spent : (what : Use) → Spends g what old new → after ≡ before → Step old new before after
    SpentCut : (what : Use) (called : D) → Spends g what old called → (k : ℕ) → g.clock old ≤ k →
        k ≤ g.clock called → Crashed g k called new → after ≡ before → Step old new before after

  -- these disks, each with the signatures released so far, follow each other by steps
  abbrev pub IsLife : D → List Release → List (D × List Release) → Type 0
  IsLife disk before [] = Unit {0}
  IsLife disk before (state ∷ states) = Step disk state.0 before state.1 ×
      IsLife state.0 state.1 states

  -- at each moment of a call these texts are in their slots in every image
  abbrev pub StandAlong : D → D → List Release → Type 0
  StandAlong old new before = (k : ℕ) (i : List ℕ) → g.clock old ≤ k → k ≤ g.clock new →
      g.image_at new k i → AllStand before i

  -- the same at each moment of a step
  abbrev pub StandWithin : (old new : D) (before after : List Release) →
      Step old new before after → Type 0
  StandWithin old new before after (Ran run more) = StandAlong old new before
  StandWithin old new before after (Cut called run k from to crashed same) =
      StandAlong old called before
  StandWithin old new before after (Broke crashed same) = EachImage g new (AllStand before)
  StandWithin old new before after (Spent what spends same) = StandAlong old new before
  StandWithin old new before after (SpentCut what called spends k from to crashed same) =
      StandAlong old called before

  -- At each moment of a life, the texts of the signatures released before are in their slots in every image, in
  -- areas of the keys that made the signatures. No two of all released signatures were made by keys with the same
  -- identifier and by one-time keys with the same number, unless they consist of equal octets, of the same link
  -- text.
  abbrev pub NoneSignsTwice : (disk : D) (before : List Release) (states : List (D × List Release)) →
      IsLife disk before states → Type 0
  NoneSignsTwice disk before [] life = Unit {0}
  NoneSignsTwice disk before (state ∷ states) life =
      StandWithin disk state.0 before state.1 life.0 × EachImage g state.0 (AllStand state.1) ×
      AllApart state.1 × NoneSignsTwice state.0 state.1 states life.1
