-- The effect of the guarded call on the objects that it is given: it looks at the desk, and runs after a look that found
-- nothing strange.
use Rattle.std.specs.Prelude.{◌≡◌, ◌≢◌, ◌⊎◌, ℕ, zero, ◌<◌, ◌≤◌, Bool, false, List, []}
use Rattle.std.specs.Option.{ForSome}
use Rattle.std.specs.declared.option.Option.{Option}
use Rattle.std.specs.declared.option.Option.TheVariants.{None, Some}
use Rattle.road_io.specs.declared.library.Library.{Ghosts as LibraryView}
use Rattle.road_io.specs.declared.source.Source.{Ghosts as SourceView}
use Rattle.road_io.specs.declared.sink.Sink.{Ghosts as SinkView}
use Rattle.road_io.specs.declared.disk.Disk.{Ghosts as DiskView}
use Rattle.road_io.specs.Causes.{Rose}
use Rattle.road_io.specs.Disk.{Stays}
use Rattle.road_io.specs.Moments.{AtEachMoment, Image, still_told}
use Rattle.mirror_out.specs.declared.mirror.Mirror.{Ghosts as MirrorView}
use Rattle.desk_areas.specs.Layout.{SlotId, IsSigned}
use Rattle.desk_sight.specs.Images.{seen_of}
use Rattle.desk_sight.specs.declared.looking.Unfit.{Unfit}
use Rattle.desk_sight.specs.declared.looking.Unfit.TheVariants.{Disk, Memory}
use Rattle.desk_sight.specs.declared.sight.Sight.{Sight}
use Rattle.desk_sight.specs.declared.looking.Spending.{Spending}
use Rattle.desk_fit.specs.Fits.{BeginsQuiet, BeginsStable, BeginsUnrefused, IsFit, IsSpentSo, IsWhy, LeavesAsItWas, Looks}
use Rattle.road_command.specs.Requests.{Request, Publish, Succeed}
use Rattle.command_files.specs.Outcomes.{outcome_of}
use Rattle.command_files.specs.declared.ended.Ended.{Ended}
use Rattle.road_run.specs.BehindLooks.{IsUnwritten}
use Rattle.road_run.specs.Gone.{OnGone}
use Rattle.road_run.specs.Runs.{RunsOver}
use Rattle.guarded_run.specs.Uses.{keys_used}
use Rattle.guarded_run.specs.declared.guarding.End.{End}
use Rattle.guarded_run.specs.declared.guarding.End.TheVariants.{Refused, Unsigned, Ran}

-- The slots with which a command may sign, if the look found a key in this image: those that hold no whole header and,
-- if it is the last one of an area, no link to the next key. Only `publish` and `succeed` sign.
abbrev pub MaySign : Option Request → Option Sight → List ℕ → SlotId → Type 0
MaySign (Some (Publish roads settings)) (Some sight) image slot = IsUnwritten image slot
MaySign (Some (Publish roads settings)) None image slot = Unit {0}
MaySign (Some (Succeed secret kind)) (Some sight) image slot = IsUnwritten image slot
MaySign (Some (Succeed secret kind)) None image slot = Unit {0}
MaySign asked sight image slot = ⊥

-- At each moment of a run, each pair that an image has signed was signed in an image with which the run began, or its
-- slot is one with which the command may sign.
abbrev pub SignsBehind : {D : Type 0} → DiskView D → Option Request → Option Sight → D → D → Type 0
SignsBehind g asked sight began new = (k : ℕ) (i : List ℕ) → g.clock began ≤ k → k ≤ g.clock new →
    g.image_at new k i → (slot : SlotId) (text : List ℕ) → IsSigned i slot text →
    (d : List ℕ) × Image g began d × (IsSigned d slot text ⊎ MaySign asked sight (seen_of d) slot)

module _ {L S I K D M : Type 0} (library : LibraryView L) (source : SourceView S) (below : SinkView I)
    (sink : SinkView K) (awaited : K → Option (List ℕ)) (disk : DiskView D) (mirror : MirrorView M) where
  -- A command that uses the keys was refused. Nothing ran: library, source and mirrors are unchanged, none is gone,
  -- the sink took nothing, and the desk is as the look leaves it. The disk is the reason only if it failed.
  pub record RunsNot (asked : Option Request) (first : Option (List ℕ)) (spending : Spending)
      (why : Unfit) (l l' : L) (s s' : S) (k' : K) (d d' : D) (ms ms' gone gone' : List M) :
      Type 0 where
    pub uses : keys_used asked ≢ None
    pub looked : Looks disk (keys_used asked) d d'
    pub left : LeavesAsItWas why (AtEachMoment disk d d' Stays)
    pub cause : ForSome (disk.content d') (λ c. IsWhy (keys_used asked) first why (seen_of c))
    pub spent : IsSpentSo disk spending d d'
    pub files : l' ≡ l
    pub input : s' ≡ s
    pub silent : sink.taken k' ≡ Some []
    pub mirrors : ms' ≡ ms
    pub none_gone : gone' ≡ gone
    pub failed : why ≡ Disk → Rose (disk.faults d) (disk.faults d')

  -- The run came after the look, from the desk as the look left and reported it, into a sink over the one that was
  -- given, which had taken nothing and expected this key. From the same desk, the list of the mirrors that are gone
  -- grew as `OnGone` states.
  pub record RunsBehind (asked : Option Request) (first : Option (List ℕ)) (sight : Option Sight)
      (signer : Option (List ℕ)) (spending : Spending) (ended : Ended) (l l' : L) (s s' : S)
      (i : I) (k' : K) (d d' : D) (ms ms' gone gone' : List M) : Type 0 where
    pub began : D
    pub fresh : K
    pub looked : Looks disk (keys_used asked) d began
    pub unrefused : ForSome (still_told disk d began)
        (λ c. BeginsUnrefused (keys_used asked) first (seen_of c))
    pub spent : IsSpentSo disk spending d began
    pub quiet : ForSome (disk.content began)
        (λ c. BeginsQuiet (keys_used asked) first spending (seen_of c))
    pub fit : ForSome (disk.content began)
        (λ c. IsFit (keys_used asked) first (seen_of c) sight signer)
    pub stable : BeginsStable disk (keys_used asked) began
    pub signs : SignsBehind disk asked sight began d'
    pub empty : sink.taken fresh ≡ Some []
    pub awaits : awaited fresh ≡ signer
    pub unfailed : sink.faults fresh ≡ below.faults i
    pub runs : RunsOver library source sink disk mirror asked l l' s s' fresh k' began d' ms ms'
        ended.status (outcome_of ended)
    pub lost : OnGone mirror.octets mirror.named mirror.handed mirror.puts mirror.room mirror.faults
        disk began d' asked (sink.taken fresh) (sink.taken k') ms ms' gone gone' (outcome_of ended)

  abbrev pub Guards : Option Request → Option (List ℕ) → Option Sight → Option (List ℕ) → Spending →
      End → L → L → S → S → I → K → D → D → List M → List M → List M → List M → Type 0
  Guards asked first sight signer spending (Refused why) l l' s s' i k' d d' ms ms' gone gone' =
      RunsNot asked first spending why l l' s s' k' d d' ms ms' gone gone'
  Guards asked first sight signer spending (Unsigned ended) l l' s s' i k' d d' ms ms' gone gone' =
      RunsBehind asked first sight signer spending ended l l' s s' i k' d d' ms ms' gone gone'
  Guards asked first sight signer spending (Ran ended) l l' s s' i k' d d' ms ms' gone gone' =
      RunsBehind asked first sight signer spending ended l l' s s' i k' d d' ms ms' gone gone'

-- P holds for the end of a run
abbrev pub IfRun : End → (Ended → Type 0) → Type 0
IfRun (Refused why) P = Unit {0}
IfRun (Unsigned ended) P = P ended
IfRun (Ran ended) P = P ended

-- A run with this end counts as unsigned exactly if the sink refused a piece, or no longer expects the key
-- that it expected.
abbrev pub EndsBehind : End → Ended → Type 0 → ℕ → Type 0
EndsBehind (Refused why) ended awaits refusals = ⊥
EndsBehind (Unsigned it) ended awaits refusals = (it ≡ ended) × (awaits → 0 < refusals)
EndsBehind (Ran it) ended awaits refusals = (it ≡ ended) × awaits × (refusals ≡ 0)

-- the number of mirrors that are synced: each that is left behind a run, and none if nothing ran
abbrev pub mirrors_synced : End → ℕ → ℕ
mirrors_synced (Refused why) left = 0
mirrors_synced (Unsigned ended) left = left
mirrors_synced (Ran ended) left = left

-- the status of a successful run if a mirror could not be synced, or if all could
abbrev pub synced_exit : ℕ → Bool → ℕ
synced_exit zero false = 15
synced_exit status is_synced = status

-- the status of the process
abbrev pub exit_of : End → Bool → ℕ
exit_of (Refused Disk) is_synced = 7
exit_of (Refused (Memory none)) is_synced = 9
exit_of (Refused why) is_synced = 12
exit_of (Unsigned ended) is_synced = 12
exit_of (Ran ended) is_synced = synced_exit ended.status is_synced
