-- Guarded calls are steps of a life.
use Rattle.std.proofs.Common.{ℕ, List, [], ◌∷◌, ◌++◌, Option, Some, None, refl, sym, subst}
use Rattle.road_io.specs.declared.library.Library.{Ghosts as LibraryView}
use Rattle.road_io.specs.declared.source.Source.{Ghosts as SourceView}
use Rattle.road_io.specs.declared.sink.Sink.{Ghosts as SinkView}
use Rattle.road_io.specs.declared.disk.Disk.{Ghosts as DiskView}
use Rattle.mirror_out.specs.declared.mirror.Mirror.{Ghosts as MirrorView}
use Rattle.desk_sight.specs.declared.looking.Use.{Use}
use Rattle.desk_sight.specs.declared.looking.Spending.{Spending}
use Rattle.desk_sight.specs.declared.sight.Sight.{Sight}
use Rattle.desk_fit.specs.Fits.{Looks}
use Rattle.road_command.specs.Requests.{Request}
use Rattle.command_files.specs.Outcomes.{outcome_of}
use Rattle.command_files.specs.declared.ended.Ended.{Ended}
use Rattle.owner_commands.specs.Releases.{Release}
use Rattle.road_run.specs.Lives.{Run, given, Ran as RanStep, Spent as SpentStep}
use Rattle.guarded_run.specs.Uses.{keys_used}
use Rattle.guarded_run.specs.CallSteps.{IsPartOfLife}
use Rattle.guarded_run.specs.Guarding.{Guards, RunsBehind}
use Rattle.guarded_run.specs.declared.guarding.End.{End}
use Rattle.guarded_run.specs.declared.guarding.End.TheVariants.{Refused, Unsigned, Ran}
use Rattle.guarded_run.proofs.SignSteps.{run_of}

module _ {M : Type 0} (octets : M → Option (List ℕ)) (label handed puts room : M → ℕ) {D : Type 0} (g : DiskView D) where
  look_part : (what : Option Use) (old new : D) (before : List Release) → Looks g what old new → IsPartOfLife octets label handed puts room g old new before
  look_part None old new before is = record { states = []; life = tt; ends = sym is }
  look_part (Some what) old new before spends = record { states = (new, before) ∷ []; life = (SpentStep what spends refl, tt); ends = refl }

  run_part : (old new : D) (before : List Release) → Run octets label handed puts room g old new → IsPartOfLife octets label handed puts room g old new before
  run_part old new before run = record {
    states = (new, before ++ given octets label handed puts room g old new run) ∷ [];
    life = (RanStep run refl, tt);
    ends = refl;
  }

  behind_part : (what : Option Use) (old began new : D) (before : List Release) → Looks g what old began → Run octets label handed puts room g began new → IsPartOfLife octets label handed puts room g old new before
  behind_part None old began new before is run = subst (λ (o : D). IsPartOfLife octets label handed puts room g o new before) is (run_part began new before run)
  behind_part (Some what) old began new before spends run = record {
    states = (began, before) ∷ (new, before ++ given octets label handed puts room g began new run) ∷ [];
    life = (SpentStep what spends refl, (RanStep run refl, tt));
    ends = refl;
  }

module _ {L S I K D M : Type 0} (library : LibraryView L) (source : SourceView S) (below : SinkView I) (sink : SinkView K) (awaited : K → Option (List ℕ)) (disk : DiskView D) (mirror : MirrorView M) where
  ran_part : (asked : Option Request) (first : Option (List ℕ)) (sight : Option Sight) (signer : Option (List ℕ)) (spending : Spending) (ended : Ended) (l l' : L) (s s' : S) (i : I) (k' : K) (d d' : D) (ms ms' gone gone' : List M)
      → RunsBehind library source below sink awaited disk mirror asked first sight signer spending ended l l' s s' i k' d d' ms ms' gone gone' → (before : List Release) → IsPartOfLife mirror.octets mirror.named mirror.handed mirror.puts mirror.room disk d d' before
  ran_part asked first sight signer spending ended l l' s s' i k' d d' ms ms' gone gone' it before =
      behind_part mirror.octets mirror.named mirror.handed mirror.puts mirror.room disk (keys_used asked) d it.began d' before it.looked
      (run_of library source sink disk mirror asked l l' s s' it.fresh k' it.began d' ms ms' ended.status (outcome_of ended) it.runs)

  pub call_part : (asked : Option Request) (first : Option (List ℕ)) (sight : Option Sight) (signer : Option (List ℕ)) (spending : Spending) (end : End) (l l' : L) (s s' : S) (i : I) (k' : K) (d d' : D) (ms ms' gone gone' : List M)
      → Guards library source below sink awaited disk mirror asked first sight signer spending end l l' s s' i k' d d' ms ms' gone gone' → (before : List Release) → IsPartOfLife mirror.octets mirror.named mirror.handed mirror.puts mirror.room disk d d' before
  call_part asked first sight signer spending (Refused why) l l' s s' i k' d d' ms ms' gone gone' it before =
      look_part mirror.octets mirror.named mirror.handed mirror.puts mirror.room disk (keys_used asked) d d' before it.looked
  call_part asked first sight signer spending (Unsigned ended) l l' s s' i k' d d' ms ms' gone gone' it before = ran_part asked first sight signer spending ended l l' s s' i k' d d' ms ms' gone gone' it before
  call_part asked first sight signer spending (Ran ended) l l' s s' i k' d d' ms ms' gone gone' it before = ran_part asked first sight signer spending ended l l' s s' i k' d d' ms ms' gone gone' it before
