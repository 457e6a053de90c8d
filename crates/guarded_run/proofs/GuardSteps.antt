-- Composing the guarded call.
use Rattle.std.proofs.Common.{◌≡◌, ◌≢◌, ℕ, List, [], Option, Some, None, MatchOption, IfSome, Result, Ok, Err, IfOk, IfErr, refl, sym, subst}
use Rattle.std.specs.Option.{ForSome}
use Rattle.road_io.specs.declared.library.Library.{Ghosts as LibraryView}
use Rattle.road_io.specs.declared.source.Source.{Ghosts as SourceView}
use Rattle.road_io.specs.declared.sink.Sink.{Ghosts as SinkView}
use Rattle.road_io.specs.declared.disk.Disk.{Ghosts as DiskView}
use Rattle.road_io.specs.Causes.{Rose}
use Rattle.road_io.specs.Disk.{Stays}
use Rattle.road_io.specs.Moments.{AtEachMoment, still_told}
use Rattle.mirror_out.specs.declared.mirror.Mirror.{Ghosts as MirrorView}
use Rattle.desk_sight.specs.Images.{seen_of}
use Rattle.desk_sight.specs.declared.looking.Use.{Use}
use Rattle.desk_sight.specs.declared.looking.Unfit.{Unfit}
use Rattle.desk_sight.specs.declared.looking.Unfit.TheVariants.{Disk}
use Rattle.desk_sight.specs.Sights.{IsSight, IsUntold}
use Rattle.desk_sight.specs.declared.sight.Sight.{Sight}
use Rattle.desk_sight.specs.declared.looking.Spending.{Spending}
use Rattle.desk_fit.specs.declared.fit.Told.{Told}
use Rattle.desk_fit.specs.Fits.{BeginsQuiet, BeginsStable, BeginsUnrefused, IsFit, IsSpentSo, IsWhy, LeavesAsItWas, Looks}
use Rattle.road_command.specs.Requests.{Request}
use Rattle.command_files.specs.Outcomes.{outcome_of}
use Rattle.command_files.specs.declared.ended.Ended.{Ended}
use Rattle.road_run.specs.Gone.{OnGone}
use Rattle.road_run.specs.Runs.{RunsOver}
use Rattle.guarded_run.specs.Uses.{keys_used}
use Rattle.guarded_run.proofs.SignSteps.{signs_behind}
use Rattle.guarded_run.specs.Guarding.{EndsBehind, Guards, IfRun, RunsNot, RunsBehind}
use Rattle.guarded_run.specs.declared.guarding.End.{End}
use Rattle.guarded_run.specs.declared.guarding.End.TheVariants.{Refused, Unsigned, Ran}

-- what is known of a look that refused, and of one behind which a run comes
pub record IsRefusal {D : Type 0} (disk : DiskView D) (first : Option (List ℕ)) (spending : Spending) (why : Unfit) (d d' : D) (what : Option Use) : Type 0 where
  pub uses : what ≢ None
  pub looked : Looks disk what d d'
  pub left : LeavesAsItWas why (AtEachMoment disk d d' Stays)
  pub cause : ForSome (disk.content d') (λ c. IsWhy what first why (seen_of c))
  pub spent : IsSpentSo disk spending d d'
  pub failed : why ≡ Disk → Rose (disk.faults d) (disk.faults d')

pub record IsBegun {D : Type 0} (disk : DiskView D) (first : Option (List ℕ)) (sight : Option Sight) (signer : Option (List ℕ)) (spending : Spending) (d began : D) (what : Option Use) : Type 0 where
  pub looked : Looks disk what d began
  pub unrefused : ForSome (still_told disk d began) (λ c. BeginsUnrefused what first (seen_of c))
  pub spent : IsSpentSo disk spending d began
  pub quiet : ForSome (disk.content began) (λ c. BeginsQuiet what first spending (seen_of c))
  pub fit : ForSome (disk.content began) (λ c. IsFit what first (seen_of c) sight signer)
  pub stable : BeginsStable disk what began

-- what is told of an error, of the error that it is
pub of_error : {T : Type 0} (told : Result T Unfit) (why : Unfit) (P : Unfit → Type 0) → told ≡ Err why → IfErr told P → P why
of_error {T} told why P is h = subst (λ (r : Result T Unfit). IfErr r P) is h

pub of_value : {T : Type 0} (told : Result T Unfit) (value : T) (P : T → Type 0) → told ≡ Ok value → IfOk told P → P value
of_value {T} told value P is h = subst (λ (r : Result T Unfit). IfOk r P) is h

module _ {D : Type 0} (disk : DiskView D) (first : Option (List ℕ)) (spending : Spending) (told : Result Told Unfit) (d d' : D) (what : Option Use) where
  pub refusal : (why : Unfit) → told ≡ Err why → IfErr told (λ w. what ≢ None) → Looks disk what d d' → IfErr told (λ w. LeavesAsItWas w (AtEachMoment disk d d' Stays))
      → IfErr told (λ w. ForSome (disk.content d') (λ c. IsWhy what first w (seen_of c))) → IsSpentSo disk spending d d' → IfErr told (λ w. w ≡ Disk → Rose (disk.faults d) (disk.faults d')) → IsRefusal disk first spending why d d' what
  refusal why is uses looked left cause spent failed = record {
    uses = of_error told why (λ w. what ≢ None) is uses;
    looked = looked;
    left = of_error told why (λ w. LeavesAsItWas w (AtEachMoment disk d d' Stays)) is left;
    cause = of_error told why (λ w. ForSome (disk.content d') (λ c. IsWhy what first w (seen_of c))) is cause;
    spent = spent;
    failed = of_error told why (λ w. w ≡ Disk → Rose (disk.faults d) (disk.faults d')) is failed;
  }

  pub begun : (value : Told) → told ≡ Ok value → Looks disk what d d' → IfOk told (λ t. ForSome (still_told disk d d') (λ c. BeginsUnrefused what first (seen_of c))) → IsSpentSo disk spending d d'
      → IfOk told (λ t. ForSome (disk.content d') (λ c. BeginsQuiet what first spending (seen_of c))) → IfOk told (λ t. ForSome (disk.content d') (λ c. IsFit what first (seen_of c) t.sight t.signer)) → IfOk told (λ t. BeginsStable disk what d')
      → IsBegun disk first value.sight value.signer spending d d' what
  begun value is looked unrefused spent quiet fit stable = record {
    looked = looked;
    unrefused = of_value told value (λ t. ForSome (still_told disk d d') (λ c. BeginsUnrefused what first (seen_of c))) is unrefused;
    spent = spent;
    quiet = of_value told value (λ t. ForSome (disk.content d') (λ c. BeginsQuiet what first spending (seen_of c))) is quiet;
    fit = of_value told value (λ t. ForSome (disk.content d') (λ c. IsFit what first (seen_of c) t.sight t.signer)) is fit;
    stable = of_value told value (λ t. BeginsStable disk what d') is stable;
  }

module _ {L S I K D M : Type 0} (library : LibraryView L) (source : SourceView S) (below : SinkView I) (sink : SinkView K) (awaited : K → Option (List ℕ)) (disk : DiskView D) (mirror : MirrorView M) where
  pub refused : (asked : Option Request) (first : Option (List ℕ)) (spending : Spending) (why : Unfit) (what : Option Use) (l : L) (s : S) (k : K) (d d' : D) (ms gone : List M) → what ≡ keys_used asked
      → IsRefusal disk first spending why d d' what → sink.taken k ≡ Some [] → RunsNot library source below sink awaited disk mirror asked first spending why l l s s k d d' ms ms gone gone
  refused asked first spending why what l s k d d' ms gone is known silent =
      let now : IsRefusal disk first spending why d d' (keys_used asked) = subst (IsRefusal disk first spending why d d') is known in
      record { uses = now.uses; looked = now.looked; left = now.left; cause = now.cause; spent = now.spent; files = refl; input = refl; silent = silent; mirrors = refl; none_gone = refl; failed = now.failed }

  pub ran : (asked : Option Request) (first : Option (List ℕ)) (sight : Option Sight) (signer : Option (List ℕ)) (spending : Spending) (ended : Ended) (what : Option Use) (l l' : L) (s s' : S) (i : I) (fresh k' : K) (d began d' : D) (ms ms' gone gone' : List M)
      → what ≡ keys_used asked → IsBegun disk first sight signer spending d began what → sink.taken fresh ≡ Some [] → awaited fresh ≡ signer → sink.faults fresh ≡ below.faults i
      → RunsOver library source sink disk mirror asked l l' s s' fresh k' began d' ms ms' ended.status (outcome_of ended)
      → OnGone mirror.octets mirror.named mirror.handed mirror.puts mirror.room mirror.faults disk began d' asked (sink.taken fresh) (sink.taken k') ms ms' gone gone' (outcome_of ended)
      → RunsBehind library source below sink awaited disk mirror asked first sight signer spending ended l l' s s' i k' d d' ms ms' gone gone'
  ran asked first sight signer spending ended what l l' s s' i fresh k' d began d' ms ms' gone gone' is known empty awaits unfailed runs lost =
      let now : IsBegun disk first sight signer spending d began (keys_used asked) = subst (IsBegun disk first sight signer spending d began) is known in
      record { began = began; fresh = fresh; looked = now.looked; unrefused = now.unrefused; spent = now.spent; quiet = now.quiet; fit = now.fit; stable = now.stable; signs = signs_behind library source sink disk mirror asked first sight signer l l' s s' fresh k' began d' ms ms' ended.status (outcome_of ended) runs now.fit now.stable; empty = empty; awaits = awaits; unfailed = unfailed; runs = runs; lost = lost }

  pub guards : (asked : Option Request) (first : Option (List ℕ)) (sight : Option Sight) (signer : Option (List ℕ)) (spending : Spending) (end : End) (ended : Ended) (l l' : L) (s s' : S) (i : I) (k' : K) (d d' : D) (ms ms' gone gone' : List M) (awaits : Type 0) (refusals : ℕ)
      → EndsBehind end ended awaits refusals → RunsBehind library source below sink awaited disk mirror asked first sight signer spending ended l l' s s' i k' d d' ms ms' gone gone'
      → Guards library source below sink awaited disk mirror asked first sight signer spending end l l' s s' i k' d d' ms ms' gone gone'
  guards asked first sight signer spending (Refused why) ended l l' s s' i k' d d' ms ms' gone gone' awaits refusals ends behind = absurd ends
  guards asked first sight signer spending (Unsigned it) ended l l' s s' i k' d d' ms ms' gone gone' awaits refusals ends behind =
      subst (λ (e : Ended). RunsBehind library source below sink awaited disk mirror asked first sight signer spending e l l' s s' i k' d d' ms ms' gone gone') (sym (ends.0)) behind
  guards asked first sight signer spending (Ran it) ended l l' s s' i k' d d' ms ms' gone gone' awaits refusals ends behind =
      subst (λ (e : Ended). RunsBehind library source below sink awaited disk mirror asked first sight signer spending e l l' s s' i k' d d' ms ms' gone gone') (sym (ends.0)) behind

pub some_sight : {D : Type 0} (g : DiskView D) (new : D) (image : List ℕ) (found : Option Sight) → MatchOption found (IsUntold image) (IsSight image) → ForSome (g.content new) (λ c. image ≡ seen_of c)
    → IfSome found (λ sight. ForSome (g.content new) (λ c. IsSight (seen_of c) sight))
some_sight g new image None is seen = tt
some_sight g new image (Some sight) is seen = λ x told. subst (λ (i : List ℕ). IsSight i sight) (seen x told) is

pub ends_so : (end : End) (ended : Ended) (awaits : Type 0) (refusals : ℕ) → EndsBehind end ended awaits refusals → IfRun end (λ it. EndsBehind end it awaits refusals)
ends_so (Refused why) ended awaits refusals ends = tt
ends_so (Unsigned it) ended awaits refusals ends = (refl, ends.1)
ends_so (Ran it) ended awaits refusals ends = (refl, ends.1, ends.2)
