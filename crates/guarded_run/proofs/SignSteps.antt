-- What a run behind a look signs.
use Rattle.std.proofs.Common.{◌⊎◌, ℕ, List, Option, Some, None, Result, arith, inl, inr, subst}
use Rattle.std.proofs.lemmas.Bool.{cases_lt}
use Rattle.std.specs.Prelude.{IfSome, IfNone}
use Rattle.std.specs.Option.{ForSome}
use Rattle.road_io.specs.declared.library.Library.{Ghosts as LibraryView}
use Rattle.road_io.specs.declared.source.Source.{Ghosts as SourceView}
use Rattle.road_io.specs.declared.sink.Sink.{Ghosts as SinkView}
use Rattle.road_io.specs.declared.disk.Disk.{Ghosts as DiskView}
use Rattle.road_io.specs.Contents.{Folder}
use Rattle.road_io.specs.Disk.{Stays, Turns}
use Rattle.road_io.specs.Moments.{AtEachMoment}
use Rattle.mirror_out.specs.declared.mirror.Mirror.{Ghosts as MirrorView}
use Rattle.lms_tree.specs.Signatures.{KeyOf}
use Rattle.desk_areas.specs.Blank.{IsFresh}
use Rattle.desk_areas.specs.Keys.{key_from}
use Rattle.desk_areas.specs.Layout.{SlotId, IsSigned}
use Rattle.desk_areas.proofs.Areas.{open_first, open_down}
use Rattle.key_desk.proofs.Blanks.{blank_unsigned}
use Rattle.desk_sight.specs.Images.{seen_of}
use Rattle.desk_sight.specs.Looks.{IsFitFor}
use Rattle.desk_sight.specs.declared.looking.Use.TheVariants as uses
use Rattle.desk_sight.specs.declared.sight.Sight.{Sight}
use Rattle.desk_fit.specs.Fits.{BeginsStable, IsFit, IsFitForMap, IsFitForNext, IsStable}
use Rattle.road_command.specs.Requests.{Request, Key, Succeed, Links, Publish, Audit, AuditReach, Reduce}
use Rattle.book_model.specs.declared.settings.Settings.{Settings}
use Rattle.command_files.specs.declared.fault.Fault.{Fault}
use Rattle.command_files.specs.declared.ended.Conclusion.{Conclusion}
use Rattle.owner_commands.specs.OwnerKey.{KeepsKey}
use Rattle.road_run.specs.BehindLooks.{IsUnwritten, SignsOverNone}
use Rattle.road_run.specs.Commands.{OnDisk, LeavesAll}
use Rattle.road_run.specs.Lives.{Run}
use Rattle.road_run.specs.Runs.{RunsOver}
use Rattle.road_run.proofs.BehindLaws.{runs_over_none}
use Rattle.guarded_run.specs.Uses.{keys_used}
use Rattle.guarded_run.specs.Guarding.{MaySign, SignsBehind}

-- an image that a crash may leave while a first key is made has signed nothing
fresh_unsigned : (key : KeyOf) (image : List ℕ) → IsFresh key image → (slot : SlotId) (text : List ℕ) → IsSigned image slot text → ⊥
fresh_unsigned key image (inl shut) slot text signed =
    let whole = signed.place.whole in
    shut (record { long = omega (arith, whole); gate = open_first image (open_down image 0 slot.area (omega arith) signed.area) })
fresh_unsigned key image (inr blank) slot text signed = blank_unsigned key image blank slot text signed

module _ {D : Type 0} (g : DiskView D) (began new : D) where
  by_staying : (asked : Option Request) (sight : Option Sight) → AtEachMoment g began new Stays → SignsBehind g asked sight began new
  by_staying asked sight m k i from to h slot text signed =
      let d = m.each k i from to h in (d.0, d.1, inl (subst (λ (x : List ℕ). IsSigned x slot text) d.2 signed))

  by_turning : (asked : Option Request) (sight : Option Sight) (key : KeyOf) → Turns g.clock g.image_at began new (IsFresh key) → SignsBehind g asked sight began new
  by_turning asked sight key m k i from to h slot text signed = elim (cases_lt k m.turn) [
    | inl before ↦ (i, m.before k i from before to h, inl signed)
    | inr since ↦ absurd (fresh_unsigned key i (m.since k i since to h) slot text signed)
  ]

  map_here : (first : Option (List ℕ)) (signer : Option (List ℕ)) (roads : List ℕ) (settings : Settings) (d : List ℕ) (slot : SlotId) (text : List ℕ) (sight : Option Sight) → IsFitForMap first (seen_of d) sight signer
      → ((s : Sight) → IsFitFor uses.Publish None (seen_of d) s → IsSigned d slot text ⊎ IsUnwritten (seen_of d) slot) → IsSigned d slot text ⊎ MaySign (Some (Publish roads settings)) sight (seen_of d) slot
  map_here first signer roads settings d slot text None fit over = inr tt
  map_here first signer roads settings d slot text (Some s) fit over = over s (record { own = λ it. it; found = fit.told; spent = fit.unwaited })

  next_here : (signer : Option (List ℕ)) (secret : List ℕ) (kind : ℕ) (d : List ℕ) (slot : SlotId) (text : List ℕ) (sight : Option Sight) → IsFitForNext (seen_of d) sight signer
      → ((s : Sight) → IsFitFor uses.Succeed None (seen_of d) s → IsSigned d slot text ⊎ IsUnwritten (seen_of d) slot) → IsSigned d slot text ⊎ MaySign (Some (Succeed secret kind)) sight (seen_of d) slot
  next_here signer secret kind d slot text None fit over = inr tt
  next_here signer secret kind d slot text (Some s) fit over = over s (record { own = λ it. it; found = fit.told; spent = fit.unlinked })

  map_behind : (first : Option (List ℕ)) (sight : Option Sight) (signer : Option (List ℕ)) (roads : List ℕ) (settings : Settings) → SignsOverNone g began new (Some (Publish roads settings)) None
      → ForSome (g.content began) (λ c. IsFitForMap first (seen_of c) sight signer) → IsStable g began → SignsBehind g (Some (Publish roads settings)) sight began new
  map_behind first sight signer roads settings over fit stable k i from to h slot text signed =
      let e = over k i from to h slot text signed in
      (e.0, e.1, map_here first signer roads settings e.0 slot text sight (fit e.0 (stable e.0 e.1)) e.2)

  next_behind : (sight : Option Sight) (signer : Option (List ℕ)) (secret : List ℕ) (kind : ℕ) → SignsOverNone g began new (Some (Succeed secret kind)) None
      → ForSome (g.content began) (λ c. IsFitForNext (seen_of c) sight signer) → IsStable g began → SignsBehind g (Some (Succeed secret kind)) sight began new
  next_behind sight signer secret kind over fit stable k i from to h slot text signed =
      let e = over k i from to h slot text signed in
      (e.0, e.1, next_here signer secret kind e.0 slot text sight (fit e.0 (stable e.0 e.1)) e.2)

  module _ (first : Option (List ℕ)) (sight : Option Sight) (signer : Option (List ℕ)) (files : Option Folder) (taken_before taken_now : Option (List ℕ)) (o : Result Conclusion Fault) where
    made_behind : (secret : List ℕ) (kind : ℕ) → KeepsKey g began new files secret kind o → SignsBehind g (Some (Key secret kind)) sight began new
    made_behind secret kind keeps = elim keeps.moments [
      | inl stays ↦ by_staying (Some (Key secret kind)) sight stays
      | inr file ↦ by_turning (Some (Key secret kind)) sight (key_from kind file.secret) file.turns
    ]

    pub asked_behind : (asked : Option Request) → IfNone asked (LeavesAll g began new taken_before taken_now) → IfSome asked (λ request. OnDisk g began new request files taken_before taken_now o) → SignsOverNone g began new asked None
        → ForSome (g.content began) (λ c. IsFit (keys_used asked) first (seen_of c) sight signer) → BeginsStable g (keys_used asked) began → SignsBehind g asked sight began new
    asked_behind None nothing on_disk over fit stable = by_staying None sight nothing.disk
    asked_behind (Some (Key secret kind)) nothing on_disk over fit stable = made_behind secret kind on_disk
    asked_behind (Some (Succeed secret kind)) nothing on_disk over fit stable = next_behind sight signer secret kind over fit stable
    asked_behind (Some Links) nothing on_disk over fit stable = by_staying (Some Links) sight on_disk.0
    asked_behind (Some (Publish roads settings)) nothing on_disk over fit stable = map_behind first sight signer roads settings over fit stable
    asked_behind (Some (Audit key publication reply q chain)) nothing on_disk over fit stable = by_staying (Some (Audit key publication reply q chain)) sight on_disk.0
    asked_behind (Some (AuditReach key publication reply q chain)) nothing on_disk over fit stable = by_staying (Some (AuditReach key publication reply q chain)) sight on_disk.0
    asked_behind (Some (Reduce key text signature)) nothing on_disk over fit stable = by_staying (Some (Reduce key text signature)) sight on_disk.0
    asked_behind (Some request) nothing on_disk over fit stable = by_staying (Some request) sight on_disk

module _ {L S K D M : Type 0} (library : LibraryView L) (source : SourceView S) (sink : SinkView K) (disk : DiskView D) (mirror : MirrorView M) where
  -- the run of a life that the guarantees of a call make
  pub run_of : (asked : Option Request) (l l' : L) (s s' : S) (k k' : K) (d d' : D) (ms ms' : List M) (exit : ℕ) (o : Result Conclusion Fault) → RunsOver library source sink disk mirror asked l l' s s' k k' d d' ms ms' exit o
      → Run mirror.octets mirror.named mirror.handed mirror.puts mirror.room disk d d'
  run_of asked l l' s s' k k' d d' ms ms' exit o runs = record {
    asked = asked;
    files = library.files l';
    library_before = library.faults l;
    library_now = library.faults l';
    taken_before = sink.taken k;
    taken_now = sink.taken k';
    sink_before = sink.faults k;
    sink_now = sink.faults k';
    mirrors_before = ms;
    mirrors_now = ms';
    outcome = o;
    promised = runs.works.promised;
    mirrored = runs.works.mirrors;
  }

  pub signs_behind : (asked : Option Request) (first : Option (List ℕ)) (sight : Option Sight) (signer : Option (List ℕ)) (l l' : L) (s s' : S) (k k' : K) (d d' : D) (ms ms' : List M) (exit : ℕ) (o : Result Conclusion Fault)
      → RunsOver library source sink disk mirror asked l l' s s' k k' d d' ms ms' exit o → ForSome (disk.content d) (λ c. IsFit (keys_used asked) first (seen_of c) sight signer) → BeginsStable disk (keys_used asked) d
      → SignsBehind disk asked sight d d'
  unfolding run_of
  signs_behind asked first sight signer l l' s s' k k' d d' ms ms' exit o runs fit stable =
      asked_behind disk d d' first sight signer (library.files l') (sink.taken k) (sink.taken k') o asked runs.works.promised.nothing runs.works.promised.on_disk
      (runs_over_none mirror.octets mirror.named mirror.handed mirror.puts mirror.room disk d d' (run_of asked l l' s s' k k' d d' ms ms' exit o runs) None) fit stable
