-- Parts of lives over a small disk, and objects to which no call was made.
use Rattle.std.proofs.Common.{◌≡◌, ℕ, ◌≤◌, List, [], ◌∷◌, refl, sym, subst, ◌∙◌, arith}
use Rattle.std.proofs.lemmas.List.Elements.{All-nil, All-cons}
use Rattle.std.specs.declared.option.Option.{Option}
use Rattle.std.specs.declared.option.Option.TheVariants.{None, Some}
use Rattle.road_io.specs.Contents.{Folder}
use Rattle.road_io.specs.declared.library.Library.{Ghosts as LibraryView}
use Rattle.road_io.specs.declared.source.Source.{Ghosts as SourceView}
use Rattle.road_io.specs.declared.sink.Sink.{Ghosts as SinkView}
use Rattle.road_io.specs.declared.disk.Disk.{Ghosts as DiskView}
use Rattle.road_io.specs.Moments.{EachImage}
use Rattle.desk_areas.specs.Layout.{IsSigned}
use Rattle.key_desk.specs.Stands.{KeepsStanding}
use Rattle.owner_commands.specs.Releases.{Release}
use Rattle.road_run.specs.Commands.{no_files}
use Rattle.road_run.specs.Lives.{Ran, Cut, Broke, Spent, SpentCut}
use Rattle.road_run.proofs.WorkedObjects.{Shelf, shelf, Tap, tap, Page, page, Film, film, still, mirror, written, first, written_signs, empty_signs_nothing}
use Rattle.road_run.proofs.WorkedRuns.{unasked, asked_for, a, input, blank, disk, no_octet}
use Rattle.road_run.proofs.StepsWorked.{StepOver, LifeOver, three, three_steps}
use Rattle.guarded_run.specs.CallSteps.{last_of, IsPartOfLife}
use Rattle.guarded_run.specs.Shipping.{AreFresh}

-- ---- parts of lives

no_step_ends_there : (d : Film) → last_of d [] ≡ d
no_step_ends_there d = refl

two_steps_end_there : (d e f : Film) (given : List Release) → last_of d ((e, given) ∷ (f, given) ∷ []) ≡ f
two_steps_end_there d e f given = refl

abbrev PartOver : Film → Film → List Release → Type 0
PartOver old new before = IsPartOfLife mirror.octets mirror.named mirror.handed mirror.puts mirror.room film old new before

-- no step, and a run, a crash and a look
nothing_is_a_part : (d : Film) (before : List Release) → PartOver d d before
nothing_is_a_part d before = record { states = []; life = tt; ends = refl }

three_are_a_part : (d : Film) → PartOver d d []
three_are_a_part d = record { states = three d; life = three_steps d; ends = refl }

-- what each image of a disk has signed
abbrev HasFirst : Film → Type 0
HasFirst d = EachImage film d (λ i. IsSigned i first (1 ∷ []))

stands_still : (old called : Film) (k : ℕ) (i : List ℕ) → KeepsStanding film old called → HasFirst old → old.clock ≤ k → k ≤ called.clock → i ≡ called.image k → IsSigned i first (1 ∷ [])
stands_still old called k i stands has from to is =
    let all = stands.each ((first, 1 ∷ []) ∷ []) (λ j now. All-cons (λ pair. IsSigned j pair.0 pair.1) (first, 1 ∷ []) [] (has j now) (All-nil (λ pair. IsSigned j pair.0 pair.1))) k i from to is in
    all 0 (first, 1 ∷ []) (omega arith)

-- no step takes a signed text off the disk
step_keeps : (old new : Film) (before after : List Release) → StepOver old new before after → HasFirst old → HasFirst new
step_keeps old new before after (Ran run more) has i is = stands_still old new new.clock i run.promised.stands has run.promised.stands.later (omega arith) is
step_keeps old new before after (Cut called run k from to crashed same) has i is = stands_still old called k i run.promised.stands has from to (crashed.left i is)
step_keeps old new before after (Broke crashed same) has i is = has i (crashed.left i is)
step_keeps old new before after (Spent what spends same) has i is = stands_still old new new.clock i spends.stands has spends.stands.later (omega arith) is
step_keeps old new before after (SpentCut what called spends k from to crashed same) has i is = stands_still old called k i spends.stands has from to (crashed.left i is)

life_keeps : (old : Film) (before : List Release) (states : List (Film × List Release)) → LifeOver old before states → HasFirst old → HasFirst (last_of old states)
life_keeps old before [] life has = has
life_keeps old before (state ∷ states) life has = life_keeps state.0 state.1 states life.1 (step_keeps old state.0 before state.1 life.0 has)

-- so no part of a life does, however many steps it has
no_part_erases : (before : List Release) → PartOver (still written) (still []) before → ⊥
no_part_erases before part = empty_signs_nothing first (1 ∷ []) (subst HasFirst part.ends (life_keeps (still written) before part.states part.life has) [] refl)
  where
    has : HasFirst (still written)
    has i is = subst (λ (j : List ℕ). IsSigned j first (1 ∷ [])) (sym is) written_signs

-- ---- fresh objects

abbrev FreshOver : Shelf → Tap → Page → Film → Shelf → Type 0
FreshOver l s k d f = AreFresh shelf tap page film shelf l s k d f

fresh : FreshOver (unasked no_files) input blank disk (unasked no_files)
fresh = record {
  files = (no_files, refl);
  unasked = refl;
  library_faults = refl;
  given = refl;
  source_faults = refl;
  taken = refl;
  sink_faults = refl;
  content = ([], refl);
  disk_faults = refl;
  calls = refl;
  key_files = (no_files, refl);
  keys_unasked = refl;
  key_faults = refl;
}

-- a library that loaded a file is not fresh, nor is an object that failed, or a sink that took an octet
asked_is_not_fresh : FreshOver (asked_for no_files a) input blank disk (unasked no_files) → ⊥
asked_is_not_fresh h = let e : ◌≡◌ {A = List (List ℕ)} (a ∷ []) [] = h.unasked in cc

asked_keys_are_not_fresh : FreshOver (unasked no_files) input blank disk (asked_for no_files a) → ⊥
asked_keys_are_not_fresh h = let e : ◌≡◌ {A = List (List ℕ)} (a ∷ []) [] = h.keys_unasked in cc

taken_is_not_fresh : FreshOver (unasked no_files) input (record { taken = 7 ∷ []; faults = 0 }) disk (unasked no_files) → ⊥
taken_is_not_fresh h = let e : ◌≡◌ {A = Option (List ℕ)} (Some (7 ∷ [])) (Some []) = h.taken in cc

failed_library_is_not_fresh : FreshOver (record { files = no_files; asked = []; faults = 1 }) input blank disk (unasked no_files) → ⊥
failed_library_is_not_fresh h = omega (arith, h.library_faults)

failed_source_is_not_fresh : FreshOver (unasked no_files) (record { left = []; given = []; faults = 1 }) blank disk (unasked no_files) → ⊥
failed_source_is_not_fresh h = omega (arith, h.source_faults)

failed_sink_is_not_fresh : FreshOver (unasked no_files) input (record { taken = []; faults = 1 }) disk (unasked no_files) → ⊥
failed_sink_is_not_fresh h = omega (arith, h.sink_faults)

failed_disk_is_not_fresh : FreshOver (unasked no_files) input blank (record { image = λ k. []; clock = 0; faults = 1 }) (unasked no_files) → ⊥
failed_disk_is_not_fresh h = omega (arith, h.disk_faults)

failed_keys_are_not_fresh : FreshOver (unasked no_files) input blank disk (record { files = no_files; asked = []; faults = 1 }) → ⊥
failed_keys_are_not_fresh h = omega (arith, h.key_faults)

-- nor is an object that states nothing, that has given octets, or that was called
module _ {L S K D F : Type 0} (library : LibraryView L) (source : SourceView S) (sink : SinkView K) (g : DiskView D) (keys : LibraryView F) (l : L) (s : S) (k : K) (d : D) (f : F) where
  untold_files_are_not_fresh : library.files l ≡ None → AreFresh library source sink g keys l s k d f → ⊥
  untold_files_are_not_fresh none h = at h.files.0 (sym none ∙ h.files.1)
    where
      at : (folder : Folder) → None ≡ Some folder → ⊥
      at folder e = cc

  untold_keys_are_not_fresh : keys.files f ≡ None → AreFresh library source sink g keys l s k d f → ⊥
  untold_keys_are_not_fresh none h = at h.key_files.0 (sym none ∙ h.key_files.1)
    where
      at : (folder : Folder) → None ≡ Some folder → ⊥
      at folder e = cc

  untold_disk_is_not_fresh : g.content d ≡ None → AreFresh library source sink g keys l s k d f → ⊥
  untold_disk_is_not_fresh none h = at h.content.0 (sym none ∙ h.content.1)
    where
      at : (octets : List ℕ) → None ≡ Some octets → ⊥
      at octets e = cc

  called_disk_is_not_fresh : g.calls d ≡ 1 → AreFresh library source sink g keys l s k d f → ⊥
  called_disk_is_not_fresh called h = omega (arith, called, h.calls)

  given_source_is_not_fresh : source.given s ≡ 7 ∷ [] → AreFresh library source sink g keys l s k d f → ⊥
  given_source_is_not_fresh given h = no_octet 7 (sym given ∙ h.given)
