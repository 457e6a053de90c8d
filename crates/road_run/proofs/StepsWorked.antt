-- Runs and steps of lives over a small disk, evaluated where their definitions hold and where they do not.
use Rattle.std.proofs.Common.{◌≡◌, ℕ, ◌≤◌, List, [], ◌∷◌, refl, sym, ap, subst, arith}
use Rattle.std.proofs.lemmas.List.Elements.{All-nil, All-cons}
use Rattle.std.specs.declared.option.Option.{Option}
use Rattle.std.specs.declared.option.Option.TheVariants.{None, Some}
use Rattle.std.specs.declared.result.Result.{Result}
use Rattle.std.specs.declared.result.Result.TheVariants.{Err}
use Rattle.desk_areas.specs.Layout.{IsSigned}
use Rattle.desk_sight.specs.Looks.{Spends}
use Rattle.desk_sight.specs.declared.looking.Use.TheVariants.{Key}
use Rattle.key_desk.specs.Runs.{Crashed}
use Rattle.key_desk.specs.Stands.{key_in, KeepsStanding, SameKeys}
use Rattle.road_command.specs.Requests.{Request, Route}
use Rattle.command_files.specs.declared.fault.Fault.{Fault}
use Rattle.command_files.specs.declared.fault.Fault.TheVariants.{Words, Missing}
use Rattle.command_files.specs.declared.ended.Conclusion.{Conclusion}
use Rattle.owner_commands.specs.Releases.{Release}
use Rattle.road_run.specs.Commands.{OnMirrors, RunPromises, no_files}
use Rattle.road_run.specs.Lives.{Run, given, Step, Ran, Cut, Broke, Spent, SpentCut, IsLife}
use Rattle.road_run.proofs.WorkedObjects.{Film, film, still, mirror, film_stays, film_stands, written, first, release, written_signs, empty_signs_nothing}

-- ---- runs

abbrev pub RunOver : Film → Film → Type 0
RunOver old new = Run mirror.octets mirror.named mirror.handed mirror.puts mirror.room film old new

-- what a run with these arguments and this end promises over a disk to which nothing happens, a library without a file
-- and an empty sink
abbrev Promised : Option Request → ℕ → Result Conclusion Fault → Film → Type 0
Promised asked loads outcome disk = RunPromises film disk disk asked (Some no_files) 0 loads (Some []) (Some []) 0 0 outcome

pub words_promised : (disk : Film) → Promised None 0 (Err Words) disk
words_promised disk = record {
  words = (λ e. refl, λ e. refl);
  nothing = record { silent = refl; disk = film_stays disk };
  command = tt;
  on_disk = tt;
  stands = film_stands disk;
}

pub missing_promised : (disk : Film) → Promised (Some (Route (97 ∷ []) 1 2)) 1 (Err Missing) disk
missing_promised disk = record {
  words = (λ e. cc, λ e. cc);
  nothing = tt;
  command = record {
    answered = (refl, refl);
    untold = record { missing = tt; too_long = tt };
    silent = λ fault e other untold. refl;
    library = λ e. cc;
    sink = λ e. cc;
    disk = λ e. cc;
    source = λ e. cc;
    mirror = λ e. cc;
    words = λ e. cc;
  };
  on_disk = film_stays disk;
  stands = film_stands disk;
}

-- a run whose arguments fit no command, over any disk
abbrev pub words_run : (disk : Film) → RunOver disk disk
words_run disk = record {
  asked = None;
  files = Some no_files;
  library_before = 0;
  library_now = 0;
  taken_before = Some [];
  taken_now = Some [];
  sink_before = 0;
  sink_now = 0;
  mirrors_before = 4 ∷ [];
  mirrors_now = 4 ∷ [];
  outcome = Err Words;
  promised = words_promised disk;
  mirrored = refl;
}

-- a run of `route` whose road file is missing
abbrev pub missing_run : (disk : Film) → RunOver disk disk
missing_run disk = record {
  asked = Some (Route (97 ∷ []) 1 2);
  files = Some no_files;
  library_before = 0;
  library_now = 1;
  taken_before = Some [];
  taken_now = Some [];
  sink_before = 0;
  sink_now = 0;
  mirrors_before = 4 ∷ [];
  mirrors_now = 4 ∷ [];
  outcome = Err Missing;
  promised = missing_promised disk;
  mirrored = refl;
}

-- neither releases a signature
words_give_nothing : (disk : Film) → given mirror.octets mirror.named mirror.handed mirror.puts mirror.room film disk disk (words_run disk) ≡ []
words_give_nothing disk = refl

missing_gives_nothing : (disk : Film) → given mirror.octets mirror.named mirror.handed mirror.puts mirror.room film disk disk (missing_run disk) ≡ []
missing_gives_nothing disk = refl

-- a run whose arguments fit no command keeps its mirrors
words_keep_mirrors : (old new : Film) (run : RunOver old new) → run.asked ≡ None → run.mirrors_now ≡ run.mirrors_before
words_keep_mirrors old new run is = subst (λ (a : Option Request). OnMirrors mirror.octets mirror.named mirror.handed mirror.puts mirror.room film old new a run.taken_before run.taken_now run.mirrors_before run.mirrors_now run.outcome) is run.mirrored

-- what every image has signed, no moment of a call takes off the disk
signed_stands : (called : Film) (k : ℕ) → k ≤ called.clock → [] ≡ called.image k → KeepsStanding film (still written) called → ⊥
signed_stands called k to is stands =
    let all = stands.each ((first, 1 ∷ []) ∷ []) (λ i now. All-cons (λ pair. IsSigned i pair.0 pair.1) (first, 1 ∷ []) [] (subst (λ (i : List ℕ). IsSigned i first (1 ∷ [])) (sym now) written_signs) (All-nil (λ pair. IsSigned i pair.0 pair.1)))
    k [] (omega arith) to is in
    empty_signs_nothing first (1 ∷ []) (all 0 (first, 1 ∷ []) (omega arith))

-- so there is no such run, whatever its arguments are and however it ended
no_run_erases : RunOver (still written) (still []) → ⊥
no_run_erases run = signed_stands (still []) 0 (omega arith) refl run.promised.stands

-- ---- steps

abbrev pub StepOver : Film → Film → List Release → List Release → Type 0
StepOver old new before after = Step mirror.octets mirror.named mirror.handed mirror.puts mirror.room film old new before after

pub still_crashes : (disk : Film) → Crashed film disk.clock disk disk
still_crashes disk = record { left = λ i is. is }

same_keys : (d i : List ℕ) → i ≡ d → SameKeys d i
same_keys d i is area is_open = ap (λ (j : List ℕ). key_in j area) is

pub still_spends : (disk : Film) → Spends film Key disk disk
still_spends disk = record {
  moments = film_stays disk;
  stands = film_stands disk;
  keys = record {
    later = omega arith;
    past = λ k i early is. is;
    each = λ k i from to is. (let e : k ≡ disk.clock = omega arith in (i, subst (λ (n : ℕ). i ≡ disk.image n) e is, same_keys i i refl));
  };
}

module _ (disk : Film) (before : List Release) where
  -- each kind of step, over a disk to which nothing happens
  abbrev pub ran : StepOver disk disk [] []
  ran = Ran (missing_run disk) refl

  abbrev pub cut : StepOver disk disk before before
  cut = Cut disk (words_run disk) disk.clock (omega arith) (omega arith) (still_crashes disk) refl

  abbrev pub broke : StepOver disk disk before before
  broke = Broke (still_crashes disk) refl

  abbrev pub spent : StepOver disk disk before before
  spent = Spent Key (still_spends disk) refl

  abbrev pub spent_cut : StepOver disk disk before before
  spent_cut = SpentCut Key disk (still_spends disk) disk.clock (omega arith) (omega arith) (still_crashes disk) refl

-- a crash leaves no image that was none
no_crash_erases : (k : ℕ) → Crashed film k (still written) (still []) → ⊥
no_crash_erases k crashed = let e : [] ≡ written = crashed.left [] refl in cc

-- no step forgets a released signature, nor does any take a signed text off the disk
no_step_forgets : (disk new : Film) → StepOver disk new (release ∷ []) [] → ⊥
no_step_forgets disk new (Ran run more) = cc
no_step_forgets disk new (Cut called run k from to crashed same) = cc
no_step_forgets disk new (Broke crashed same) = cc
no_step_forgets disk new (Spent what spends same) = cc
no_step_forgets disk new (SpentCut what called spends k from to crashed same) = cc

no_step_erases : (before after : List Release) → StepOver (still written) (still []) before after → ⊥
no_step_erases before after (Ran run more) = no_run_erases run
no_step_erases before after (Cut called run k from to crashed same) = signed_stands called k to (crashed.left [] refl) run.promised.stands
no_step_erases before after (Broke crashed same) = no_crash_erases 0 crashed
no_step_erases before after (Spent what spends same) = signed_stands (still []) 0 (omega arith) refl spends.stands
no_step_erases before after (SpentCut what called spends k from to crashed same) = signed_stands called k to (crashed.left [] refl) spends.stands

-- ---- lives

abbrev pub LifeOver : Film → List Release → List (Film × List Release) → Type 0
LifeOver disk before states = IsLife mirror.octets mirror.named mirror.handed mirror.puts mirror.room film disk before states

-- a run, a crash and a look, over a disk to which nothing happens
abbrev pub three : Film → List (Film × List Release)
three disk = (disk, []) ∷ (disk, []) ∷ (disk, []) ∷ []

abbrev pub three_steps : (disk : Film) → LifeOver disk [] (three disk)
three_steps disk = (ran disk [], (broke disk [], (spent disk [], tt)))

-- no life has a step that is none
no_life_forgets : (disk : Film) → LifeOver disk (release ∷ []) ((disk, []) ∷ []) → ⊥
no_life_forgets disk life = no_step_forgets disk disk life.0

no_life_erases : (before after : List Release) → LifeOver (still written) before ((still [], after) ∷ []) → ⊥
no_life_erases before after life = no_step_erases before after life.0

no_second_step_erases : (before between after : List Release) → LifeOver (still written) before ((still written, between) ∷ (still [], after) ∷ []) → ⊥
no_second_step_erases before between after life = no_step_erases between after life.1.0
