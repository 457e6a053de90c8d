-- A run whose arguments fit no command, and one of `route` whose file is missing: what `run` states of them, each with
-- runs of which it does not hold.
use Rattle.std.proofs.Common.{◌≡◌, ◌≢◌, inl, ℕ, zero, suc, List, [], ◌∷◌, get_or, take, refl, sym, ap, arith}
use Rattle.std.specs.declared.option.Option.{Option}
use Rattle.std.specs.declared.option.Option.TheVariants.{None, Some}
use Rattle.std.specs.declared.result.Result.TheVariants.{Ok, Err}
use Rattle.road_io.specs.Contents.{Folder}
use Rattle.road_command.specs.Requests.{Request, Route}
use Rattle.command_files.specs.declared.fault.Fault.TheVariants.{Words, Missing, Library, Source, Sink, Disk, MirrorLost}
use Rattle.command_files.specs.declared.ended.Conclusion.TheVariants.{Done}
use Rattle.command_files.specs.Asking.{AsksFront}
use Rattle.command_files.specs.Exact.{IsExact}
use Rattle.command_files.specs.Outcomes.{status_of}
use Rattle.road_run.specs.Commands.{Ends, no_files}
use Rattle.road_run.specs.Complete.{Answers, IsComplete, IsUnhindered}
use Rattle.road_run.proofs.WorkedObjects.{Shelf, Tap, still, mirror, film_stays, film_stands, octets_do_not_stay}
use Rattle.road_run.proofs.WorkedRuns.{Outcome, unasked, asked_for, a, b, input, blank, disk, Over, no_octet, none_failed, none_else_failed, none_rose}

-- ---- arguments that fit no command

-- they end with status 2, and nothing changes
pub words_run : Over None no_files (unasked no_files) input blank disk (4 ∷ []) 2 (Err Words)
words_run = record {
  status = refl;
  works = record {
    promised = record {
      words = (λ e. refl, λ e. refl);
      nothing = record { silent = refl; disk = film_stays disk };
      command = tt;
      on_disk = tt;
      stands = film_stands disk;
    };
    takes = record { serves = tt; kept = refl; source = λ e. cc };
    gave = record { serves = tt; ended = tt; nothing = refl };
    mirrors = refl;
    unfaulted = λ e. refl;
    library_spared = λ e. refl;
    source_spared = λ e. refl;
    sink_spared = λ e. refl;
    asks = record { n = 0; within = omega arith; asked = refl };
    unused = (refl, refl, refl, refl);
  };
  synced = tt;
  exact = λ none. tt;
  serve_exact = λ rose none. tt;
  given_exact = λ rose none. tt;
  honest = tt;
  right = tt;
  taken = tt;
  proves = tt;
  complete = λ rose none. tt;
  file_exact = λ none. tt;
  file_serve_exact = λ rose none. tt;
  file_complete = λ rose none. tt;
}

-- no other end is told of them, and no file is loaded, even if this is counted as a failure
words_are_not_missing : Over None no_files (unasked no_files) input blank disk (4 ∷ []) 3 (Err Missing) → ⊥
words_are_not_missing h = let e : ◌≡◌ {A = Outcome} (Err Missing) (Err Words) = h.works.promised.words.1 refl in cc

words_load_nothing : Over None no_files (asked_for no_files a) input blank disk (4 ∷ []) 2 (Err Words) → ⊥
words_load_nothing h = let e : a ∷ [] ≡ [] = ap (λ (l : Shelf). l.asked) h.works.unused.0 in cc

words_write_nothing : Over None no_files (unasked no_files) input (record { taken = 7 ∷ []; faults = 0 }) disk (4 ∷ []) 2 (Err Words) → ⊥
words_write_nothing h = no_octet 7 h.works.promised.nothing.silent

words_fail_no_library : Over None no_files (record { files = no_files; asked = []; faults = 1 }) input blank disk (4 ∷ []) 2 (Err Words) → ⊥
words_fail_no_library h = let e : ◌≡◌ {A = ℕ} 1 0 = h.works.library_spared (λ blames. blames) in omega (arith, e)

-- ---- a command whose file is missing

abbrev route : Option Request
route = Some (Route a 1 2)

route_is_exact : IsExact (Ends (Some []) (Route a 1 2) no_files) (Err Missing)
route_is_exact = record {
  called_for = λ full. ([], (refl, refl));
  only_one = λ other text full ends. sym ends.0;
}

route_is_complete : IsComplete (Ends (Some []) (Route a 1 2) no_files) (Unit {0}) (Err Missing)
route_is_complete free enough = absurd (free (Err Missing) [] (refl, refl) (inl refl))

-- it ends with status 3 after a load of the file, and writes nothing
missing_run : Over route no_files (asked_for no_files a) input blank disk (4 ∷ []) 3 (Err Missing)
missing_run = record {
  status = refl;
  works = record {
    promised = record {
      words = (λ e. cc, λ e. cc);
      nothing = tt;
      command = record {
        answered = (refl, refl);
        untold = record { missing = tt; too_long = tt };
        silent = λ fault e other untold. refl;
        library = λ e. cc;
        sink = λ e. cc;
        disk = λ e. cc;
        source = λ e. cc;
        mirror = λ e. cc;
        words = λ e. cc;
      };
      on_disk = film_stays disk;
      stands = film_stands disk;
    };
    takes = record { serves = tt; kept = refl; source = λ e. cc };
    gave = record { serves = tt; ended = tt; nothing = refl };
    mirrors = refl;
    unfaulted = λ e. refl;
    library_spared = λ e. refl;
    source_spared = λ e. refl;
    sink_spared = λ e. refl;
    asks = record { n = 1; within = omega arith; asked = refl };
    unused = (refl, refl);
  };
  synced = tt;
  exact = λ none told. route_is_exact;
  serve_exact = λ rose none. tt;
  given_exact = λ rose none. tt;
  honest = tt;
  right = tt;
  taken = tt;
  proves = tt;
  complete = λ rose none told. route_is_complete;
  file_exact = λ none told. route_is_exact;
  file_serve_exact = λ rose none. tt;
  file_complete = λ rose none told. route_is_complete;
}

-- the same end with another status is no run
missing_is_not_done : Over route no_files (asked_for no_files a) input blank disk (4 ∷ []) 0 (Err Missing) → ⊥
missing_is_not_done h = let e : ◌≡◌ {A = ℕ} 0 3 = h.status in omega (arith, e)

-- nor is one that wrote a route, whatever its text is: no text is that of a route, and no other end is exact
no_route_without_a_file : (text : List ℕ) → Over route no_files (asked_for no_files a) input (record { taken = text; faults = 0 }) disk (4 ∷ []) 0 (Ok Done) → ⊥
no_route_without_a_file text h = let e : ◌≡◌ {A = Outcome} (Ok Done) (Err Missing) = h.works.promised.command.answered.1.0 in cc

-- it writes no octet, changes no image and no mirror, and takes nothing from the source
missing_writes_nothing : Over route no_files (asked_for no_files a) input (record { taken = 7 ∷ []; faults = 0 }) disk (4 ∷ []) 3 (Err Missing) → ⊥
missing_writes_nothing h = no_octet 7 (h.works.promised.command.silent Missing refl (λ e. cc) (λ told. told))

missing_changes_no_image : Over route no_files (asked_for no_files a) input blank (still (2 ∷ [])) (4 ∷ []) 3 (Err Missing) → ⊥
missing_changes_no_image h = octets_do_not_stay [] (2 ∷ []) (λ e. cc) h.works.promised.on_disk

missing_drops_no_mirror : Over route no_files (asked_for no_files a) input blank disk [] 3 (Err Missing) → ⊥
missing_drops_no_mirror h = no_octet 4 (sym h.works.mirrors)

missing_reads_no_input : Over route no_files (asked_for no_files a) (record { left = []; given = []; faults = 0 }) blank disk (4 ∷ []) 3 (Err Missing) → ⊥
missing_reads_no_input h = let e : ◌≡◌ {A = Option (List ℕ)} (Some []) (Some (7 ∷ [])) = h.works.takes.kept in cc

missing_moves_no_source : Over route no_files (asked_for no_files a) (record { left = []; given = []; faults = 0 }) blank disk (4 ∷ []) 3 (Err Missing) → ⊥
missing_moves_no_source h = no_octet 7 (sym (ap (λ (s : Tap). s.left) h.works.unused.0))

missing_is_given_no_input : Over route no_files (asked_for no_files a) (record { left = 7 ∷ []; given = 7 ∷ []; faults = 0 }) blank disk (4 ∷ []) 3 (Err Missing) → ⊥
missing_is_given_no_input h = no_octet 7 h.works.gave.nothing

-- it loads no other file
load_of_another : AsksFront (a ∷ []) [] (b ∷ []) → ⊥
load_of_another asks = at asks.n asks.asked
  where
    at : (n : ℕ) → b ∷ [] ≡ take n (a ∷ []) → ⊥
    at zero e = cc
    at (suc n) e = let f : ◌≡◌ {A = ℕ} 98 97 = ap (λ (names : List (List ℕ)). get_or (get_or names 0 []) 0 0) e in omega (arith, f)

missing_loads_no_other : Over route no_files (asked_for no_files b) input blank disk (4 ∷ []) 3 (Err Missing) → ⊥
missing_loads_no_other h = load_of_another h.works.asks

-- and hides no failure
missing_hides_no_sink : Over route no_files (asked_for no_files a) input (record { taken = []; faults = 1 }) disk (4 ∷ []) 3 (Err Missing) → ⊥
missing_hides_no_sink h = let e : ◌≡◌ {A = ℕ} 1 0 = h.works.sink_spared (λ e. cc) in omega (arith, e)

missing_hides_no_source : Over route no_files (asked_for no_files a) (record { left = 7 ∷ []; given = []; faults = 1 }) blank disk (4 ∷ []) 3 (Err Missing) → ⊥
missing_hides_no_source h = let e : ◌≡◌ {A = ℕ} 1 0 = h.works.source_spared (λ e. cc) in omega (arith, e)

missing_hides_no_disk : Over route no_files (asked_for no_files a) input blank (record { image = λ k. []; clock = 0; faults = 1 }) (4 ∷ []) 3 (Err Missing) → ⊥
missing_hides_no_disk h = let e : ◌≡◌ {A = ℕ} 1 0 = h.works.unfaulted (λ e. cc) in omega (arith, e)

-- ---- no object is blamed without a failure

no_sink_is_blamed : Over route no_files (asked_for no_files a) input blank disk (4 ∷ []) 6 (Err Sink) → ⊥
no_sink_is_blamed h = none_rose (h.works.promised.command.sink refl)

no_library_is_blamed : Over route no_files (asked_for no_files a) input blank disk (4 ∷ []) 4 (Err Library) → ⊥
no_library_is_blamed h = none_rose (h.works.promised.command.library refl)

no_disk_is_blamed : Over route no_files (asked_for no_files a) input blank disk (4 ∷ []) 7 (Err Disk) → ⊥
no_disk_is_blamed h = none_rose (h.works.promised.command.disk refl)

no_source_is_blamed : Over route no_files (asked_for no_files a) input blank disk (4 ∷ []) 5 (Err Source) → ⊥
no_source_is_blamed h = none_rose (h.works.takes.source refl)

no_mirror_is_blamed : Over route no_files (asked_for no_files a) input blank disk (4 ∷ []) 15 (Err MirrorLost) → ⊥
no_mirror_is_blamed h = h.works.promised.command.mirror refl

-- ---- exact and complete

-- over no file, a run in which no object failed is exact only if it ends with the missing file or out of memory
exact_is_missing : (text : List ℕ) → Over route no_files (asked_for no_files a) input (record { taken = text; faults = 0 }) disk (4 ∷ []) 0 (Ok Done) → ⊥
exact_is_missing text h = let e : ◌≡◌ {A = Outcome} (Ok Done) (Err Missing) = (h.exact none_failed tt).only_one (Err Missing) [] (λ e. cc) (refl, refl) in cc

file_exact_is_missing : (text : List ℕ) → Over route no_files (asked_for no_files a) input (record { taken = text; faults = 0 }) disk (4 ∷ []) 0 (Ok Done) → ⊥
file_exact_is_missing text h = let e : ◌≡◌ {A = Outcome} (Ok Done) (Err Missing) = (h.file_exact (none_else_failed (Ok Done) (λ e. cc)) tt).only_one (Err Missing) [] (λ e. cc) (refl, refl) in cc

-- over files that do not prevent the work, a run in which no object failed does it; it is not refused
unhindered_is_done : (folder : Folder) (o : Outcome) → Over route folder (asked_for folder a) input blank disk (4 ∷ []) (status_of o) o → IsUnhindered (Ends (Some []) (Route a 1 2) folder) → Answers (status_of o)
unhindered_is_done folder o h free = h.complete none_rose none_failed tt free tt

file_unhindered_is_done : (folder : Folder) (o : Outcome) → o ≢ Err Library → Over route folder (asked_for folder a) input blank disk (4 ∷ []) (status_of o) o → IsUnhindered (Ends (Some []) (Route a 1 2) folder) → Answers (status_of o)
file_unhindered_is_done folder o gave h free = h.file_complete none_rose (none_else_failed o gave) tt free tt
