-- A `publish` whose road file is missing: what `run` states of it, with runs of which it does not hold.
use Rattle.std.proofs.Common.{◌≡◌, inl, inr, ℕ, List, [], ◌∷◌, refl, sym, arith}
use Rattle.std.specs.declared.option.Option.{Option}
use Rattle.std.specs.declared.option.Option.TheVariants.{Some}
use Rattle.std.specs.declared.result.Result.TheVariants.{Ok, Err}
use Rattle.road_io.specs.Contents.{Folder}
use Rattle.book_model.specs.declared.settings.Settings.{Settings}
use Rattle.road_command.specs.Requests.{Request, Publish}
use Rattle.command_files.specs.declared.fault.Fault.TheVariants.{Missing, MirrorLost}
use Rattle.command_files.specs.declared.ended.Conclusion.TheVariants.{Done}
use Rattle.command_files.specs.Exact.{IsExact}
use Rattle.command_files.specs.Outcomes.{status_of}
use Rattle.road_run.specs.Commands.{Ends, no_files}
use Rattle.road_run.proofs.WorkedObjects.{still, mirror, film_stays, film_stands, octets_do_not_stay, empty_signs_nothing}
use Rattle.road_run.proofs.WorkedRuns.{Outcome, asked_for, a, input, blank, disk, Over, no_octet}

-- ---- a map whose road file is missing

module _ (s : Settings) where
  abbrev publish : Option Request
  publish = Some (Publish a s)

  publish_is_exact : IsExact (Ends (Some []) (Publish a s) no_files) (Err Missing)
  publish_is_exact = record {
    called_for = λ full. ([], (refl, refl));
    only_one = λ other text full ends. sym ends.0;
  }

  -- nothing is signed, and each mirror stays
  unpublished_run : Over publish no_files (asked_for no_files a) input blank disk (4 ∷ []) 3 (Err Missing)
  unpublished_run = record {
    status = refl;
    works = record {
      promised = record {
        words = (λ e. cc, λ e. cc);
        nothing = tt;
        command = record {
          answered = (refl, refl);
          untold = record { missing = tt; too_long = tt };
          silent = λ fault e other untold. refl;
          library = λ e. cc;
          sink = λ e. cc;
          disk = λ e. cc;
          source = λ e. cc;
          mirror = λ e. cc;
          words = λ e. cc;
        };
        on_disk = (tt, inl (film_stays disk), film_stays disk, omega arith);
        stands = film_stands disk;
      };
      takes = record { serves = tt; kept = refl; source = λ e. cc };
      gave = record { serves = tt; ended = tt; nothing = refl };
      mirrors = record { sealed = tt; still = refl };
      unfaulted = λ e. refl;
      library_spared = λ e. refl;
      source_spared = λ e. refl;
      sink_spared = λ e. refl;
      asks = record { n = 1; within = omega arith; asked = refl };
      unused = refl;
    };
    synced = inl (refl, refl);
    exact = λ none told. publish_is_exact;
    serve_exact = λ rose none. tt;
    given_exact = λ rose none. tt;
    honest = tt;
    right = tt;
    taken = tt;
    proves = tt;
    complete = λ rose none told free enough. absurd (free (Err Missing) [] (refl, refl) (inl refl));
    file_exact = λ none told. publish_is_exact;
    file_serve_exact = λ rose none. tt;
    file_complete = λ rose none told free enough. absurd (free (Err Missing) [] (refl, refl) (inl refl));
  }

  -- it changes no image and drops no mirror; that it lost one is no end of it
  unpublished_changes_no_image : Over publish no_files (asked_for no_files a) input blank (still (2 ∷ [])) (4 ∷ []) 3 (Err Missing) → ⊥
  unpublished_changes_no_image h = octets_do_not_stay [] (2 ∷ []) (λ e. cc) h.works.promised.on_disk.2

  unpublished_drops_no_mirror : Over publish no_files (asked_for no_files a) input blank disk [] 3 (Err Missing) → ⊥
  unpublished_drops_no_mirror h = no_octet 4 (sym h.works.mirrors.still)

  unpublished_loses_no_mirror : (ms : List ℕ) → Over publish no_files (asked_for no_files a) input blank disk ms 15 (Err MirrorLost) → ⊥
  unpublished_loses_no_mirror ms h = let e : ◌≡◌ {A = Outcome} (Ok Done) (Err Missing) = h.works.promised.command.answered.1.0 in cc

  -- and writes no octet, since none is of a publication whose header is on the disk
  unpublished_writes_nothing : Over publish no_files (asked_for no_files a) input (record { taken = 7 ∷ []; faults = 0 }) disk (4 ∷ []) 3 (Err Missing) → ⊥
  unpublished_writes_nothing h = no_octet 7 (h.works.promised.command.silent Missing refl (λ e. cc) (λ told. told))

  -- whatever its files are and however it ended, an octet is written only behind a header on the disk
  unsynced_octet : (folder : Folder) (o : Outcome) → Over publish folder (asked_for folder a) input (record { taken = 7 ∷ []; faults = 0 }) disk (4 ∷ []) (status_of o) o → ⊥
  unsynced_octet folder o h = elim h.synced [ inl same ↦ no_octet 7 same.0 | inr sealed ↦ empty_signs_nothing _ _ (sealed.on_disk.stands [] refl) ]
