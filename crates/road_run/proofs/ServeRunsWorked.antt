-- A service whose publication is missing: what `run` states of it, with runs of which it does not hold.
use Rattle.std.proofs.Common.{◌≡◌, inl, ℕ, List, [], ◌∷◌, refl, sym, ◌∙◌, arith}
use Rattle.std.specs.declared.option.Option.{Option}
use Rattle.std.specs.declared.option.Option.TheVariants.{Some}
use Rattle.std.specs.declared.result.Result.TheVariants.{Ok, Err}
use Rattle.route_service.specs.Inputs.{split}
use Rattle.road_command.specs.Requests.{Request, Serve}
use Rattle.command_files.specs.declared.fault.Fault.TheVariants.{Missing}
use Rattle.command_files.specs.declared.ended.Conclusion.TheVariants.{Done}
use Rattle.server_commands.specs.Guarding.{unguarded}
use Rattle.server_commands.specs.Serving.{ServesFrames, most_octets, most_frames}
use Rattle.road_run.specs.Commands.{no_files}
use Rattle.road_run.specs.Complete.{CallsFor, IsComplete}
use Rattle.road_run.specs.Sources.{IsExactServing}
use Rattle.road_io.specs.Contents.{Folder}
use Rattle.road_run.proofs.WorkedObjects.{Shelf, Tap, Page, mirror, film_stays, film_stands}
use Rattle.road_run.proofs.WorkedRuns.{Outcome, asked_for, a, input, blank, disk, Over, none_failed, none_else_failed, no_octet, none_rose}

-- ---- a service whose publication is missing

abbrev serve : Option Request
serve = Some (Serve a)

-- it takes nothing from its source, whatever is left there
serves_none : (left : List ℕ) → ServesFrames (unguarded a) (Some no_files) (Some left) (Some left) 0 0 (Some []) (Some []) (Err Missing)
serves_none left = record {
  served = (split most_octets most_frames left, refl, ((refl, refl), refl));
  taken = (refl, refl);
  source = λ e. cc;
  left = refl;
  drained = λ e. cc;
}

serve_is_exact : (left : List ℕ) → IsExactServing (unguarded a) (Some no_files) (Some left) (Err Missing)
serve_is_exact left = record {
  called_for = λ full. ([], (refl, refl));
  only_one = λ other text full ends. sym ends.0;
}

serve_is_complete : (Enough : Type 0) → IsComplete (CallsFor (Some []) (Some (7 ∷ [])) (Serve a) no_files) Enough (Err Missing)
serve_is_complete Enough free enough = absurd (free (Err Missing) [] (refl, refl) (inl refl))

unserved_run : Over serve no_files (asked_for no_files a) input blank disk (4 ∷ []) 3 (Err Missing)
unserved_run = record {
  status = refl;
  works = record {
    promised = record {
      words = (λ e. cc, λ e. cc);
      nothing = tt;
      command = record {
        answered = (refl, refl);
        untold = record { missing = tt; too_long = tt };
        silent = λ fault e other untold. refl;
        library = λ e. cc;
        sink = λ e. cc;
        disk = λ e. cc;
        source = λ e. cc;
        mirror = λ e. cc;
        words = λ e. cc;
      };
      on_disk = film_stays disk;
      stands = film_stands disk;
    };
    takes = record { serves = serves_none (7 ∷ []); kept = tt; source = λ e. cc };
    gave = record { serves = record { octets = []; gave = refl; is = serves_none [] }; ended = tt; nothing = tt };
    mirrors = refl;
    unfaulted = λ e. refl;
    library_spared = λ e. refl;
    source_spared = λ e. refl;
    sink_spared = λ e. refl;
    asks = record { n = 1; within = omega arith; asked = refl };
    unused = refl;
  };
  synced = tt;
  exact = λ none told. absurd told;
  serve_exact = λ rose none. serve_is_exact (7 ∷ []);
  given_exact = λ rose none. record { octets = []; gave = refl; is = serve_is_exact [] };
  honest = tt;
  right = tt;
  taken = tt;
  proves = tt;
  complete = λ rose none told. serve_is_complete (Unit {0});
  file_exact = λ none told. absurd told;
  file_serve_exact = λ rose none. serve_is_exact (7 ∷ []);
  file_complete = λ rose none told. serve_is_complete (Unit {0});
}

-- no octet of the source was taken or given
unserved_takes_nothing : Over serve no_files (asked_for no_files a) (record { left = []; given = []; faults = 0 }) blank disk (4 ∷ []) 3 (Err Missing) → ⊥
unserved_takes_nothing h = let e : ◌≡◌ {A = Option (List ℕ)} (Some []) (Some (7 ∷ [])) = h.works.takes.serves.left in cc

unserved_is_given_nothing : Over serve no_files (asked_for no_files a) (record { left = 7 ∷ []; given = 7 ∷ []; faults = 0 }) blank disk (4 ∷ []) 3 (Err Missing) → ⊥
unserved_is_given_nothing h = let gave = h.works.gave.serves in no_octet 7 (gave.gave ∙ at gave.octets gave.is.left)
  where
    at : (octets : List ℕ) → ◌≡◌ {A = Option (List ℕ)} (Some []) (Some octets) → octets ≡ []
    at octets e = cc

-- whatever its files are, a service that is done found the end of its source, which this one did not
no_service_is_done_without_an_end : (folder : Folder) (l : Shelf) (s : Tap) (k : Page) → Over serve folder l s k disk (4 ∷ []) 0 (Ok Done) → ⊥
no_service_is_done_without_an_end folder l s k h = h.works.gave.ended

-- nor is one done without its publication
unserved_is_not_done : (k : Page) (s : Tap) → s.faults ≡ 0 → k.faults ≡ 0 → Over serve no_files (asked_for no_files a) s k disk (4 ∷ []) 0 (Ok Done) → ⊥
unserved_is_not_done k s source sink h = let e : ◌≡◌ {A = Outcome} (Ok Done) (Err Missing) = h.works.promised.command.answered.1.0 in cc

serve_exact_is_missing : (text : List ℕ) → Over serve no_files (asked_for no_files a) input (record { taken = text; faults = 0 }) disk (4 ∷ []) 0 (Ok Done) → ⊥
serve_exact_is_missing text h = let e : ◌≡◌ {A = Outcome} (Ok Done) (Err Missing) = (h.serve_exact none_rose none_failed).only_one (Err Missing) [] (λ e. cc) (refl, refl) in cc

given_exact_is_missing : (text : List ℕ) → Over serve no_files (asked_for no_files a) input (record { taken = text; faults = 0 }) disk (4 ∷ []) 0 (Ok Done) → ⊥
given_exact_is_missing text h = let e : ◌≡◌ {A = Outcome} (Ok Done) (Err Missing) = (h.given_exact none_rose none_failed).is.only_one (Err Missing) [] (λ e. cc) (refl, refl) in cc

file_serve_exact_is_missing : (text : List ℕ) → Over serve no_files (asked_for no_files a) input (record { taken = text; faults = 0 }) disk (4 ∷ []) 0 (Ok Done) → ⊥
file_serve_exact_is_missing text h = let e : ◌≡◌ {A = Outcome} (Ok Done) (Err Missing) = (h.file_serve_exact none_rose (none_else_failed (Ok Done) (λ e. cc))).only_one (Err Missing) [] (λ e. cc) (refl, refl) in cc
