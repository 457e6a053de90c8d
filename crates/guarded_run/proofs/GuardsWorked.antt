-- Guarded calls over small objects: one that was refused, and one that ran, each with calls that are none.
use Rattle.std.proofs.Common.{◌≡◌, inl, inr, ℕ, suc, ◌<◌, ◌≤◌, Bool, true, false, List, [], ◌∷◌, refl, sym, ap, subst, ◌∙◌, arith}
use Rattle.std.specs.declared.option.Option.{Option}
use Rattle.std.specs.declared.option.Option.TheVariants.{None, Some}
use Rattle.octet_text.specs.Want.{no_memory}
use Rattle.book_model.specs.declared.settings.Settings.{Settings}
use Rattle.std.specs.declared.result.Result.{Result}
use Rattle.std.specs.declared.result.Result.TheVariants.{Ok, Err}
use Rattle.road_io.specs.declared.library.Library.{Ghosts as LibraryView}
use Rattle.road_io.specs.declared.source.Source.{Ghosts as SourceView}
use Rattle.road_io.specs.declared.sink.Sink.{Ghosts as SinkView}
use Rattle.road_io.specs.declared.disk.Disk.{Ghosts as DiskView}
use Rattle.road_io.specs.Moments.{Image}
use Rattle.mirror_out.specs.declared.mirror.Mirror.{Ghosts as MirrorView}
use Rattle.desk_areas.specs.Layout.{SlotId, IsSigned, last_slot, place_of, text_of}
use Rattle.desk_areas.proofs.Areas.{open_first, open_down}
use Rattle.desk_areas.specs.Reading.{IsLinkTo}
use Rattle.desk_sight.specs.Areas.{early_at}
use Rattle.desk_sight.specs.Images.{seen_of}
use Rattle.desk_sight.specs.Looks.{IsMade, IsRefused, Spends}
use Rattle.desk_sight.specs.Sights.{IsSight}
use Rattle.desk_fit.specs.Fits.{IsQuiet, IsTold}
use Rattle.desk_sight.specs.Texts.{HasHeader}
use Rattle.desk_sight.specs.declared.looking.Spending.{Spending}
use Rattle.desk_sight.specs.declared.looking.Spending.TheVariants.{Nothing, Header}
use Rattle.desk_sight.specs.declared.looking.Unfit.{Unfit}
use Rattle.desk_sight.specs.declared.looking.Unfit.TheVariants as unfit
use Rattle.desk_sight.specs.declared.looking.Use.TheVariants as keys
use Rattle.desk_sight.specs.declared.sight.Sight.{Sight}
use Rattle.desk_sight.specs.declared.slots.Signed.{Signed}
use Rattle.desk_sight.specs.declared.strange.Strange.{Strange}
use Rattle.key_desk.specs.Stands.{key_in, SameKeys}
use Rattle.road_command.specs.Requests.{Request, Links, Publish, Succeed}
use Rattle.command_files.specs.declared.ended.Ended.{Ended}
use Rattle.command_files.specs.declared.ended.Conclusion.{Conclusion}
use Rattle.command_files.specs.declared.ended.Conclusion.TheVariants.{Done}
use Rattle.command_files.specs.declared.fault.Fault.{Fault}
use Rattle.command_files.specs.declared.fault.Fault.TheVariants.{Words}
use Rattle.road_run.specs.BehindLooks.{IsUnwritten}
use Rattle.road_run.specs.Commands.{no_files}
use Rattle.road_run.proofs.WorkedObjects.{Shelf, shelf, Tap, tap, Page, page, Film, film, still, mirror, film_stays, film_stands, octets_do_not_stay, written, first as slot_of_written, written_signs, empty_signs_nothing}
use Rattle.road_run.proofs.WorkedRuns.{unasked, asked_for, a, input, blank, disk, no_octet}
use Rattle.road_run.proofs.WholeRunsWorked.{words_run}
use Rattle.guarded_run.specs.Guarding.{MaySign, SignsBehind, RunsNot, RunsBehind, Guards, IfRun, EndsBehind, synced_exit, exit_of}
use Rattle.guarded_run.specs.declared.guarding.End.{End}
use Rattle.guarded_run.specs.declared.guarding.End.TheVariants.{Refused, Unsigned, Ran}

-- ---- slots with which a command may sign

-- no slot of an image without octets is written
empty_is_unwritten : (slot : SlotId) → IsUnwritten [] slot
empty_is_unwritten slot = record { header = λ early signed has. omega (arith, early); link = λ last key names made. (let known = made.whole.known in omega (arith, known)) }

module _ (roads secret : List ℕ) (s : Settings) (kind : ℕ) (sight : Sight) (slot : SlotId) where
  -- `publish` and `succeed` may sign with a free slot, and with any if the look found no key
  publish_may_sign : MaySign (Some (Publish roads s)) (Some sight) [] slot
  publish_may_sign = empty_is_unwritten slot

  succeed_may_sign : MaySign (Some (Succeed secret kind)) (Some sight) [] slot
  succeed_may_sign = empty_is_unwritten slot

  any_may_sign : (image : List ℕ) → MaySign (Some (Publish roads s)) None image slot × MaySign (Some (Succeed secret kind)) None image slot
  any_may_sign image = (tt, tt)

  -- not with a slot that holds the header of a map, nor with a last one that holds the link to the next key
  no_header_is_signed_over : (image : List ℕ) (header : Signed) → slot.number < early_at image slot.area → HasHeader image (place_of image slot) header → MaySign (Some (Publish roads s)) (Some sight) image slot → ⊥
  no_header_is_signed_over image header early has may = may.header early header has

  no_link_is_signed_over : (image key : List ℕ) → slot ≡ last_slot image slot.area → IsLinkTo (text_of image slot) key → IsMade image (suc slot.area) key → MaySign (Some (Succeed secret kind)) (Some sight) image slot → ⊥
  no_link_is_signed_over image key last names made may = may.link last key names made

  -- no other command signs
  links_may_not_sign : (image : List ℕ) (told : Option Sight) → MaySign (Some Links) told image slot → ⊥
  links_may_not_sign image told may = may

  words_may_not_sign : (image : List ℕ) (told : Option Sight) → MaySign None told image slot → ⊥
  words_may_not_sign image told may = may

-- ---- signatures of a run

-- a disk that does not change signs nothing that it had not signed
same_is_behind : (octets : List ℕ) (asked : Option Request) (sight : Option Sight) → SignsBehind film asked sight (still octets) (still octets)
same_is_behind octets asked sight k i from to is slot text signed = (i, is, inl signed)

-- `publish` may sign with a free slot, and `links` may not
publish_signs : (roads : List ℕ) (s : Settings) (sight : Sight) → SignsBehind film (Some (Publish roads s)) (Some sight) (still []) (still written)
publish_signs roads s sight k i from to is slot text signed = ([], refl, inr (empty_is_unwritten slot))

links_sign_nothing : (sight : Option Sight) → SignsBehind film (Some Links) sight (still []) (still written) → ⊥
links_sign_nothing sight signs =
    let from = signs 0 written (omega arith) (omega arith) refl slot_of_written (1 ∷ []) written_signs in
    elim from.2 [
      | inl signed ↦ empty_signs_nothing slot_of_written (1 ∷ []) (subst (λ (d : List ℕ). IsSigned d slot_of_written (1 ∷ [])) from.1 signed)
      | inr may ↦ may
    ]

-- a desk without octets has no key that can be told
empty_has_no_sight : (sight : Sight) → IsSight [] sight → ⊥
empty_has_no_sight sight is = let gate = open_first [] (open_down [] 0 is.area (omega arith) is.current.is_open) in omega (arith, gate)

-- ---- a call that was refused

-- a sink of small runs expects no key
abbrev awaited : Page → Option (List ℕ)
awaited k = None

abbrev RefusedOver : Option Request → Option (List ℕ) → Unfit → Shelf → Tap → Page → Film → List ℕ → List ℕ → Type 0
RefusedOver asked first why l s k d ms gone =
    RunsNot shelf tap page page awaited film mirror asked first Nothing why (unasked no_files) l input s k disk d (4 ∷ []) ms [] gone

same_keys : (d i : List ℕ) → i ≡ d → SameKeys d i
same_keys d i is area is_open = ap (λ (j : List ℕ). key_in j area) is

spends_nothing : Spends film keys.Links disk disk
spends_nothing = record {
  moments = film_stays disk;
  stands = film_stands disk;
  keys = record { later = omega arith; past = λ k i early is. is; each = λ k i from to is. (i, is, same_keys i i refl) };
}

-- `links` was refused since memory ran out: nothing was loaded, read, written or lost
refused : RefusedOver (Some Links) None (unfit.Memory no_memory) (unasked no_files) input blank disk (4 ∷ []) []
refused = record {
  uses = λ e. cc;
  looked = spends_nothing;
  left = tt;
  cause = λ c is. tt;
  spent = tt;
  files = refl;
  input = refl;
  silent = refl;
  mirrors = refl;
  none_gone = refl;
  failed = λ e. cc;
}

-- a disk that has not failed is no reason
refused_by_no_disk : RefusedOver (Some Links) None unfit.Disk (unasked no_files) input blank disk (4 ∷ []) [] → ⊥
refused_by_no_disk h = let rose = h.failed refl in omega (arith, rose)

-- arguments that use no key are not refused
words_are_not_refused : RefusedOver None None unfit.Disk (unasked no_files) input blank disk (4 ∷ []) [] → ⊥
words_are_not_refused h = h.uses refl

-- no desk has another key than the named one if none is named, and such a refusal changes no image
no_other_key : RefusedOver (Some Links) None unfit.OtherKey (unasked no_files) input blank disk (4 ∷ []) [] → ⊥
no_other_key h = h.cause [] refl

refused_changes_no_image : (first : Option (List ℕ)) (strange : Strange) → RefusedOver (Some Links) first (unfit.Strange strange) (unasked no_files) input blank (still (7 ∷ [])) (4 ∷ []) [] → ⊥
refused_changes_no_image first strange h = octets_do_not_stay [] (7 ∷ []) (λ e. cc) h.left

refused_looks_alone : RefusedOver (Some Links) None unfit.Disk (unasked no_files) input blank (still (7 ∷ [])) (4 ∷ []) [] → ⊥
refused_looks_alone h = octets_do_not_stay [] (7 ∷ []) (λ e. cc) h.looked.moments

-- nor is a file loaded, an octet read or written, or a mirror lost
refused_loads_nothing : RefusedOver (Some Links) None unfit.Disk (asked_for no_files a) input blank disk (4 ∷ []) [] → ⊥
refused_loads_nothing h = let e : ◌≡◌ {A = List (List ℕ)} (a ∷ []) [] = ap (λ (l : Shelf). l.asked) h.files in cc

refused_reads_nothing : RefusedOver (Some Links) None unfit.Disk (unasked no_files) (record { left = []; given = []; faults = 0 }) blank disk (4 ∷ []) [] → ⊥
refused_reads_nothing h = no_octet 7 (sym (ap (λ (s : Tap). s.left) h.input))

refused_writes_nothing : RefusedOver (Some Links) None unfit.Disk (unasked no_files) input (record { taken = 7 ∷ []; faults = 0 }) disk (4 ∷ []) [] → ⊥
refused_writes_nothing h = let e : ◌≡◌ {A = Option (List ℕ)} (Some (7 ∷ [])) (Some []) = h.silent in cc

refused_drops_nothing : RefusedOver (Some Links) None unfit.Disk (unasked no_files) input blank disk [] [] → ⊥
refused_drops_nothing h = no_octet 4 (sym h.mirrors)

refused_loses_nothing : RefusedOver (Some Links) None unfit.Disk (unasked no_files) input blank disk (4 ∷ []) (4 ∷ []) → ⊥
refused_loses_nothing h = no_octet 4 h.none_gone

-- nor is a slot told as spent that no image has spent
refused_spends_nothing : (slot version : ℕ) (why : Unfit) → RunsNot shelf tap page page awaited film mirror (Some Links) None (Header slot version) why (unasked no_files) (unasked no_files) input input blank disk disk (4 ∷ []) (4 ∷ []) [] [] → ⊥
refused_spends_nothing slot version why h = let spent = h.spent [] refl in empty_signs_nothing _ _ spent.2.signed

-- ---- a call that ran

abbrev BehindOver : Option Request → Option Sight → Option (List ℕ) → Ended → Page → Film → List ℕ → Type 0
BehindOver asked sight signer ended k d gone =
    RunsBehind shelf tap page page awaited film mirror asked None sight signer Nothing ended (unasked no_files) (unasked no_files) input input blank k disk d (4 ∷ []) (4 ∷ []) [] gone

abbrev words : Ended
words = record { status = 2; fault = Some Words }

-- arguments that fit no command: no look comes before them, and the sink takes nothing
ran : BehindOver None None None words blank disk []
ran = record {
  began = disk;
  fresh = blank;
  looked = refl;
  unrefused = λ c is. tt;
  spent = tt;
  quiet = λ c is. tt;
  fit = λ c is. (refl, refl);
  stable = tt;
  signs = same_is_behind [] None None;
  empty = refl;
  awaits = refl;
  unfailed = refl;
  runs = words_run;
  lost = refl;
}

-- the sink expects the key that the desk requires, and a command that does not sign requires none
ran_awaits_no_key : (key : List ℕ) → BehindOver None None (Some key) words blank disk [] → ⊥
ran_awaits_no_key key h = let e : None ≡ Some key = h.awaits in cc

ran_tells_no_desk : (sight : Sight) → BehindOver None (Some sight) None words blank disk [] → ⊥
ran_tells_no_desk sight h = at (h.fit (h.began.image h.began.clock) refl).0
  where
    at : Some sight ≡ None → ⊥
    at e = cc

-- it began with an empty sink without a failure, and with the desk as it was
ran_hides_no_failure : BehindOver None None None words (record { taken = []; faults = 1 }) disk [] → ⊥
ran_hides_no_failure h = let e : 1 ≡ h.fresh.faults = h.runs.works.sink_spared (λ is. cc) in let f : h.fresh.faults ≡ 0 = h.unfailed in omega (arith, e, f)

ran_writes_nothing : BehindOver None None None words (record { taken = 7 ∷ []; faults = 0 }) disk [] → ⊥
ran_writes_nothing h = no_octet 7 (h.runs.works.promised.nothing.silent ∙ taken h.fresh.taken h.empty)
  where
    taken : (octets : List ℕ) → Some octets ≡ Some [] → octets ≡ []
    taken octets e = cc

ran_changes_no_desk : BehindOver None None None words blank (still (7 ∷ [])) [] → ⊥
ran_changes_no_desk h = no_octet 7 (ap (λ (d : Film). d.image 0) (h.runs.works.unused.3 ∙ h.looked))

ran_loses_no_mirror : BehindOver None None None words blank disk (4 ∷ []) → ⊥
ran_loses_no_mirror h = no_octet 4 h.lost

-- another status or another fault is not that of this run
ran_is_not_done : BehindOver None None None (record { status = 0; fault = None }) blank disk [] → ⊥
ran_is_not_done h = let e : ◌≡◌ {A = Result Conclusion Fault} (Ok Done) (Err Words) = h.runs.works.promised.words.1 refl in cc

-- ---- a command that uses the keys

abbrev LinksOver : List ℕ → Option Sight → Option (List ℕ) → Ended → Film → Type 0
LinksOver octets sight signer ended d =
    RunsBehind shelf tap page page awaited film mirror (Some Links) None sight signer Nothing ended (unasked no_files) (unasked no_files) input input blank blank (still octets) d (4 ∷ []) (4 ∷ []) [] []

-- the look before `links` leaves the octets of the desk as they are
began_with : (octets : List ℕ) (began : Film) → Spends film keys.Links (still octets) began → began.image began.clock ≡ octets
began_with octets began spends = let from = spends.moments.each began.clock (began.image began.clock) spends.moments.later (omega arith) refl in from.2 ∙ from.1

module _ (octets : List ℕ) (sight : Option Sight) (signer : Option (List ℕ)) (ended : Ended) (d : Film) where
  -- it does not come after a look that found the desk strange
  no_strange_desk_runs : (strange : Strange) → IsRefused keys.Links None (seen_of octets) strange → LinksOver octets sight signer ended d → ⊥
  no_strange_desk_runs strange refused h = (h.unrefused octets refl).plain strange refused

  -- the report of what the look found is true: of a desk without a key there is none
  no_key_is_told : (found : Sight) → octets ≡ [] → sight ≡ Some found → LinksOver octets sight signer ended d → ⊥
  no_key_is_told found none is h = empty_has_no_sight found (subst (λ (o : List ℕ). IsSight (seen_of o) found) (began_with octets h.began h.looked ∙ none) (told found is (h.fit (h.began.image h.began.clock) refl).0))
    where
      told : (found : Sight) → sight ≡ Some found → IsTold (seen_of (h.began.image h.began.clock)) sight → IsSight (seen_of (h.began.image h.began.clock)) found
      told found is true_of = subst (λ (s : Option Sight). IsTold (seen_of (h.began.image h.began.clock)) s) is true_of

  -- nothing waits that the command requires to be spent
  no_waiting_desk_runs : (IsQuiet keys.Links None (seen_of octets) → ⊥) → LinksOver octets sight signer ended d → ⊥
  no_waiting_desk_runs waits h = waits (subst (λ (o : List ℕ). IsQuiet keys.Links None (seen_of o)) (began_with octets h.began h.looked) (h.quiet (h.began.image h.began.clock) refl))

  -- no map is signed, so no key is expected
  links_await_no_key : (key : List ℕ) → signer ≡ Some key → LinksOver octets sight signer ended d → ⊥
  links_await_no_key key is h = at (sym is ∙ (h.fit (h.began.image h.began.clock) refl).1)
    where
      at : Some key ≡ None → ⊥
      at e = cc

-- it begins with a disk of which a crash leaves what a read gives, over any objects
links_begin_stable : {L S I K D M : Type 0} (library : LibraryView L) (source : SourceView S) (below : SinkView I) (sink : SinkView K) (expects : K → Option (List ℕ)) (g : DiskView D) (mirrors : MirrorView M) (first : Option (List ℕ)) (sight : Option Sight) (signer : Option (List ℕ))
    (spending : Spending) (ended : Ended) (l l' : L) (s s' : S) (i : I) (k' : K) (d d' : D) (ms ms' gone gone' : List M)
    → (h : RunsBehind library source below sink expects g mirrors (Some Links) first sight signer spending ended l l' s s' i k' d d' ms ms' gone gone') → (image : List ℕ) → Image g h.began image → (g.content h.began ≡ Some image → ⊥) → ⊥
links_begin_stable library source below sink expects g mirrors first sight signer spending ended l l' s s' i k' d d' ms ms' gone gone' h image is other = other (h.stable image is)

-- nor does it tell a slot as spent that no image has spent
ran_spends_nothing : (slot version : ℕ) (sight : Option Sight) (signer : Option (List ℕ)) (ended : Ended) (d : Film)
    → RunsBehind shelf tap page page awaited film mirror (Some Links) None sight signer (Header slot version) ended (unasked no_files) (unasked no_files) input input blank blank disk d (4 ∷ []) (4 ∷ []) [] [] → ⊥
ran_spends_nothing slot version sight signer ended d h =
    let spent = h.spent (h.began.image h.began.clock) refl in
    empty_signs_nothing _ _ (subst (λ (o : List ℕ). IsSigned o spent.2.slot (text_of spent.0 spent.2.slot)) (began_with [] h.began h.looked) spent.2.signed)

-- and nothing is signed behind it
links_sign_no_text : (sight : Option Sight) (signer : Option (List ℕ)) (ended : Ended) → LinksOver [] sight signer ended (still written) → ⊥
links_sign_no_text sight signer ended h =
    let from = h.signs 0 written began_at (omega arith) refl slot_of_written (1 ∷ []) written_signs in
    elim from.2 [
      | inl signed ↦ empty_signs_nothing slot_of_written (1 ∷ []) (subst (λ (d : List ℕ). IsSigned d slot_of_written (1 ∷ [])) (from.1 ∙ began_with [] h.began h.looked) signed)
      | inr may ↦ may
    ]
  where
    began_at : h.began.clock ≤ 0
    began_at = h.runs.works.promised.stands.later

-- ---- ends

abbrev GuardsOver : Option Request → End → Type 0
GuardsOver asked end = Guards shelf tap page page awaited film mirror asked None None None Nothing end (unasked no_files) (unasked no_files) input input blank blank disk disk (4 ∷ []) (4 ∷ []) [] []

-- a call that was refused did not run, and one that ran, signed or not, did
refused_guards : GuardsOver (Some Links) (Refused (unfit.Memory no_memory))
refused_guards = refused

ran_guards : GuardsOver None (Ran words)
ran_guards = ran

unsigned_guards : GuardsOver None (Unsigned words)
unsigned_guards = ran

words_are_no_refusal : (why : Unfit) → GuardsOver None (Refused why) → ⊥
words_are_no_refusal why h = h.uses refl

done_is_no_end : GuardsOver None (Ran (record { status = 0; fault = None })) → ⊥
done_is_no_end h = ran_is_not_done h

-- of a call that did not run, nothing is said of a run
refused_has_no_run : (why : Unfit) → IfRun (Refused why) (λ ended. ⊥)
refused_has_no_run why = tt

ran_has_a_run : (ended : Ended) → IfRun (Ran ended) (λ ended. ⊥) → ⊥
ran_has_a_run ended h = h

unsigned_has_a_run : (ended : Ended) → IfRun (Unsigned ended) (λ other. other ≡ ended)
unsigned_has_a_run ended = refl

module _ (ended : Ended) where
  -- a run is signed if the sink refused nothing and still expects the key; else it is not
  signed_run : EndsBehind (Ran ended) ended (Unit {0}) 0
  signed_run = (refl, tt, refl)

  refused_piece_is_not_signed : EndsBehind (Ran ended) ended (Unit {0}) 1 → ⊥
  refused_piece_is_not_signed h = omega (arith, h.2)

  other_key_is_not_signed : EndsBehind (Ran ended) ended ⊥ 0 → ⊥
  other_key_is_not_signed h = h.1

  unsigned_run : EndsBehind (Unsigned ended) ended (Unit {0}) 1
  unsigned_run = (refl, λ awaits. omega arith)

  unsigned_by_another_key : EndsBehind (Unsigned ended) ended ⊥ 0
  unsigned_by_another_key = (refl, λ awaits. absurd awaits)

  signed_is_not_unsigned : EndsBehind (Unsigned ended) ended (Unit {0}) 0 → ⊥
  signed_is_not_unsigned h = omega (arith, h.1 tt)

  no_run_is_refused : (why : Unfit) (awaits : Type 0) (refusals : ℕ) → EndsBehind (Refused why) ended awaits refusals → ⊥
  no_run_is_refused why awaits refusals h = h

other_run_is_not_signed : EndsBehind (Ran words) (record { status = 0; fault = None }) (Unit {0}) 0 → ⊥
other_run_is_not_signed h = let e : ◌≡◌ {A = ℕ} 2 0 = ap (λ (ended : Ended). ended.status) h.0 in omega (arith, e)

-- ---- statuses

unsynced_done : synced_exit 0 false ≡ 15
unsynced_done = refl

synced_done : synced_exit 0 true ≡ 0
synced_done = refl

unsynced_missing : synced_exit 3 false ≡ 3
unsynced_missing = refl

refused_exits : (strange : Strange) (is_synced : Bool) → (exit_of (Refused unfit.Disk) is_synced ≡ 7) × (exit_of (Refused (unfit.Memory no_memory)) is_synced ≡ 9) × (exit_of (Refused (unfit.Strange strange)) is_synced ≡ 12)
    × (exit_of (Refused unfit.OtherKey) is_synced ≡ 12) × (exit_of (Refused unfit.BadBlock) is_synced ≡ 12)
refused_exits strange is_synced = (refl, refl, refl, refl, refl)

unsigned_exits : (ended : Ended) (is_synced : Bool) → exit_of (Unsigned ended) is_synced ≡ 12
unsigned_exits ended is_synced = refl

ran_exits : exit_of (Ran words) false ≡ 2
ran_exits = refl

unsynced_exits : (exit_of (Ran (record { status = 0; fault = None })) false ≡ 15) × (exit_of (Ran (record { status = 0; fault = None })) true ≡ 0)
unsynced_exits = (refl, refl)
