-- Which lives count as lives in order, and that they stay so; and which signatures are behind a look: over small disks.
use Rattle.std.proofs.Common.{◌≡◌, ◌⊎◌, inl, inr, ℕ, suc, ◌+◌, ◌<◌, ◌≤◌, List, [], ◌∷◌, ◌++◌, refl, sym, subst, arith}
use Rattle.std.specs.declared.option.Option.{Option}
use Rattle.std.specs.declared.option.Option.TheVariants.{Some}
use Rattle.std.specs.declared.result.Result.{Result}
use Rattle.std.specs.declared.result.Result.TheVariants.{Err}
use Rattle.road_io.specs.declared.disk.Disk.{Ghosts}
use Rattle.road_io.specs.Moments.{EachImage, Image}
use Rattle.desk_areas.specs.Layout.{SlotId, gate_at, last_slot, text_of, place_of, IsSigned}
use Rattle.desk_areas.specs.Reading.{IsLinkTo}
use Rattle.desk_areas.proofs.Areas.{open_first, open_down}
use Rattle.desk_sight.specs.Areas.{IsStrange, early_at}
use Rattle.desk_sight.specs.Images.{seen_of}
use Rattle.desk_sight.specs.Looks.{IsFitFor, IsMade, IsUnlinked, Spends}
use Rattle.desk_sight.specs.Texts.{HasHeader}
use Rattle.desk_sight.specs.Tidy.{HasFreshLink}
use Rattle.desk_sight.specs.declared.looking.Use.{Use}
use Rattle.desk_sight.specs.declared.looking.Use.TheVariants as uses
use Rattle.desk_sight.specs.declared.sight.Sight.{Sight}
use Rattle.desk_sight.specs.declared.slots.Signed.{Signed}
use Rattle.desk_sight.specs.declared.strange.Strange.{Strange}
use Rattle.desk_sight.specs.declared.strange.Strange.TheVariants.{Gap, Text, Block, Tail, Link, Shut}
use Rattle.key_desk.specs.Runs.{Crashed}
use Rattle.book_model.specs.declared.settings.Settings.{Settings}
use Rattle.road_command.specs.Requests.{Request, Publish, Succeed}
use Rattle.command_files.specs.declared.fault.Fault.{Fault}
use Rattle.command_files.specs.declared.fault.Fault.TheVariants.{Disk}
use Rattle.command_files.specs.declared.ended.Conclusion.{Conclusion}
use Rattle.owner_commands.specs.Releases.{Release}
use Rattle.road_run.specs.BehindLooks.{IsUnwritten, SignsOverNone}
use Rattle.road_run.specs.Lives.{Run, given, Ran, Cut, Broke, Spent, SpentCut}
use Rattle.road_run.specs.LivesInOrder.{IsInOrder, IsLinkInOrder, OnTornLink, OnFaultyLink, Counts, EachCounts, InOrderAlong, InOrderWithin, StaysInOrder}
use Rattle.road_run.proofs.WorkedObjects.{Film, film, still, mirror, written, first, written_signs}
use Rattle.road_run.proofs.StepsWorked.{three, three_steps}

-- ---- which steps count

module _ {M : Type 0} (octets : M → Option (List ℕ)) (label handed puts room : M → ℕ) {D : Type 0} (g : Ghosts D) (old new called : D) (before : List Release) where
  -- a run counts unless it is a `succeed` under which the disk failed, and left a link that is not fresh
  module _ (run : Run octets label handed puts room g old new) (after : List Release) (more : after ≡ before ++ given octets label handed puts room g old new run) where
    faulty_run_counts_not : (secret : List ℕ) (kind : ℕ) (image : List ℕ) → run.asked ≡ Some (Succeed secret kind) → run.outcome ≡ Err Disk → Image g new image → (HasFreshLink image → ⊥) → Counts octets label handed puts room g old new before after (Ran run more) → ⊥
    faulty_run_counts_not secret kind image asked outcome is stale counts =
        let faulty = subst (λ (o : Result Conclusion Fault). OnFaultyLink (Some (Succeed secret kind)) o (EachImage g new HasFreshLink)) outcome (subst (λ (a : Option Request). OnFaultyLink a run.outcome (EachImage g new HasFreshLink)) asked counts) in
        stale (faulty image is)

    publish_counts : (roads : List ℕ) (s : Settings) → run.asked ≡ Some (Publish roads s) → Counts octets label handed puts room g old new before after (Ran run more)
    publish_counts roads s asked = subst (λ (a : Option Request). OnFaultyLink a run.outcome (EachImage g new HasFreshLink)) (sym asked) tt

  -- a crash within a run counts unless it tears a link of `succeed`
  module _ (run : Run octets label handed puts room g old called) (k : ℕ) (from : g.clock old ≤ k) (to : k ≤ g.clock called) (crashed : Crashed g k called new) where
    torn_run_counts_not : (secret : List ℕ) (kind : ℕ) (image : List ℕ) → run.asked ≡ Some (Succeed secret kind) → Image g new image → (HasFreshLink image → ⊥) → Counts octets label handed puts room g old new before before (Cut called run k from to crashed refl) → ⊥
    torn_run_counts_not secret kind image asked is stale counts =
        let torn = subst (λ (a : Option Request). OnTornLink a (EachImage g new HasFreshLink)) asked counts in stale (torn image is)

    cut_publish_counts : (roads : List ℕ) (s : Settings) → run.asked ≡ Some (Publish roads s) → Counts octets label handed puts room g old new before before (Cut called run k from to crashed refl)
    cut_publish_counts roads s asked = subst (λ (a : Option Request). OnTornLink a (EachImage g new HasFreshLink)) (sym asked) tt

    -- and so does no life with such a step
    torn_life_counts_not : (secret : List ℕ) (kind : ℕ) (image : List ℕ) → run.asked ≡ Some (Succeed secret kind) → Image g new image → (HasFreshLink image → ⊥)
        → EachCounts octets label handed puts room g old before ((new, before) ∷ []) (Cut called run k from to crashed refl, tt) → ⊥
    torn_life_counts_not secret kind image asked is stale counts = torn_run_counts_not secret kind image asked is stale counts.0

  -- a crash between runs counts, and so does a look
  broke_counts : (crashed : Crashed g (g.clock old) old new) → Counts octets label handed puts room g old new before before (Broke crashed refl)
  broke_counts crashed = tt

  spent_counts : (what : Use) (spends : Spends g what old new) → Counts octets label handed puts room g old new before before (Spent what spends refl)
  spent_counts what spends = tt

  spent_cut_counts : (what : Use) (spends : Spends g what old called) (k : ℕ) (from : g.clock old ≤ k) (to : k ≤ g.clock called) (crashed : Crashed g k called new) → Counts octets label handed puts room g old new before before (SpentCut what called spends k from to crashed refl)
  spent_cut_counts what spends k from to crashed = tt

three_count : (disk : Film) → EachCounts mirror.octets mirror.named mirror.handed mirror.puts mirror.room film disk [] (three disk) (three_steps disk)
three_count disk = (tt, (tt, (tt, tt)))

-- ---- in order

-- an image without a key is in order, and no link of it leads to another key
empty_is_in_order : IsInOrder []
empty_is_in_order gate strange is = omega (arith, gate)

empty_is_linked : IsLinkInOrder []
empty_is_linked (Link key) unlinked = let gate = open_first [] (open_down [] 0 unlinked.area (omega arith) unlinked.current.is_open) in omega (arith, gate)
empty_is_linked (Gap key slot) unlinked = unlinked
empty_is_linked (Text key slot) unlinked = unlinked
empty_is_linked (Block key) unlinked = unlinked
empty_is_linked (Tail key slot) unlinked = unlinked
empty_is_linked Shut unlinked = unlinked

along_empty : InOrderAlong mirror.octets mirror.named mirror.handed mirror.puts mirror.room film (still []) (still [])
along_empty k i from to is = subst IsInOrder (sym is) empty_is_in_order

module _ {M : Type 0} (octets : M → Option (List ℕ)) (label handed puts room : M → ℕ) {D : Type 0} (g : Ghosts D) (old new called : D) (before : List Release) (image : List ℕ) (strange : Strange) (gate : 0 < gate_at image 0) (odd : IsStrange image strange) where
  -- an image that is not in order, at a moment of a run that ended, or that a crash interrupted, or of a look
  module _ (k : ℕ) (from : g.clock old ≤ k) where
    ran_out_of_order : (run : Run octets label handed puts room g old new) (after : List Release) (more : after ≡ before ++ given octets label handed puts room g old new run) → k ≤ g.clock new → g.image_at new k image
        → InOrderWithin octets label handed puts room g old new before after (Ran run more) → ⊥
    ran_out_of_order run after more to is h = h k image from to is gate strange odd

    cut_out_of_order : (run : Run octets label handed puts room g old called) (at : ℕ) (low : g.clock old ≤ at) (high : at ≤ g.clock called) (crashed : Crashed g at called new) → k ≤ g.clock called → g.image_at called k image
        → InOrderWithin octets label handed puts room g old new before before (Cut called run at low high crashed refl) → ⊥
    cut_out_of_order run at low high crashed to is h = h k image from to is gate strange odd

    spent_out_of_order : (what : Use) (spends : Spends g what old new) → k ≤ g.clock new → g.image_at new k image → InOrderWithin octets label handed puts room g old new before before (Spent what spends refl) → ⊥
    spent_out_of_order what spends to is h = h k image from to is gate strange odd

    spent_cut_out_of_order : (what : Use) (spends : Spends g what old called) (at : ℕ) (low : g.clock old ≤ at) (high : at ≤ g.clock called) (crashed : Crashed g at called new) → k ≤ g.clock called → g.image_at called k image
        → InOrderWithin octets label handed puts room g old new before before (SpentCut what called spends at low high crashed refl) → ⊥
    spent_cut_out_of_order what spends at low high crashed to is h = h k image from to is gate strange odd

  -- or one that a crash between runs leaves
  broke_out_of_order : (crashed : Crashed g (g.clock old) old new) → Image g new image → InOrderWithin octets label handed puts room g old new before before (Broke crashed refl) → ⊥
  broke_out_of_order crashed is h = h image is gate strange odd

  -- so a life with such a step is not in order
  life_out_of_order : (crashed : Crashed g (g.clock old) old new) → Image g new image → StaysInOrder octets label handed puts room g old before ((new, before) ∷ []) (Broke crashed refl, tt) → ⊥
  life_out_of_order crashed is h = broke_out_of_order crashed is h.0

  after_out_of_order : (crashed : Crashed g (g.clock old) old new) → Image g new image → StaysInOrder octets label handed puts room g old before ((new, before) ∷ []) (Broke crashed refl, tt) → ⊥
  after_out_of_order crashed is h = h.1 image is gate strange odd

-- nor is one after whose step a link does not lead to the next key, which has signed
unlinked_after : {M : Type 0} (octets : M → Option (List ℕ)) (label handed puts room : M → ℕ) {D : Type 0} (g : Ghosts D) (old new : D) (before : List Release) (crashed : Crashed g (g.clock old) old new) (image : List ℕ) (key : ℕ) → Image g new image
    → IsUnlinked image (Link key) → StaysInOrder octets label handed puts room g old before ((new, before) ∷ []) (Broke crashed refl, tt) → ⊥
unlinked_after octets label handed puts room g old new before crashed image key is unlinked h = h.2 image is (Link key) unlinked

-- a disk without a key stays in order, over a run, a crash and a look
three_stay_in_order : StaysInOrder mirror.octets mirror.named mirror.handed mirror.puts mirror.room film (still []) [] (three (still [])) (three_steps (still []))
three_stay_in_order = (along_empty, each, linked, (each, each, linked, (along_empty, each, linked, tt)))
  where
    each : EachImage film (still []) IsInOrder
    each i is = subst IsInOrder (sym is) empty_is_in_order

    linked : EachImage film (still []) IsLinkInOrder
    linked i is = subst IsLinkInOrder (sym is) empty_is_linked

-- ---- signatures behind a look

-- no slot of an image without octets is written
empty_is_unwritten : (slot : SlotId) → IsUnwritten [] slot
empty_is_unwritten slot = record { header = λ early signed has. omega (arith, early); link = λ last key names made. (let known = made.whole.known in omega (arith, known)) }

-- a last slot with the link to the next key is
link_is_written : (image : List ℕ) (slot : SlotId) (key : List ℕ) → slot ≡ last_slot image slot.area → IsLinkTo (text_of image slot) key → IsMade image (suc slot.area) key → IsUnwritten image slot → ⊥
link_is_written image slot key last names made un = un.link last key names made

-- a run over a disk that does not change signs over nothing, whether the disk holds a signed text or none
same_signs_over_none : (octets : List ℕ) (asked : Option Request) (public : Option (List ℕ)) → SignsOverNone film (still octets) (still octets) asked public
same_signs_over_none octets asked public k i from to is slot text signed = (i, is, λ sight fit. inl signed)

-- a text may be signed in a slot in which none was written
first_is_signed : (asked : Option Request) (public : Option (List ℕ)) → SignsOverNone film (still []) (still written) asked public
first_is_signed asked public k i from to is slot text signed = ([], refl, λ sight fit. inr (empty_is_unwritten slot))

-- but not over the header of a map, after a look that found the desk fit and spent nothing
header_is_signed_over : (image : List ℕ) (settings : Settings) (roads : List ℕ) (public : Option (List ℕ)) (sight : Sight) (header : Signed) → IsFitFor uses.Publish public (seen_of image) sight → (IsSigned image first (1 ∷ []) → ⊥)
    → first.number < early_at (seen_of image) first.area → HasHeader (seen_of image) (place_of (seen_of image) first) header → SignsOverNone film (still image) (still written) (Some (Publish roads settings)) public → ⊥
header_is_signed_over image settings roads public sight header fit unsigned early has h =
    let from = h 0 written (omega arith) (omega arith) refl first (1 ∷ []) written_signs in
    let same : from.0 ≡ image = from.1 in
    elim (subst (λ (d : List ℕ). (s : Sight) → IsFitFor uses.Publish public (seen_of d) s → ◌⊎◌ (IsSigned d first (1 ∷ [])) (IsUnwritten (seen_of d) first)) same from.2 sight fit) [
      | inl signed ↦ unsigned signed
      | inr un ↦ un.header early header has
    ]
