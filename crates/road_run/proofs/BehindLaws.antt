-- The signatures of runs after a look that spent nothing.
use Rattle.std.proofs.Common.{◌≡◌, ℕ, suc, ◌-◌, ◌<◌, ◌≤◌, List, arith, inl, inr, sym, ◌∙◌, ap, subst, IfSome, IfNone}
use Rattle.std.proofs.lemmas.Bool.{cases_lt}
use Rattle.std.specs.declared.option.Option.{Option}
use Rattle.std.specs.declared.option.Option.TheVariants.{None, Some}
use Rattle.std.specs.declared.result.Result.{Result}
use Rattle.road_io.specs.declared.disk.Disk.{Ghosts}
use Rattle.road_io.specs.Disk.{Stays, Turns}
use Rattle.road_io.specs.Moments.{AtEachMoment}
use Rattle.road_io.specs.Contents.{Folder}
use Rattle.lms_tree.specs.Signatures.{KeyOf}
use Rattle.desk_areas.specs.Blank.{IsFresh}
use Rattle.desk_areas.specs.Keys.{key_from}
use Rattle.desk_areas.specs.Layout.{SlotId, slots_at, base_of, gate_of, text_of, last_slot, HasLink, IsCurrent, IsSigned, SameFront}
use Rattle.desk_areas.specs.Reading.{IsLinkTo}
use Rattle.desk_areas.proofs.Areas.{base_next, open_first, open_down}
use Rattle.desk_areas.proofs.Growth.{front_slots, front_gate, front_current, one_current}
use Rattle.key_desk.specs.Spending.{IsLowestFree}
use Rattle.key_desk.proofs.Blanks.{blank_unsigned}
use Rattle.desk_sight.specs.Areas.{IsWaitingLink}
use Rattle.desk_sight.specs.Images.{seen_of}
use Rattle.desk_sight.specs.Looks.{IsFitFor, IsMade}
use Rattle.desk_sight.specs.Sights.{IsSight}
use Rattle.desk_sight.specs.declared.looking.Use.TheVariants as uses
use Rattle.desk_sight.specs.declared.sight.Sight.{Sight}
use Rattle.desk_sight.proofs.FrontSteps.{seen_front}
use Rattle.desk_sight.proofs.RestedSteps.{no_header, no_link}
use Rattle.road_command.specs.Requests.{Request, Key, Succeed, Links, Publish, Audit, AuditReach, Reduce}
use Rattle.book_model.specs.declared.settings.Settings.{Settings}
use Rattle.command_files.specs.declared.fault.Fault.{Fault}
use Rattle.command_files.specs.declared.ended.Conclusion.{Conclusion}
use Rattle.owner_commands.specs.OwnerKey.{KeepsKey}
use Rattle.owner_commands.specs.NextKey.{AddsKey}
use Rattle.owner_commands.specs.Signing.{SignsAtMostOne}
use Rattle.road_run.specs.Commands.{OnDisk, LeavesAll}
use Rattle.road_run.specs.Lives.{Run}
use Rattle.road_run.specs.BehindLooks.{IsUnwritten, SignsOverNone}

-- ---- what a look sees of a disk

module _ (d : List ℕ) (sight : Sight) (found : IsSight (seen_of d) sight) where
  abbrev image : List ℕ
  image = seen_of d

  abbrev end : ℕ
  end = base_of (seen_of d) (suc found.area)

  -- up to the end of the current area, it sees the octets there
  front : SameFront end image d
  front = let le = found.here.whole.within in seen_front end 1049088 d (omega (arith, le, base_next image found.area))

  ends : end ≤ end
  ends = omega arith

  current : IsCurrent d found.area
  current = front_current end image d front found.area ends found.current

  at_current : (area : ℕ) → IsCurrent d area → area ≡ found.area
  at_current area is = one_current d area found.area is current

  slots_seen : (area : ℕ) → area ≤ found.area → slots_at d (base_of d area) ≡ slots_at image (base_of image area)
  slots_seen area le = front_slots end image d front found.area ends area le

  lowest_seen : (slot : SlotId) → IsLowestFree d slot → IsLowestFree image slot
  lowest_seen slot free =
      let at : slot.area ≡ found.area = at_current slot.area free.current in
      let le : slot.area ≤ found.area = omega (arith, at) in
      let same = slots_seen slot.area le in
      let early = free.early in
      let known : slot.number < slots_at image (base_of image slot.area) = omega (arith, early, same) in
      record {
        current = subst (λ (a : ℕ). IsCurrent image a) (sym at) found.current;
        early = omega (arith, early, same);
        shut = sym (front_gate end image d front found.area ends slot le known) ∙ free.shut;
        lowest = λ number less.
            let is = front_gate end image d front found.area ends (record { area = slot.area; number = number }) le (omega (arith, less, known)) in
            let gate = free.lowest number less in
            omega (arith, is, gate);
      }

  unwritten_lowest : (public : Option (List ℕ)) → IsFitFor uses.Publish public image sight → (slot : SlotId) → IsLowestFree d slot → IsUnwritten image slot
  unwritten_lowest public fit slot free =
      let seen = lowest_seen slot free in
      record {
        header = λ early signed has. no_header public image sight fit slot seen signed has;
        link = λ is key names made.
            let number : slot.number ≡ slots_at image (base_of image slot.area) - 1 = ap (λ (s : SlotId). s.number) is in
            let early = seen.early in
            omega (arith, number, early);
      }

  -- the last slot of the current area is free if a link text waits in it
  shut_link : (key : List ℕ) → IsLinkTo (text_of image (last_slot image found.area)) key → gate_of image (last_slot image found.area) ≡ 0
  shut_link key names = elim (cases_lt 0 (gate_of image (last_slot image found.area))) [
    | inr none ↦ omega (arith, none)
    | inl some ↦
        let known = found.here.whole.known in
        let within = found.here.whole.within in
        let has : HasLink image found.area = record {
          place = record { known = omega (arith, known); whole = omega (arith, known, within) };
          gate = some;
          link = names.link;
        } in
        absurd (found.last has)
  ]

  unwritten_last : (public : Option (List ℕ)) → IsFitFor uses.Succeed public image sight → (area : ℕ) → IsCurrent d area → IsUnwritten image (last_slot d area)
  unwritten_last public fit area is_current =
      let at : area ≡ found.area = at_current area is_current in
      let same = slots_seen area (omega (arith, at)) in
      record {
        header = λ early signed has. omega (arith, early, same);
        link = λ is key names made.
            let here : last_slot d area ≡ last_slot image found.area = is ∙ ap (λ (a : ℕ). last_slot image a) at in
            let named = subst (λ (s : SlotId). IsLinkTo (text_of image s) key) here names in
            let waits : IsWaitingLink image found.area key = record { free = shut_link key named; names = named } in
            (no_link public image sight fit found.area found.current key waits).0 (subst (λ (a : ℕ). IsMade image (suc a) key) at made);
      }

-- an image that a crash may leave while a first key is made has signed nothing
fresh_unsigned : (key : KeyOf) (image : List ℕ) → IsFresh key image → (slot : SlotId) (text : List ℕ) → IsSigned image slot text → ⊥
fresh_unsigned key image (inl shut) slot text signed =
    let whole = signed.place.whole in
    shut (record { long = omega (arith, whole); gate = open_first image (open_down image 0 slot.area (omega arith) signed.area) })
fresh_unsigned key image (inr blank) slot text signed = blank_unsigned key image blank slot text signed

-- ---- commands

module _ {D : Type 0} (g : Ghosts D) (old new : D) (public : Option (List ℕ)) where
  by_staying : (asked : Option Request) → AtEachMoment g old new Stays → SignsOverNone g old new asked public
  by_staying asked m k i from to h slot text signed =
      let d = m.each k i from to h in (d.0, d.1, λ sight fit. inl (subst (λ (x : List ℕ). IsSigned x slot text) d.2 signed))

  by_turning : (asked : Option Request) (key : KeyOf) → Turns g.clock g.image_at old new (IsFresh key) → SignsOverNone g old new asked public
  by_turning asked key m k i from to h slot text signed = elim (cases_lt k m.turn) [
    | inl before ↦ (i, m.before k i from before to h, λ sight fit. inl signed)
    | inr since ↦ absurd (fresh_unsigned key i (m.since k i since to h) slot text signed)
  ]

  module _ (files : Option Folder) (taken_before taken_now : Option (List ℕ)) (o : Result Conclusion Fault) where
    made_over : (secret : List ℕ) (kind : ℕ) → KeepsKey g old new files secret kind o → SignsOverNone g old new (Some (Key secret kind)) public
    made_over secret kind keeps = elim keeps.moments [
      | inl stays ↦ by_staying (Some (Key secret kind)) stays
      | inr file ↦ by_turning (Some (Key secret kind)) (key_from kind file.secret) file.turns
    ]

    added_over : (secret : List ℕ) (kind : ℕ) → AddsKey g old new files secret kind o → SignsOverNone g old new (Some (Succeed secret kind)) public
    added_over secret kind adds = elim adds.links [
      | inl stays ↦ by_staying (Some (Succeed secret kind)) stays
      | inr file ↦ (λ k i from to h slot text signed.
          let d = file.each.each k i from to h in (
            d.0,
            d.1,
            λ sight fit. elim d.2 [
              | inl is ↦ inl (subst (λ (x : List ℕ). IsSigned x slot text) is signed)
              | inr one ↦ elim (one.signs.adds slot text signed) [
                | inl was ↦ inl was
                | inr more ↦ inr (subst (IsUnwritten (seen_of d.0)) (sym more.0) (unwritten_last d.0 sight fit.found public fit one.area one.current))
              ]
            ],
          ))
    ]

    signed_over : (roads : List ℕ) (s : Settings) → SignsAtMostOne g old new files roads s → SignsOverNone g old new (Some (Publish roads s)) public
    signed_over roads s (inl stays) = by_staying (Some (Publish roads s)) stays
    signed_over roads s (inr file) = λ k i from to h slot text signed.
        let d = file.one.each.each k i from to h in (
          d.0,
          d.1,
          λ sight fit. elim d.2 [
            | inl is ↦ inl (subst (λ (x : List ℕ). IsSigned x slot text) is signed)
            | inr one ↦ elim (one.signs.adds slot text signed) [
              | inl was ↦ inl was
              | inr more ↦ inr (subst (IsUnwritten (seen_of d.0)) (sym more.0) (unwritten_lowest d.0 sight fit.found public fit file.one.slot one.free))
            ]
          ],
        )

    asked_over : (asked : Option Request) → IfNone asked (LeavesAll g old new taken_before taken_now) → IfSome asked (λ request. OnDisk g old new request files taken_before taken_now o) → SignsOverNone g old new asked public
    asked_over None nothing on_disk = by_staying None nothing.disk
    asked_over (Some (Key secret kind)) nothing on_disk = made_over secret kind on_disk
    asked_over (Some (Succeed secret kind)) nothing on_disk = added_over secret kind on_disk
    asked_over (Some Links) nothing on_disk = by_staying (Some Links) on_disk.0
    asked_over (Some (Publish roads settings)) nothing on_disk = signed_over roads settings on_disk.1
    asked_over (Some (Audit key publication reply q chain)) nothing on_disk = by_staying (Some (Audit key publication reply q chain)) on_disk.0
    asked_over (Some (AuditReach key publication reply q chain)) nothing on_disk = by_staying (Some (AuditReach key publication reply q chain)) on_disk.0
    asked_over (Some (Reduce key text signature)) nothing on_disk = by_staying (Some (Reduce key text signature)) on_disk.0
    asked_over (Some request) nothing on_disk = by_staying (Some request) on_disk

module _ {M : Type 0} (octets : M → Option (List ℕ)) (label handed puts room : M → ℕ) {D : Type 0} (g : Ghosts D) where
  pub runs_over_none : (old new : D) (run : Run octets label handed puts room g old new) (public : Option (List ℕ)) → SignsOverNone g old new run.asked public
  runs_over_none old new run public = asked_over g old new public run.files run.taken_before run.taken_now run.outcome run.asked run.promised.nothing run.promised.on_disk
