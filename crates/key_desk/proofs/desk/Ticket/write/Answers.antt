use Rattle.std.proofs.Common.{◌≡◌, ◌≢◌, ◌+◌, ◌<◌, List, ℕ, arith, refl, sym, ◌∙◌, inl, ap, subst, set, length, true, false}
use Rattle.road_io.specs.Moments.{Image, AtEachMoment}
use Rattle.road_io.proofs.MomentLaws.{at_end, nothing}
use Rattle.lms_tree.specs.Links.{IsLink}
use Rattle.desk_areas.specs.declared.area.Count.TheVariants
use Rattle.desk_areas.specs.Layout.{place_in, place_of, gate_at, text_at, gate_of, text_of, slots_of, SameSigned, OutsideSlot, PutsText, AgreesOutside}
use Rattle.key_desk.specs.declared.desk.Desk.{Desk}
use Rattle.key_desk.specs.Desk.{count_at, slot_here, Fits, KeepsKnown}
use Rattle.desk_areas.proofs.Frame.{gate_apart}
use Rattle.desk_areas.proofs.Areas.{places}
use Rattle.key_desk.proofs.Standing.{standing_write, standing_same}
use Rattle.key_desk.proofs.Counts.{changed, count_here, counted_within, other_counts, this_count, own_here, signing_early, written_isnt_spent, other_than, out_isnt_spent, out_isnt_free}
use Rattle.key_desk.proofs.Steps.{known_on, place_here, write_moments, fits_closed, fits_open, known_kept}
use Rattle.key_desk.proofs.Puts.{text_within, write_puts, unchanged}
use Rattle.key_desk.proofs.desk.Ticket.write.Given.{Over}
use Rattle.key_desk.proofs.desk.Ticket.write.Goals as goal
use Rattle.key_desk.proofs.desk.Ticket.write.Goals.{After-put_text}

module _ (g : Over) (c : After-put_text g) where
  isnt : count_at c.args.desk.now c.args.self ≢ TheVariants.Spent
  isnt = other_than _ TheVariants.Out TheVariants.Spent c.requires.out out_isnt_spent

  early : c.args.self + 1 < slots_of c.args.desk.now.key.kind
  early = signing_early c.args.desk.now c.args.self c.requires.fits.sound isnt (other_than _ TheVariants.Out TheVariants.Free c.requires.out out_isnt_free)

  is_open : c.args.desk.now.is_open ≡ true
  is_open = sym c.is_open-is_open.ensures ∙ c.if-not-is_open.false

  narrow : AtEachMoment g.D.Disk c.args.disk.now c.put_text.new.disk (AgreesOutside (place_in c.args.desk.now.base c.args.self + 1) (place_in c.args.desk.now.base c.args.self + 2 + length c.args.text.now))
  narrow = rw (c.place-place.ensures.place, c.into_slot-slot.ensures) at c.put_text.ensures.moments

  changes : AtEachMoment g.D.Disk c.args.disk.now c.put_text.new.disk (AgreesOutside (place_in c.args.desk.now.base c.args.self + 1) (place_in c.args.desk.now.base c.args.self + 128))
  changes = text_within g.D.Disk c.args.disk.now c.put_text.new.disk (place_in c.args.desk.now.base c.args.self) (length c.args.text.now) c.requires.short narrow

  -- only the length octet and the text
  puts : AtEachMoment g.D.Disk c.args.disk.now c.put_text.new.disk (λ d i. PutsText (slot_here c.args.desk.now c.args.self) c.args.text.now d i × SameSigned d i)
  puts = write_puts g.D.Disk c.args.desk.now c.args.disk.now c.put_text.new.disk c.args.self c.requires.fits early c.args.text.now c.requires.short is_open isnt narrow

  moments : AtEachMoment g.D.Disk c.args.disk.now c.put_text.new.disk (λ d i. OutsideSlot (slot_here c.args.desk.now c.args.self) d i × SameSigned d i)
  moments = write_moments g.D.Disk c.args.desk.now c.args.disk.now c.put_text.new.disk c.args.self c.requires.fits early is_open isnt changes

  frame : (i : List ℕ) → Image g.D.Disk c.put_text.new.disk i → (d : List ℕ) × Image g.D.Disk c.args.disk.now d × OutsideSlot (slot_here c.args.desk.now c.args.self) d i
  frame i now = let e = at_end g.D.Disk c.args.disk.now c.put_text.new.disk _ moments i now in (e.0, e.1, e.2.0)

  -- the slot's offset is unchanged
  place_is : (i : List ℕ) → Image g.D.Disk c.put_text.new.disk i → place_of i (slot_here c.args.desk.now c.args.self) ≡ place_in c.args.desk.now.base c.args.self
  place_is i now =
      let f = frame i now in
      let areas = c.requires.fits.areas f.0 f.1 in
      places (slot_here c.args.desk.now c.args.self) f.0 i f.2 (known_on c.args.desk.now f.0 (slot_here c.args.desk.now c.args.self) areas (own_here c.args.desk.now c.args.self (omega (arith, early)))) (slot_here c.args.desk.now c.args.self)
      ∙ place_here c.args.desk.now f.0 c.args.self areas

  -- the gate stays closed
  shut : (i : List ℕ) → Image g.D.Disk c.put_text.new.disk i → gate_of i (slot_here c.args.desk.now c.args.self) ≡ 0
  shut i now =
      let e = at_end g.D.Disk c.args.disk.now c.put_text.new.disk _ changes i now in
      let areas = c.requires.fits.areas e.0 e.1 in
      let was : gate_of e.0 (slot_here c.args.desk.now c.args.self) ≡ 0 =
      c.requires.fits.others is_open e.0 e.1 (slot_here c.args.desk.now c.args.self) (own_here c.args.desk.now c.args.self (omega (arith, early))) (λ is. isnt (sym (count_here c.args.desk.now (slot_here c.args.desk.now c.args.self) refl) ∙ is)) in
      ap (λ (p : ℕ). gate_at i p) (place_is i now)
      ∙ gate_apart _ _ e.0 i e.2 (place_in c.args.desk.now.base c.args.self) (inl (omega arith))
      ∙ ap (λ (p : ℕ). gate_at e.0 p) (sym (place_here c.args.desk.now e.0 c.args.self areas))
      ∙ was

  plain : (i : List ℕ) → Image g.D.Disk c.put_text.new.disk i → 0 < gate_of i (slot_here c.args.desk.now c.args.self) → IsLink (text_of i (slot_here c.args.desk.now c.args.self)) → ⊥
  plain i now gate link = omega (arith, gate, shut i now)

  fits_refused : Fits g.D.Disk (changed c.args.desk.now c.args.desk.now.counts false) c.put_text.new.disk
  fits_refused = fits_closed g.D.Disk c.args.desk.now c.args.disk.now c.put_text.new.disk c.args.self c.requires.fits early frame plain

  fits_written : Fits g.D.Disk (changed c.args.desk.now (set c.args.desk.now.counts c.args.self TheVariants.Written) c.args.desk.now.is_open) c.put_text.new.disk
  fits_written = fits_open g.D.Disk c.args.desk.now c.args.disk.now c.put_text.new.disk c.args.self c.requires.fits early TheVariants.Written is_open isnt frame plain
      (λ is. absurd (written_isnt_spent _ refl is)) (λ _. shut)

  known_refused : KeepsKnown g.D.Disk (slot_here c.args.desk.now c.args.self) c.args.desk.now c.args.disk.now (changed c.args.desk.now c.args.desk.now.counts false) c.put_text.new.disk
  known_refused = known_kept g.D.Disk c.args.desk.now c.args.disk.now c.put_text.new.disk c.args.self c.requires.fits early c.args.desk.now.counts false frame (λ s ne. refl)

  known_written : KeepsKnown g.D.Disk (slot_here c.args.desk.now c.args.self) c.args.desk.now c.args.disk.now (changed c.args.desk.now (set c.args.desk.now.counts c.args.self TheVariants.Written) c.args.desk.now.is_open) c.put_text.new.disk
  known_written = known_kept g.D.Disk c.args.desk.now c.args.disk.now c.put_text.new.disk c.args.self c.requires.fits early (set c.args.desk.now.counts c.args.self TheVariants.Written) c.args.desk.now.is_open frame
      (λ s ne. other_counts c.args.desk.now.counts c.args.self TheVariants.Written s ne)

-- the desk with the slot counted as written
counted : (old new : Desk) (q slot : ℕ) → slot ≡ q → new ≡ record old { counts = set old.counts slot TheVariants.Written } → new ≡ changed old (set old.counts q TheVariants.Written) old.is_open
counted old new q slot is made = made ∙ ap (λ (n : ℕ). changed old (set old.counts n TheVariants.Written) old.is_open) is

pub place-place-requires : goal.place-place-requires
place-place-requires g c = rw c.into_slot-slot.ensures (counted_within c.args.desk.now c.args.self c.requires.fits.sound (other_than _ TheVariants.Out TheVariants.Spent c.requires.out out_isnt_spent))

pub returns-in-Err-clause-moments : goal.returns-in-Err-clause-moments
returns-in-Err-clause-moments g c = puts g (goal.at.returns-in-Err-clause-moments g c).After-put_text

pub returns-in-Err-clause-fits : goal.returns-in-Err-clause-fits
returns-in-Err-clause-fits g c = subst (λ (v : Desk). Fits g.D.Disk v c.put_text.new.disk) (sym c.close.ensures) (fits_refused g (goal.at.returns-in-Err-clause-fits g c).After-put_text)

pub returns-in-Err-clause-others : goal.returns-in-Err-clause-others
returns-in-Err-clause-others g c =
    subst (λ (v : Desk). KeepsKnown g.D.Disk (slot_here c.args.desk.now c.args.self) c.args.desk.now c.args.disk.now v c.put_text.new.disk) (sym c.close.ensures) (known_refused g (goal.at.returns-in-Err-clause-others g c).After-put_text)

pub returns-in-Ok-clause-moments : goal.returns-in-Ok-clause-moments
returns-in-Ok-clause-moments g c = puts g (goal.at.returns-in-Ok-clause-moments g c).After-put_text

pub returns-in-Ok-clause-fits : goal.returns-in-Ok-clause-fits
returns-in-Ok-clause-fits g c = subst (λ (v : Desk). Fits g.D.Disk v c.put_text.new.disk) (sym (counted c.args.desk.now c.count.new.self c.args.self c.into_slot-slot.result c.into_slot-slot.ensures c.count.ensures)) (fits_written g (goal.at.returns-in-Ok-clause-fits g c).After-put_text)

pub returns-in-Ok-clause-others : goal.returns-in-Ok-clause-others
returns-in-Ok-clause-others g c =
    subst (λ (v : Desk). KeepsKnown g.D.Disk (slot_here c.args.desk.now c.args.self) c.args.desk.now c.args.disk.now v c.put_text.new.disk) (sym (counted c.args.desk.now c.count.new.self c.args.self c.into_slot-slot.result c.into_slot-slot.ensures c.count.ensures)) (known_written g (goal.at.returns-in-Ok-clause-others g c).After-put_text)

pub returns-in-Ok-clause-knows : goal.returns-in-Ok-clause-knows
returns-in-Ok-clause-knows g c =
    let at = (goal.at.returns-in-Ok-clause-knows g c).After-put_text in
    let stored = rw (c.place-place.ensures.place, c.into_slot-slot.ensures) at c.in-Ok.ensures.stored in
    record {
      area = ap (λ (v : Desk). length v.earlier) (sym (counted c.args.desk.now c.count.new.self c.args.self c.into_slot-slot.result c.into_slot-slot.ensures c.count.ensures));
      count = ap (λ (v : Desk). count_at v c.args.self) (counted c.args.desk.now c.count.new.self c.args.self c.into_slot-slot.result c.into_slot-slot.ensures c.count.ensures) ∙ this_count c.args.desk.now.counts c.args.self TheVariants.Written (isnt g at);
      gate = shut g at;
      text_is = λ i now. ap (λ (p : ℕ). text_at i p) (place_is g at i now) ∙ stored i now;
    }

pub returns-in-Err-clause-stands : goal.returns-in-Err-clause-stands
returns-in-Err-clause-stands g c = standing_write g.D.Disk c.args.disk.now c.put_text.new.disk (slot_here c.args.desk.now c.args.self) (moments g (goal.at.returns-in-Err-clause-stands g c).After-put_text)

pub returns-in-Ok-clause-stands : goal.returns-in-Ok-clause-stands
returns-in-Ok-clause-stands g c = standing_write g.D.Disk c.args.disk.now c.put_text.new.disk (slot_here c.args.desk.now c.args.self) (moments g (goal.at.returns-in-Ok-clause-stands g c).After-put_text)

pub returns-then-not-is_open-clause-stands : goal.returns-then-not-is_open-clause-stands
returns-then-not-is_open-clause-stands g c = standing_same g.D.Disk c.args.disk.now c.args.disk.now (nothing g.D.Disk c.args.disk.now _ (λ d now. refl))

pub returns-then-not-is_open-clause-moments : goal.returns-then-not-is_open-clause-moments
returns-then-not-is_open-clause-moments g c = nothing g.D.Disk c.args.disk.now _ (λ d now. (unchanged _ _ d, record { keeps = λ s t signed. signed; adds_none = λ s t signed. signed }))
