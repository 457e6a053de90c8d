use Rattle.std.proofs.Common.{◌≡◌, ◌⊎◌, List, ℕ, length, arith, ap, sym, ◌∙◌, subst, inl, inr, refl, true, suc, ◌-◌, ◌<◌, ◌≤◌, Result, Ok, Err, IfOk, OnOk, IfErr, take}
use Rattle.road_io.specs.declared.disk.Disk.{Ghosts}
use Rattle.road_io.specs.Disk.{Stays}
use Rattle.road_io.specs.Moments.{Image, EachImage, AtEachMoment}
use Rattle.road_io.proofs.MomentLaws.{weaker, continued}
use Rattle.lms_tree.specs.Signatures.{KeyOf, public_key}
use Rattle.lms_tree.specs.Links.{link_text}
use Rattle.key_desk.specs.declared.desk.Desk.{Desk}
use Rattle.key_desk.specs.declared.succeed.SucceedError.{SucceedError}
use Rattle.key_desk.specs.declared.succeed.SucceedError.TheVariants.{DiskFault, Memory}
use Rattle.key_desk.specs.declared.succeed.SucceedError.TheVariants as succeed
use Rattle.std.specs.Prelude.{IsErr, Some}
use Rattle.std.proofs.Common.{◌≢◌}
use Rattle.road_io.proofs.StillTold.{narrowed, told_between}
use Rattle.desk_areas.specs.declared.errors.StartError.{StartError}
use Rattle.desk_areas.specs.declared.errors.StartError.TheVariants as start
use Rattle.desk_areas.specs.Faults.{IsBadBlock, IsUsable}
use Rattle.desk_areas.specs.Layout.{SlotId, slots_of, slots_at, base_of, last_slot, IsCurrent, IsOpen, IsSigned, SignsAtMost}
use Rattle.desk_areas.specs.Keys.{key_from}
use Rattle.key_desk.specs.Stands.{KeepsStanding, SameKeys}
use Rattle.key_desk.specs.Desk.{slot_here, HasAreas, Fits}
use Rattle.key_desk.specs.Succession.{last_number, next_desk, started, HasKeys, SignsLink, Refuses, IsCalledFor, IsDeskCalledFor}
use Rattle.key_desk.proofs.CallLemmas.{succeeded}
use Rattle.key_desk.proofs.Standing.{standing}
use Rattle.key_desk.proofs.KeptKeys.{stays_keys, desk_keys}
use Rattle.key_desk.proofs.Counts.{key_here}
use Rattle.key_desk.proofs.Refusals.{called_on, to_image, from_image, start_called, start_called_else, start_fault, same_error}
use Rattle.key_desk.proofs.Raises.{raises_later}
use Rattle.key_desk.proofs.Successors.{last_on, one_more, key_before}
use Rattle.key_desk.proofs.desk.Desk.succeed.Goals as goal
use Rattle.octet_text.specs.Want.{no_memory}

-- an opened desk, and a refusal
abbrev started_as : {X : Type 0} → X → Result X StartError
started_as desk = Ok desk

abbrev refused_by : SucceedError → Result Desk SucceedError
refused_by e = Err e

-- the combined effect of a reading and a succession, at each moment
linked : {D : Type 0} (g : Ghosts D) (desk : Desk) (old mid new : D) (text : List ℕ) → Fits g desk mid → AtEachMoment g old mid Stays → AtEachMoment g mid new (SignsAtMost (slot_here desk (last_number desk)) text)
    → AtEachMoment g old new (λ d i. (i ≡ d) ⊎ SignsLink text d i)
linked g desk old mid new text fits read signed = continued g old mid new Stays _ (λ d i. (i ≡ d) ⊎ SignsLink text d i) read signed
    (λ d i now is. inl is)
    (λ d e i now_d now_e is h.
    let areas = fits.areas e now_e in
    inr (subst (λ (x : List ℕ). SignsLink text x i) is (record {
      area = length desk.earlier;
      current = areas.current;
      signs = subst (λ (s : SlotId). SignsAtMost s text e i) (sym (last_on desk e areas)) h;
    })))

-- such steps keep the signed pairs
kept : {D : Type 0} (g : Ghosts D) (old new : D) (text : List ℕ) → AtEachMoment g old new (λ d i. (i ≡ d) ⊎ SignsLink text d i) → KeepsStanding g old new
kept g old new text moments = standing g old new (λ d i. (i ≡ d) ⊎ SignsLink text d i) moments
    (λ d i h s t signed. elim h [ inl is ↦ subst (λ (x : List ℕ). IsSigned x s t) (sym is) signed | inr link ↦ link.signs.keeps s t signed ])

pub returns-in-Ok-clause-moments : goal.returns-in-Ok-clause-moments
returns-in-Ok-clause-moments g c = linked g.D.Disk c.in-Ok.desk c.args.disk.now c.reopen.new.disk c.pass_on.new.disk (link_text (public_key (key_from c.args.kind c.args.secret.now))) c.in-Ok.ensures.fits c.reopen.ensures.moments c.pass_on.ensures.moments

pub returns-in-Ok-clause-stands : goal.returns-in-Ok-clause-stands
returns-in-Ok-clause-stands g c = kept g.D.Disk c.args.disk.now c.pass_on.new.disk (link_text (public_key (key_from c.args.kind c.args.secret.now)))
    (linked g.D.Disk c.in-Ok.desk c.args.disk.now c.reopen.new.disk c.pass_on.new.disk (link_text (public_key (key_from c.args.kind c.args.secret.now))) c.in-Ok.ensures.fits c.reopen.ensures.moments c.pass_on.ensures.moments)

pub returns-in-Err-clause-moments : goal.returns-in-Err-clause-moments
returns-in-Err-clause-moments g c = weaker g.D.Disk c.args.disk.now c.reopen.new.disk Stays _ c.reopen.ensures.moments (λ d i now is. inl is)

pub returns-in-Err-clause-stands : goal.returns-in-Err-clause-stands
returns-in-Err-clause-stands g c = kept g.D.Disk c.args.disk.now c.reopen.new.disk (link_text (public_key (key_from c.args.kind c.args.secret.now)))
    (weaker g.D.Disk c.args.disk.now c.reopen.new.disk Stays _ c.reopen.ensures.moments (λ d i now is. inl is))

-- a fact about an error holds for the error that it becomes
if_err : {X E : Type 0} (r : Result X E) (P Q : E → Type 0) → ((e : E) → P e → Q e) → IfErr r P → IfErr r Q
if_err (Ok x) P Q each h = tt
if_err (Err e) P Q each h = each e h

-- if a desk was opened on a disk, the disk's keys can be used
usable_on : {X : Type 0} (c : List ℕ) (desk : X) → IsOpen c → (IsOpen c → IsBadBlock c → (started_as desk ≡ Err start.BadBlock) ⊎ ((started_as desk ≡ Err start.DiskFault) ⊎ (started_as desk ≡ Err (start.Memory no_memory)))) → IsUsable c
usable_on c desk is_open bad_else = record {
  open_gate = is_open;
  good_block = λ bad. elim (bad_else is_open bad) [ inl e ↦ cc | inr other ↦ elim other [ inl e ↦ cc | inr e ↦ cc ] ];
}

-- a refusal leaves the disk unchanged
called_after : {D : Type 0} (g : Ghosts D) (mid new : D) (name : List ℕ) (r : Result Desk SucceedError) → (IsErr r → r ≢ Err DiskFault → new ≡ mid) → IfErr r (IsCalledFor (g.content mid) name) → IfErr r (IsCalledFor (g.content new) name)
called_after g mid new name (Ok v) stays h = tt
called_after g mid new name (Err succeed.DiskFault) stays h = tt
called_after g mid new name (Err (succeed.Memory _)) stays h = tt
called_after {D} g mid new name (Err succeed.NoKey) stays h = subst (λ (d : D). IsCalledFor (g.content d) name succeed.NoKey) (sym (stays refl (λ e. cc))) h
called_after {D} g mid new name (Err succeed.BadBlock) stays h = subst (λ (d : D). IsCalledFor (g.content d) name succeed.BadBlock) (sym (stays refl (λ e. cc))) h
called_after {D} g mid new name (Err succeed.TooManyKeys) stays h = subst (λ (d : D). IsCalledFor (g.content d) name succeed.TooManyKeys) (sym (stays refl (λ e. cc))) h
called_after {D} g mid new name (Err succeed.NoSuccession) stays h = subst (λ (d : D). IsCalledFor (g.content d) name succeed.NoSuccession) (sym (stays refl (λ e. cc))) h
called_after {D} g mid new name (Err succeed.SameSecret) stays h = subst (λ (d : D). IsCalledFor (g.content d) name succeed.SameSecret) (sym (stays refl (λ e. cc))) h

abbrev started_err : StartError → Result Desk StartError
started_err e = Err e

pub returns-in-Ok-clause-refused : goal.returns-in-Ok-clause-refused
returns-in-Ok-clause-refused g c =
    called_after g.D.Disk c.reopen.new.disk c.pass_on.new.disk (take 16 c.args.secret.now) c.pass_on.result c.pass_on.ensures.untouched
    (if_err c.pass_on.result (IsDeskCalledFor c.in-Ok.desk (take 16 c.args.secret.now)) (IsCalledFor (g.D.Disk.content c.reopen.new.disk) (take 16 c.args.secret.now))
    (λ e h. called_on (g.D.Disk.content c.reopen.new.disk) c.in-Ok.desk (take 16 c.args.secret.now) e
    (λ x told f is. to_image g.D.Disk c.in-Ok.desk c.reopen.new.disk c.in-Ok.ensures.fits c.in-Ok.ensures.opened x (g.met.D.Disk.reads_image c.reopen.new.disk x told)
    (usable_on x c.in-Ok.desk (c.in-Ok.ensures.areas x told).0 (c.in-Ok.ensures.bad_block_else x told)) (take 16 c.args.secret.now) f is) h)
    c.pass_on.ensures.refused)

pub returns-in-Ok-clause-refused_else : goal.returns-in-Ok-clause-refused_else
returns-in-Ok-clause-refused_else g c x still f h =
    let told : g.D.Disk.content c.reopen.new.disk ≡ Some x = told_between g.D.Disk c.args.disk.now c.reopen.new.disk c.pass_on.new.disk _ (g.met.D.Disk.reads_image c.pass_on.new.disk) (g.met.D.Disk.image_tells c.reopen.new.disk) c.in-Ok.ensures.content c.pass_on.ensures.moments x still in
    inl (c.pass_on.ensures.refused_else f
    (from_image g.D.Disk c.in-Ok.desk c.reopen.new.disk c.in-Ok.ensures.fits c.in-Ok.ensures.opened x (g.met.D.Disk.reads_image c.reopen.new.disk x told)
    (usable_on x c.in-Ok.desk (c.in-Ok.ensures.areas x told).0 (c.in-Ok.ensures.bad_block_else x told)) (take 16 c.args.secret.now) f h))

pub returns-in-Err-clause-refused : goal.returns-in-Err-clause-refused
returns-in-Err-clause-refused g c =
    subst (IsCalledFor (g.D.Disk.content c.reopen.new.disk) (take 16 c.args.secret.now)) (sym c.started.ensures)
    (start_called (g.D.Disk.content c.reopen.new.disk) (take 16 c.args.secret.now) c.in-Err.e (λ is. c.in-Err.ensures.no_key (ap (λ x. Err x) is)) (λ is. c.in-Err.ensures.bad_block (ap (λ x. Err x) is)))

pub returns-in-Err-clause-fault : goal.returns-in-Err-clause-fault
returns-in-Err-clause-fault g c is = c.in-Err.ensures.fault (ap (λ x. Err x) (start_fault c.in-Err.e (sym c.started.ensures ∙ same_error c.started.result DiskFault is)))

pub returns-in-Err-clause-refused_else : goal.returns-in-Err-clause-refused_else
returns-in-Err-clause-refused_else g c x still =
    let told : (started_err c.in-Err.e ≢ started_err start.DiskFault) → g.D.Disk.content c.reopen.new.disk ≡ Some x = λ other. narrowed _ _ (c.in-Err.ensures.refused refl other) x still in
    subst (λ (r : SucceedError). (f : SucceedError) → Refuses x (take 16 c.args.secret.now) f → (refused_by r ≡ Err f) ⊎ ((refused_by r ≡ Err DiskFault) ⊎ (refused_by r ≡ Err (Memory no_memory)))) (sym c.started.ensures)
    (start_called_else x (take 16 c.args.secret.now) c.in-Err.e (λ is. c.in-Err.ensures.no_key (ap (λ x. Err x) is) x (told (λ bad. cc (is, bad)))) (λ is. c.in-Err.ensures.bad_block (ap (λ x. Err x) is) x (told (λ bad. cc (is, bad)))))

pub returns-in-Ok-clause-narrows : goal.returns-in-Ok-clause-narrows
returns-in-Ok-clause-narrows g c is_err other x told =
    c.in-Ok.ensures.content x (sym (ap (λ d. g.D.Disk.content d) (c.pass_on.ensures.untouched is_err other)) ∙ told)

pub returns-in-Err-clause-narrows : goal.returns-in-Err-clause-narrows
returns-in-Err-clause-narrows g c is_err other =
    c.in-Err.ensures.refused refl (λ bad. other (ap (λ (e : SucceedError). refused_by e) (c.started.ensures ∙ ap started (same_error c.in-Err.e start.DiskFault bad))))

-- after a succession, the area before the current one has signed its key
module _ {D : Type 0} (g : Ghosts D) (desk : Desk) (key : KeyOf) (new : D) (text : List ℕ) where
  last_now : (i : List ℕ) → HasAreas (next_desk desk key) i → last_slot i (length desk.earlier) ≡ slot_here desk (last_number desk)
  last_now i areas =
      let has = areas.keys (length desk.earlier) (omega (arith, one_more desk key)) in
      let slots : slots_at i (base_of i (length desk.earlier)) ≡ slots_of desk.key.kind =
      ap (λ (k : ℕ). slots_of k) has.kind ∙ ap (λ (k : KeyOf). slots_of k.kind) (key_before desk key (length desk.earlier) (omega arith)) ∙ ap (λ (k : KeyOf). slots_of k.kind) (key_here desk (length desk.earlier) refl) in
      ap (λ (n : ℕ). slot_here desk (n - 1)) slots

  signed_now : (r : Result Desk SucceedError) → IfOk r (λ v. Fits g v new) → IfOk r (λ v. v ≡ next_desk desk key) → OnOk r (EachImage g new (λ i. IsSigned i (slot_here desk (last_number desk)) text))
      → OnOk r (EachImage g new (λ i. (a : ℕ) × IsCurrent i (suc a) × IsSigned i (last_slot i a) text))
  signed_now (Ok v) fits next signed = λ i now.
      let areas = subst (λ (w : Desk). HasAreas w i) next (fits.areas i now) in (
        length desk.earlier,
        subst (λ (n : ℕ). IsCurrent i n) (one_more desk key) areas.current,
        subst (λ (s : SlotId). IsSigned i s text) (sym (last_now i areas)) (signed i now),
      )
  signed_now (Err e) fits next signed = tt

pub returns-in-Ok-clause-signed : goal.returns-in-Ok-clause-signed
returns-in-Ok-clause-signed g c = signed_now g.D.Disk c.in-Ok.desk (key_from c.args.kind c.args.secret.now) c.pass_on.new.disk (link_text (public_key (key_from c.args.kind c.args.secret.now))) c.pass_on.result c.pass_on.ensures.fits c.pass_on.ensures.next c.pass_on.ensures.signed

pub returns-in-Ok-clause-untouched : goal.returns-in-Ok-clause-untouched
returns-in-Ok-clause-untouched g c refused other =
    subst (λ d. AtEachMoment g.D.Disk c.args.disk.now d Stays) (sym (c.pass_on.ensures.untouched refused other)) c.reopen.ensures.moments

-- the keys of the open areas remain
keys_stay : {D : Type 0} (g : Ghosts D) (desk : Desk) (old mid new : D) → Fits g desk mid → AtEachMoment g old mid Stays → AtEachMoment g mid new (λ d i. HasKeys desk i) → AtEachMoment g old new SameKeys
keys_stay g desk old mid new fits read kept = continued g old mid new Stays _ SameKeys read kept
    (λ d i now is. stays_keys d i is)
    (λ d e i now_d now_e is h. subst (λ (x : List ℕ). SameKeys x i) is (desk_keys desk e i (fits.areas e now_e) h))

pub returns-in-Ok-clause-keys : goal.returns-in-Ok-clause-keys
returns-in-Ok-clause-keys g c = keys_stay g.D.Disk c.in-Ok.desk c.args.disk.now c.reopen.new.disk c.pass_on.new.disk c.in-Ok.ensures.fits c.reopen.ensures.moments c.pass_on.ensures.keys

pub returns-in-Err-clause-keys : goal.returns-in-Err-clause-keys
returns-in-Err-clause-keys g c = weaker g.D.Disk c.args.disk.now c.reopen.new.disk Stays SameKeys c.reopen.ensures.moments (λ d i now is. stays_keys d i is)

-- the key that was added follows another key
follows : (desk : Desk) (key : KeyOf) (r : Result Desk SucceedError) → IfOk r (λ v. v ≡ next_desk desk key) → IfOk r (λ v. 0 < length v.earlier)
follows desk key (Ok v) is = omega (arith, ap (λ (w : Desk). length w.earlier) is, one_more desk key)
follows desk key (Err e) is = tt

pub returns-in-Ok-clause-follows : goal.returns-in-Ok-clause-follows
returns-in-Ok-clause-follows g c = follows c.in-Ok.desk (key_from c.args.kind c.args.secret.now) c.pass_on.result c.pass_on.ensures.next

pub returns-in-Ok-clause-counted : goal.returns-in-Ok-clause-counted
returns-in-Ok-clause-counted g c =
    succeeded c.in-Ok.desk (key_from c.args.kind c.args.secret.now) (g.D.Disk.calls c.args.disk.now) (g.D.Disk.calls c.reopen.new.disk) (g.D.Disk.calls c.pass_on.new.disk) c.pass_on.result c.in-Ok.ensures.fits.sound c.in-Ok.ensures.counted c.pass_on.ensures.next
    c.pass_on.ensures.free c.pass_on.ensures.counted

pub returns-in-Ok-clause-raises : goal.returns-in-Ok-clause-raises
returns-in-Ok-clause-raises g c = raises_later g.D.Disk (key_from c.args.kind c.args.secret.now) c.args.disk.now c.reopen.new.disk c.pass_on.new.disk c.reopen.ensures.moments c.pass_on.ensures.raises

pub returns-in-Err-clause-raises : goal.returns-in-Err-clause-raises
returns-in-Err-clause-raises g c = weaker g.D.Disk c.args.disk.now c.reopen.new.disk Stays _ c.reopen.ensures.moments (λ d i now is. inl is)
