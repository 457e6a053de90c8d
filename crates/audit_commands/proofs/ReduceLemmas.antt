-- The result of reducing a signature, for the disk and for its images.
use Rattle.std.proofs.Common.{◌≡◌, ◌≢◌, ◌⊎◌, ◌↔◌, inl, inr, ℕ, ◌+◌, ◌*◌, ◌<◌, ◌≤◌, List, length, take, drop, Option, Some, None, IfSome, refl, sym, ap, ◌∙◌, subst, arith}
use Rattle.std.specs.Prelude.{slice_index}
use Rattle.std.specs.declared.result.Result.{Result}
use Rattle.std.specs.declared.result.Result.TheVariants.{Ok, Err}
use Rattle.std.specs.Option.{ForSome}
use Rattle.road_io.specs.Contents.{Folder}
use Rattle.road_io.specs.Disk.{Stays}
use Rattle.road_io.specs.declared.disk.Disk.{Ghosts}
use Rattle.road_io.specs.Moments.{Image, EachImage, AtEachMoment, still_told}
use Rattle.road_io.proofs.MomentLaws.{at_end}
use Rattle.lms_tree.specs.Signatures.{KeyOf, number_at, public_key, sealed, verified}
use Rattle.lms_reduce.specs.Released.{own_value, signed_digits, IsUnreleased}
use Rattle.lms_reduce.specs.Reduction.{IsOfSigned, Reduces}
use Rattle.lms_reduce.specs.declared.reduced.ReduceError.{ReduceError}
use Rattle.lms_reduce.specs.declared.reduced.ReduceError.TheVariants.{NotVerified, Signed}
use Rattle.lms_tree.specs.declared.seals.SealError.{SealError}
use Rattle.route_client.specs.declared.errors.CheckError.TheVariants.{BadSignature}
use Rattle.road_line.specs.VerdictLine.{refused_line}
use Rattle.lms_reduce.specs.declared.reduced.Reduced.{Reduced}
use Rattle.lms_reduce.specs.declared.reduced.Reduced.TheVariants.{Collision, Chain}
use Rattle.lms_reduce.proofs.GoodLemmas.{good-length}
use Rattle.desk_areas.specs.Faults.{IsUsable}
use Rattle.desk_areas.specs.Layout.{IsSigned}
use Rattle.key_desk.specs.declared.desk.Desk.{Desk}
use Rattle.key_desk.specs.Desk.{key_of, Fits}
use Rattle.command_files.specs.HexFiles.{public_key_at, hex_text_at}
use Rattle.command_files.specs.Endings.{EndsReading, MayEnd, NoEnd, Promises, TellsNone, WhyNot, Writes}
use Rattle.command_files.specs.declared.fault.Fault.{Fault}
use Rattle.command_files.specs.declared.fault.Fault.TheVariants as faults
use Rattle.command_files.specs.declared.ended.Conclusion.{Conclusion}
use Rattle.command_files.specs.declared.ended.Conclusion.TheVariants.{Done, Refused, Evidence}
use Rattle.command_files.proofs.Written.{CallsFor, reads, refused, written, why_map}
use Rattle.command_desks.specs.Opening.{EndsOpening, IsOpened}
use Rattle.command_desks.proofs.Openings.{shut}
use Rattle.audit_commands.specs.ReduceLine.{reduced_line, signed_line}
use Rattle.audit_commands.specs.Reducing.{HasSigned, HasSpent, IsKeyIn, TellsReduced, TellsSlot, EndsReducing, EndsReduce, ends_reduce}
use Rattle.audit_commands.specs.Unreleased.{ShowsLater, IsUnreleasedLine, IsClashLine, RestsOnReduced, AreSpelled, WritesReduced}
use Rattle.audit_commands.proofs.SlotLemmas.{key_in, none_in}

-- a fact about each image holds about each image afterwards, since no image changes
later : {D : Type 0} (g : Ghosts D) (mid new : D) (P : List ℕ → Type 0) → AtEachMoment g mid new Stays → EachImage g mid P → EachImage g new P
later g mid new P m h i now = let w = at_end g mid new Stays m i now in subst P (sym w.2) (h w.0 w.1)

-- ---- the report of an answer

-- a successful answer, and a refusal
abbrev given : Reduced → Result Reduced ReduceError
given r = Ok r

abbrev refusal : ReduceError → Result Reduced ReduceError
refusal e = Err e

-- a signature without a fault is valid
good_else : (v : Result (Unit {0}) SealError) → ((why : SealError) → v ≡ Err why → ⊥) → v ≡ Ok tt
good_else (Ok tt) none = refl
good_else (Err why) none = absurd (none why refl)

module _ (key : KeyOf) (spent : Option (List ℕ)) (text sig line : List ℕ) where
  pub told_reduced : (r : Reduced) → ((why : SealError) → (given r ≡ Err (NotVerified why)) ↔ (verified (public_key key) text sig ≡ Err why)) → ((q : ℕ) → (given r ≡ Err (Signed q)) ↔ IsOfSigned key spent text sig q)
      → Reduces key spent text sig r → line ≡ reduced_line r → TellsReduced key spent text sig (Ok Evidence) line
  told_reduced r bad signed reduces is =
      let good = good_else (verified (public_key key) text sig) (λ why e. not_refused (NotVerified why) ((bad why).1 e)) in
      inr (good, inr ((λ same. not_refused (Signed (number_at sig 0)) ((signed (number_at sig 0)).1 (record { good = good; signed = same; of_slot = refl }))), r, reduces, refl, is))
    where
      not_refused : (e : ReduceError) → given r ≡ Err e → ⊥
      not_refused e same = cc

  pub told_signed : (slot : ℕ) → ((q : ℕ) → (refusal (Signed slot) ≡ Err (Signed q)) ↔ IsOfSigned key spent text sig q) → line ≡ signed_line slot → TellsReduced key spent text sig (Ok Done) line
  told_signed slot signed is = let h = (signed slot).0 refl in inr (h.good, inl (h.signed, refl, is ∙ ap signed_line h.of_slot))

  pub told_refused : (why : SealError) → ((w : SealError) → (refusal (NotVerified why) ≡ Err (NotVerified w)) ↔ (verified (public_key key) text sig ≡ Err w)) → line ≡ refused_line (BadSignature why) → TellsReduced key spent text sig (Ok Refused) line
  told_refused why bad is = inl (why, (bad why).0 refl, refl, is)

-- the result for this key and this text of a slot
pub told_slot : {D : Type 0} (g : Ghosts D) (disk : D) (area : ℕ) (key key' : KeyOf) (spent spent' : Option (List ℕ)) (text sig : List ℕ) (o : Result Conclusion Fault) (line : List ℕ) → key' ≡ key → spent' ≡ spent
    → EachImage g disk (λ i. HasSpent i area sig spent) → TellsReduced key' spent' text sig o line → TellsSlot g disk area key text sig o line
told_slot g disk area key key' spent spent' text sig o line same_key same_spent each tells =
    (spent, each, subst (λ (k : KeyOf). TellsReduced k spent text sig o line) same_key (subst (λ (s : Option (List ℕ)). TellsReduced key' s text sig o line) same_spent tells))

-- ---- the facts about the disk

module _ {D : Type 0} (g : Ghosts D) (old mid new : D) (desk : Desk) (public text sig : List ℕ) (opened : IsOpened g old mid desk) (told : (c : List ℕ) → still_told g old new ≡ Some c → g.content mid ≡ Some c) where
  usable : ForSome (still_told g old new) IsUsable
  usable c still = opened.usable c (told c still)

  -- the line of an area's slot is that of the content which the disk still states
  pub told_ends : ((c : List ℕ) → still_told g old new ≡ Some c → Image g new c) → (area : ℕ) (o : Result Conclusion Fault) (line : List ℕ) → area ≤ length desk.earlier → public_key (key_of desk area) ≡ public → TellsSlot g new area (key_of desk area) text sig o line
      → EndsReduce (still_told g old new) public text sig o line
  told_ends seen area o line le is tells = inr (inr (usable, inr (area, key_of desk area, tells.0, sym is, on_disk, tells.2)))
    where
      on_disk : ForSome (still_told g old new) (λ c. IsKeyIn c area (key_of desk area) × HasSpent c area sig tells.0)
      on_disk c still = (key_in desk c area opened.fits.sound (opened.areas c (told c still)).1 le, tells.1 c (seen c still))

  -- no key of the disk has the public key
  pub other_key : (DiskFailed : Type 0) → ((area : ℕ) → area ≤ length desk.earlier → public_key (key_of desk area) ≢ public) → WhyNot DiskFailed (EndsReduce (still_told g old new) public text sig) faults.OtherKey
  other_key DiskFailed none = inr (inr (usable, inl (refl, λ c still. none_in desk c public opened.fits.sound (opened.areas c (told c still)).1 none, refl)))

-- a desk that does not open
pub not_opened : (DiskFailed : Type 0) (content : Option (List ℕ)) (public text sig : List ℕ) (f : Fault) → WhyNot DiskFailed (EndsOpening content NoEnd) f → WhyNot DiskFailed (EndsReduce content public text sig) f
not_opened DiskFailed content public text sig =
    why_map DiskFailed DiskFailed (EndsOpening content NoEnd) (EndsReduce content public text sig) (λ x. x) (shut content (EndsReducing content public text sig))

-- ---- the support of evidence

-- the values of its chains that a slot's signatures show
abbrev pub Shows : Type 0
Shows = (key : KeyOf) (slot at : ℕ) (text : List ℕ) → at < 34 → take 32 (drop (40 + 32 * at) (sealed key slot text)) ≡ own_value key slot at (slice_index (signed_digits key slot text) at)

module _ (shows : Shows) (key : KeyOf) (area : ℕ) (text sig : List ℕ) (spent : Option (List ℕ)) (slot at step : ℕ) (place : at < 34) (of_slot : slot ≡ number_at sig 0) (unreleased : IsUnreleased key slot spent at step) where
  -- a text that the slot has signed shows a later step of the chain
  shown_later : (i signed : List ℕ) → HasSigned i (record { area = area; number = slot }) spent → IsSigned i (record { area = area; number = slot }) signed → ShowsLater key slot signed at step
  shown_later i signed has is = by spent has unreleased
    where
      by : (s : Option (List ℕ)) → HasSigned i (record { area = area; number = slot }) s → IsUnreleased key slot s at step → ShowsLater key slot signed at step
      by None has un = absurd (has signed is)
      by (Some t) has un = record {
        more = slice_index (signed_digits key slot signed) at;
        later = subst (λ (x : List ℕ). step < slice_index (signed_digits key slot x) at) (sym has.spent.text_is ∙ is.spent.text_is) un;
        shows = shows key slot at signed place;
      }

module _ (shows : Shows) {D : Type 0} (g : Ghosts D) (mid new : D) (desk : Desk) (area : ℕ) (text sig : List ℕ) (fits : Fits g desk mid) (le : area ≤ length desk.earlier) (moments : AtEachMoment g mid new Stays) where
  by_reduced : (spent : Option (List ℕ)) (line : List ℕ) → EachImage g new (λ i. HasSpent i area sig spent) → verified (public_key (key_of desk area)) text sig ≡ Ok tt → (r : Reduced) → Reduces (key_of desk area) spent text sig r → line ≡ reduced_line r
      → IsClashLine line ⊎ IsUnreleasedLine g new text sig line
  by_reduced spent line each good (Collision left right) reduces is = inl (record { left = left; right = right; collide = reduces.collide; line_is = is })
  by_reduced spent line each good (Chain slot at step value) reduces is = inr (record {
    key = key_of desk area;
    slot = record { area = area; number = slot };
    at = at;
    step = step;
    value = value;
    line_is = is;
    chain = reduces.place;
    of_slot = reduces.of_slot;
    of_digit = reduces.of_digit;
    shown = reduces.shown;
    of_key = later g mid new _ moments (λ i now. key_in desk i area fits.sound (fits.areas i now) le);
    own = reduces.own;
    never = λ i now signed has.
        let long : 4 ≤ length sig = omega (arith, good-length (public_key (key_of desk area)) text sig good) in
        let names = (each i now).named long in
        shown_later shows (key_of desk area) area text sig spent slot at step reduces.place reduces.of_slot reduces.unreleased i signed (subst (λ (n : ℕ). HasSigned i (record { area = area; number = n }) spent) (sym reduces.of_slot) names) has;
  })

  -- the support of a line that was returned
  pub told_rests : (o : Result Conclusion Fault) (line : List ℕ) → TellsSlot g new area (key_of desk area) text sig o line → RestsOnReduced g new text sig o line
  told_rests o line (spent, each, inl why) = subst (λ x. RestsOnReduced g new text sig x line) (sym why.2) tt
  told_rests o line (spent, each, inr (good, inl signed)) = subst (λ x. RestsOnReduced g new text sig x line) (sym signed.1) tt
  told_rests o line (spent, each, inr (good, inr evidence)) = subst (λ x. RestsOnReduced g new text sig x line) (sym evidence.3) (by_reduced spent line each good evidence.1 evidence.2 evidence.4)

-- ---- the command

-- the octets of a hex file, as they are read back
pub hex_as : (files : Option Folder) (name a b : List ℕ) → a ≡ b → IfSome files (λ folder. hex_text_at folder name ≡ Ok b) → IfSome files (λ folder. hex_text_at folder name ≡ Ok a)
hex_as files name a b same h = subst (λ xs. IfSome files (λ folder. hex_text_at folder name ≡ Ok xs)) (sym same) h

-- an end, in terms of three files
module _ (files : Option Folder) (content : Option (List ℕ)) (key_name text_name sig_name public text sig : List ℕ)
    (key_read : IfSome files (λ folder. public_key_at folder key_name ≡ Ok public)) (text_read : IfSome files (λ folder. hex_text_at folder text_name ≡ Ok text)) (sig_read : IfSome files (λ folder. hex_text_at folder sig_name ≡ Ok sig)) where
  by_shelf : (folder : Folder) → public_key_at folder key_name ≡ Ok public → hex_text_at folder text_name ≡ Ok text → hex_text_at folder sig_name ≡ Ok sig
      → (o : Result Conclusion Fault) (t : List ℕ) → EndsReduce content public text sig o t → ends_reduce content key_name text_name sig_name folder o t
  by_shelf folder is_key is_text is_sig o t h =
      reads (public_key_at folder key_name) public (λ k. EndsReading (hex_text_at folder text_name) (λ xs. EndsReading (hex_text_at folder sig_name) (λ ys. EndsReduce content k xs ys))) o t is_key
      (reads (hex_text_at folder text_name) text (λ xs. EndsReading (hex_text_at folder sig_name) (λ ys. EndsReduce content public xs ys)) o t is_text
      (reads (hex_text_at folder sig_name) sig (λ ys. EndsReduce content public text ys) o t is_sig h))

  calls : (o : Result Conclusion Fault) (t : List ℕ) → EndsReduce content public text sig o t → CallsFor (ends_reduce content key_name text_name sig_name) files o t
  calls o t h = by files key_read text_read sig_read
    where
      by : (files : Option Folder) → IfSome files (λ folder. public_key_at folder key_name ≡ Ok public) → IfSome files (λ folder. hex_text_at folder text_name ≡ Ok text) → IfSome files (λ folder. hex_text_at folder sig_name ≡ Ok sig)
          → IfSome files (λ folder. ends_reduce content key_name text_name sig_name folder o t)
      by None a b c = tt
      by (Some folder) a b c = by_shelf folder a b c o t h

  module _ (DiskFailed : Type 0) (l l' k k' : ℕ) (old : Option (List ℕ)) where
    -- a run that wrote nothing
    pub reduce_refused : (f : Fault) → WhyNot DiskFailed (EndsReduce content public text sig) f → Promises (ends_reduce content key_name text_name sig_name) TellsNone DiskFailed files l l' old old k k' (Err f)
    reduce_refused f h = refused (ends_reduce content key_name text_name sig_name) TellsNone DiskFailed files l l' k k' old (EndsReduce content public text sig) calls f h

    -- a line that was returned
    pub reduce_told : (new : Option (List ℕ)) (end o : Result Conclusion Fault) (line : List ℕ) → MayEnd TellsNone end → EndsReduce content public text sig end line → Writes end line old new k k' o
        → Promises (ends_reduce content key_name text_name sig_name) TellsNone DiskFailed files l l' old new k k' o
    reduce_told new end o line may h w = written (ends_reduce content key_name text_name sig_name) TellsNone DiskFailed files l l' k k' old (EndsReduce content public text sig) calls new end o line may h w

-- the line of evidence that is written
pub reduced_written : {D : Type 0} (g : Ghosts D) (disk : D) (files : Option Folder) (text_name sig_name text sig : List ℕ) → IfSome files (λ folder. hex_text_at folder text_name ≡ Ok text) → IfSome files (λ folder. hex_text_at folder sig_name ≡ Ok sig)
    → (old new : Option (List ℕ)) (k k' : ℕ) (end o : Result Conclusion Fault) (line : List ℕ) → RestsOnReduced g disk text sig end line → Writes end line old new k k' o → WritesReduced g disk files text_name sig_name old new o
reduced_written g disk files text_name sig_name text sig text_read sig_read old new k k' end o line rests (inl w) = subst (λ (x : Result Conclusion Fault). WritesReduced g disk files text_name sig_name old new x) (sym w.0) (by end rests)
  where
    spelled : (files : Option Folder) → IfSome files (λ folder. hex_text_at folder text_name ≡ Ok text) → IfSome files (λ folder. hex_text_at folder sig_name ≡ Ok sig) → IfSome files (λ folder. AreSpelled folder text_name sig_name text sig)
    spelled None a b = tt
    spelled (Some folder) a b = record { text_is = a; signature_is = b }

    by : (end : Result Conclusion Fault) → RestsOnReduced g disk text sig end line → WritesReduced g disk files text_name sig_name old new end
    by (Ok Evidence) rests = (text, sig, spelled files text_read sig_read, line, w.1, rests)
    by (Ok Done) rests = tt
    by (Ok Refused) rests = tt
    by (Err f) rests = tt
reduced_written g disk files text_name sig_name text sig text_read sig_read old new k k' end o line rests (inr w) = subst (λ (x : Result Conclusion Fault). WritesReduced g disk files text_name sig_name old new x) (sym w.0) tt
