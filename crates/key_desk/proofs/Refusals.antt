-- Why a desk gets no next key, and why a disk gets none.
use Rattle.std.proofs.Common.{◌≡◌, ◌≢◌, ◌⊎◌, inl, inr, ℕ, ◌-◌, ◌<◌, ◌≤◌, true, List, length, Result, Ok, Err, refl, sym, ap, subst, ◌∙◌, arith}
use Rattle.std.proofs.lemmas.Bool.{cases_eq}
use Rattle.std.specs.declared.option.Option.{Option}
use Rattle.std.specs.declared.option.Option.TheVariants.{Some}
use Rattle.std.specs.Option.{ForSome}
use Rattle.road_io.specs.declared.disk.Disk.{Ghosts}
use Rattle.road_io.specs.Moments.{Image}
use Rattle.lms_tree.specs.Signatures.{KeyOf}
use Rattle.desk_areas.specs.declared.area.Count.TheVariants
use Rattle.desk_areas.specs.declared.errors.StartError.{StartError}
use Rattle.desk_areas.specs.declared.errors.StartError.TheVariants as start
use Rattle.desk_areas.specs.Faults.{IsBadBlock, IsUsable}
use Rattle.desk_areas.specs.Keys.{key_from, key_at}
use Rattle.desk_areas.specs.Layout.{SlotId, slots_of, base_of, gate_of, last_slot, IsAreaOpen, IsCurrent, IsOpen}
use Rattle.desk_areas.proofs.Areas.{open_down}
use Rattle.desk_areas.proofs.Growth.{open_upto, one_current}
use Rattle.desk_areas.proofs.KeyLemmas.{length-key_from, some_slots}
use Rattle.key_desk.specs.declared.desk.Desk.{Desk}
use Rattle.key_desk.specs.declared.succeed.SucceedError.{SucceedError}
use Rattle.key_desk.specs.declared.succeed.SucceedError.TheVariants.{NoKey, BadBlock, TooManyKeys, NoSuccession, SameSecret, DiskFault, Memory}
use Rattle.key_desk.specs.Desk.{slot_here, count_at, key_of, Fits}
use Rattle.key_desk.specs.Succession.{last_number, CanSucceed, IsLastSpent, HasName, Refuses, IsCalledFor, HasKeyNamed, DeskRefuses, CanFollow, IsDeskCalledFor, started}
use Rattle.key_desk.proofs.Counts.{own_here, count_here}
use Rattle.key_desk.proofs.ReadGood.{key_is}
use Rattle.key_desk.proofs.Successors.{last_on}
use Rattle.octet_text.specs.Want.{no_memory}

-- ---- refusals of a desk

-- a desk whose key can be followed refuses nothing
pub none_refused : (desk : Desk) (name : List ℕ) → CanFollow desk name → (e : SucceedError) → DeskRefuses desk name e → ⊥
none_refused desk name can NoKey h = h
none_refused desk name can BadBlock h = h
none_refused desk name can TooManyKeys h = omega (arith, can.few, h)
none_refused desk name can NoSuccession h = can.free h.1
none_refused desk name can SameSecret h = can.other h.2
none_refused desk name can DiskFault h = h
none_refused desk name can (Memory _) h = h

-- there is one first reason
pub one_refusal : (desk : Desk) (name : List ℕ) (e f : SucceedError) → DeskRefuses desk name e → DeskRefuses desk name f → e ≡ f
one_refusal desk name NoKey f h k = absurd h
one_refusal desk name BadBlock f h k = absurd h
one_refusal desk name DiskFault f h k = absurd h
one_refusal desk name (Memory _) f h k = absurd h
one_refusal desk name TooManyKeys TooManyKeys h k = refl
one_refusal desk name TooManyKeys NoSuccession h k = absurd (omega (arith, h, k.0))
one_refusal desk name TooManyKeys SameSecret h k = absurd (omega (arith, h, k.0))
one_refusal desk name TooManyKeys NoKey h k = absurd k
one_refusal desk name TooManyKeys BadBlock h k = absurd k
one_refusal desk name TooManyKeys DiskFault h k = absurd k
one_refusal desk name TooManyKeys (Memory _) h k = absurd k
one_refusal desk name NoSuccession TooManyKeys h k = absurd (omega (arith, h.0, k))
one_refusal desk name NoSuccession NoSuccession h k = refl
one_refusal desk name NoSuccession SameSecret h k = absurd (k.1 h.1)
one_refusal desk name NoSuccession NoKey h k = absurd k
one_refusal desk name NoSuccession BadBlock h k = absurd k
one_refusal desk name NoSuccession DiskFault h k = absurd k
one_refusal desk name NoSuccession (Memory _) h k = absurd k
one_refusal desk name SameSecret TooManyKeys h k = absurd (omega (arith, h.0, k))
one_refusal desk name SameSecret NoSuccession h k = absurd (h.1 k.1)
one_refusal desk name SameSecret SameSecret h k = refl
one_refusal desk name SameSecret NoKey h k = absurd k
one_refusal desk name SameSecret BadBlock h k = absurd k
one_refusal desk name SameSecret DiskFault h k = absurd k
one_refusal desk name SameSecret (Memory _) h k = absurd k

-- a reason is required
pub called : (desk : Desk) (name : List ℕ) (e : SucceedError) → DeskRefuses desk name e → IsDeskCalledFor desk name e
called desk name NoKey h = h
called desk name BadBlock h = h
called desk name TooManyKeys h = h
called desk name NoSuccession h = h
called desk name SameSecret h = h
called desk name DiskFault h = tt
called desk name (Memory _) h = tt

-- a disk fault and out of memory are always allowed
pub called_else : (desk : Desk) (name : List ℕ) (e : SucceedError) → (e ≡ DiskFault) ⊎ (e ≡ Memory no_memory) → IsDeskCalledFor desk name e
called_else desk name e (inl is) = subst (IsDeskCalledFor desk name) (sym is) tt
called_else desk name e (inr is) = subst (IsDeskCalledFor desk name) (sym is) tt

-- the key of a secret can follow, if a key with its name can follow
pub can_succeed : (desk : Desk) (kind : ℕ) (secret : List ℕ) → desk.is_open ≡ true → CanFollow desk (key_from kind secret).i → (kind ≡ 5) ⊎ (kind ≡ 6) → length secret ≡ 48 → CanSucceed desk (key_from kind secret)
can_succeed desk kind secret opened can known long = record {
  opened = opened;
  few = can.few;
  free = can.free;
  known = some_slots kind known;
  named = length-key_from kind secret long;
  distinct = λ area le same. can.other (area, le, same);
}

-- ---- refusals over the contents of a disk

module _ {D : Type 0} (g : Ghosts D) (desk : Desk) (disk : D) (fits : Fits g desk disk) (opened : desk.is_open ≡ true) (x : List ℕ) (now : Image g disk x) (usable : IsUsable x) where
  current : IsCurrent x (length desk.earlier)
  current = let areas = fits.areas x now in areas.current

  not_eighth : length desk.earlier < 7 → IsCurrent x 7 → ⊥
  not_eighth few is = omega (arith, few, one_current x (length desk.earlier) 7 current is)

  last_gate : gate_of x (last_slot x (length desk.earlier)) ≡ gate_of x (slot_here desk (last_number desk))
  last_gate = ap (λ (s : SlotId). gate_of x s) (last_on desk x (fits.areas x now))

  used : count_at desk (last_number desk) ≡ TheVariants.Spent → IsLastSpent x
  used spent =
      let known = fits.sound.known in
      let same = fits.spent opened x x now now (slot_here desk (last_number desk)) (own_here desk (last_number desk) (omega (arith, known))) (count_here desk (slot_here desk (last_number desk)) refl ∙ spent) in
      let open_gate : 0 < gate_of x (slot_here desk (last_number desk)) = same.open_gate in
      (length desk.earlier, current, omega (arith, open_gate, last_gate))

  unused : count_at desk (last_number desk) ≢ TheVariants.Spent → IsLastSpent x → ⊥
  unused other h =
      let known = fits.sound.known in
      let shut : gate_of x (slot_here desk (last_number desk)) ≡ 0 =
      fits.others opened x now (slot_here desk (last_number desk)) (own_here desk (last_number desk) (omega (arith, known))) (λ spent. other (sym (count_here desk (slot_here desk (last_number desk)) refl) ∙ spent)) in
      let here : h.0 ≡ length desk.earlier = one_current x h.0 (length desk.earlier) h.1 current in
      let gate : gate_of x (last_slot x h.0) ≡ 0 = ap (λ (a : ℕ). gate_of x (last_slot x a)) here ∙ last_gate ∙ shut in
      omega (arith, h.2, gate)

  spent_now : IsLastSpent x → count_at desk (last_number desk) ≡ TheVariants.Spent
  spent_now h = elim fits.sound.last [
    | inl free ↦ absurd (unused (λ spent. absurd (let e = sym free ∙ spent in cc)) h)
    | inr spent ↦ spent
  ]

  key_on_image : (area : ℕ) → area ≤ length desk.earlier → (key_at x (base_of x area)).i ≡ (key_of desk area).i
  key_on_image area le =
      let areas = fits.areas x now in
      ap (λ (k : KeyOf). k.i) (key_is (key_of desk area) (base_of x area) x (areas.keys area le) (fits.sound.named area le))

  named : (name : List ℕ) → HasKeyNamed desk name → HasName x name
  named name h = (h.0, open_down x h.0 (length desk.earlier) h.1 current.is_open, key_on_image h.0 h.1 ∙ h.2)

  named_now : (name : List ℕ) → HasName x name → HasKeyNamed desk name
  named_now name h =
      let le = open_upto x (length desk.earlier) h.0 current h.1 in
      (h.0, le, sym (key_on_image h.0 le) ∙ h.2)

  -- a desk's reason is the reason of its disk
  pub to_image : (name : List ℕ) (e : SucceedError) → DeskRefuses desk name e → Refuses x name e
  to_image name NoKey h = absurd h
  to_image name BadBlock h = absurd h
  to_image name TooManyKeys h = (usable, subst (λ (n : ℕ). IsCurrent x n) h current)
  to_image name NoSuccession h = (usable, not_eighth h.0, used h.1)
  to_image name SameSecret h = (usable, not_eighth h.0, unused h.1, named name h.2)
  to_image name DiskFault h = absurd h
  to_image name (Memory _) h = absurd h

  few_now : (IsCurrent x 7 → ⊥) → length desk.earlier < 7
  few_now other = elim (cases_eq (length desk.earlier) 7) [
    | inl is ↦ absurd (other (subst (λ (n : ℕ). IsCurrent x n) is current))
    | inr isnt ↦ let few = fits.sound.few in omega (arith, few, isnt)
  ]

  -- and in the other direction
  pub from_image : (name : List ℕ) (e : SucceedError) → Refuses x name e → DeskRefuses desk name e
  from_image name NoKey h = absurd (h usable.open_gate)
  from_image name BadBlock h = absurd (usable.good_block h.1)
  from_image name TooManyKeys h = one_current x (length desk.earlier) 7 current h.1
  from_image name NoSuccession h = (few_now h.1, spent_now h.2)
  from_image name SameSecret h = (few_now h.1, (λ spent. h.2 (used spent)), named_now name h.3)
  from_image name DiskFault h = absurd h
  from_image name (Memory _) h = absurd h

-- the desk's refusal is the one that its disk requires
pub called_on : (content : Option (List ℕ)) (desk : Desk) (name : List ℕ) (e : SucceedError) → ((c : List ℕ) → content ≡ Some c → (f : SucceedError) → DeskRefuses desk name f → Refuses c name f)
    → IsDeskCalledFor desk name e → IsCalledFor content name e
called_on content desk name NoKey each h = absurd h
called_on content desk name BadBlock each h = absurd h
called_on content desk name TooManyKeys each h = λ c is. each c is TooManyKeys h
called_on content desk name NoSuccession each h = λ c is. each c is NoSuccession h
called_on content desk name SameSecret each h = λ c is. each c is SameSecret h
called_on content desk name DiskFault each h = tt
called_on content desk name (Memory _) each h = tt

-- one error in two results
pub same_error : {X E : Type 0} (e f : E) → ◌≡◌ {A = Result X E} (Err e) (Err f) → e ≡ f
same_error e f is = cc

-- ---- a desk that cannot be opened

pub start_called : (content : Option (List ℕ)) (name : List ℕ) (e : StartError) → (e ≡ start.NoKey → ForSome content (λ c. IsOpen c → ⊥)) → (e ≡ start.BadBlock → ForSome content (λ c. IsOpen c × IsBadBlock c))
    → IsCalledFor content name (started e)
start_called content name start.NoKey no_key bad = no_key refl
start_called content name start.BadBlock no_key bad = bad refl
start_called content name start.DiskFault no_key bad = tt
start_called content name start.Held no_key bad = tt
start_called content name (start.Memory _) no_key bad = tt

-- the disk failed if the call that opens the desk reports it
pub start_fault : (e : StartError) → started e ≡ DiskFault → e ≡ start.DiskFault
start_fault start.DiskFault is = refl
start_fault start.NoKey is = absurd cc
start_fault start.BadBlock is = absurd cc
start_fault start.Held is = absurd cc
start_fault (start.Memory _) is = absurd cc

-- the result of a call that started nothing
abbrev not_started : {X : Type 0} → SucceedError → Result X SucceedError
not_started e = Err e

pub start_called_else : {X : Type 0} (x : List ℕ) (name : List ℕ) (e : StartError) → (e ≡ start.NoKey → IsOpen x → ⊥) → (e ≡ start.BadBlock → IsOpen x × IsBadBlock x)
    → (f : SucceedError) → Refuses x name f → (not_started {X = X} (started e) ≡ Err f) ⊎ ((not_started {X = X} (started e) ≡ Err DiskFault) ⊎ (not_started {X = X} (started e) ≡ Err (Memory no_memory)))
start_called_else x name start.DiskFault no_key bad f h = inr (inl refl)
start_called_else x name start.Held no_key bad f h = inr (inr refl)
start_called_else x name (start.Memory _) no_key bad f h = inr (inr refl)
start_called_else x name start.NoKey no_key bad NoKey h = inl refl
start_called_else x name start.NoKey no_key bad BadBlock h = absurd (no_key refl h.0)
start_called_else x name start.NoKey no_key bad TooManyKeys h = absurd (no_key refl h.0.open_gate)
start_called_else x name start.NoKey no_key bad NoSuccession h = absurd (no_key refl h.0.open_gate)
start_called_else x name start.NoKey no_key bad SameSecret h = absurd (no_key refl h.0.open_gate)
start_called_else x name start.NoKey no_key bad DiskFault h = absurd h
start_called_else x name start.NoKey no_key bad (Memory _) h = absurd h
start_called_else x name start.BadBlock no_key bad NoKey h = absurd (h (bad refl).0)
start_called_else x name start.BadBlock no_key bad BadBlock h = inl refl
start_called_else x name start.BadBlock no_key bad TooManyKeys h = absurd (h.0.good_block (bad refl).1)
start_called_else x name start.BadBlock no_key bad NoSuccession h = absurd (h.0.good_block (bad refl).1)
start_called_else x name start.BadBlock no_key bad SameSecret h = absurd (h.0.good_block (bad refl).1)
start_called_else x name start.BadBlock no_key bad DiskFault h = absurd h
start_called_else x name start.BadBlock no_key bad (Memory _) h = absurd h

-- there is one first reason over the contents of a disk
pub one_reason : (x name : List ℕ) (e f : SucceedError) → Refuses x name e → Refuses x name f → e ≡ f
one_reason x name DiskFault f h k = absurd h
one_reason x name (Memory _) f h k = absurd h
one_reason x name NoKey NoKey h k = refl
one_reason x name NoKey BadBlock h k = absurd (h k.0)
one_reason x name NoKey TooManyKeys h k = absurd (h k.0.open_gate)
one_reason x name NoKey NoSuccession h k = absurd (h k.0.open_gate)
one_reason x name NoKey SameSecret h k = absurd (h k.0.open_gate)
one_reason x name NoKey DiskFault h k = absurd k
one_reason x name NoKey (Memory _) h k = absurd k
one_reason x name BadBlock NoKey h k = absurd (k h.0)
one_reason x name BadBlock BadBlock h k = refl
one_reason x name BadBlock TooManyKeys h k = absurd (k.0.good_block h.1)
one_reason x name BadBlock NoSuccession h k = absurd (k.0.good_block h.1)
one_reason x name BadBlock SameSecret h k = absurd (k.0.good_block h.1)
one_reason x name BadBlock DiskFault h k = absurd k
one_reason x name BadBlock (Memory _) h k = absurd k
one_reason x name TooManyKeys NoKey h k = absurd (k h.0.open_gate)
one_reason x name TooManyKeys BadBlock h k = absurd (h.0.good_block k.1)
one_reason x name TooManyKeys TooManyKeys h k = refl
one_reason x name TooManyKeys NoSuccession h k = absurd (k.1 h.1)
one_reason x name TooManyKeys SameSecret h k = absurd (k.1 h.1)
one_reason x name TooManyKeys DiskFault h k = absurd k
one_reason x name TooManyKeys (Memory _) h k = absurd k
one_reason x name NoSuccession NoKey h k = absurd (k h.0.open_gate)
one_reason x name NoSuccession BadBlock h k = absurd (h.0.good_block k.1)
one_reason x name NoSuccession TooManyKeys h k = absurd (h.1 k.1)
one_reason x name NoSuccession NoSuccession h k = refl
one_reason x name NoSuccession SameSecret h k = absurd (k.2 h.2)
one_reason x name NoSuccession DiskFault h k = absurd k
one_reason x name NoSuccession (Memory _) h k = absurd k
one_reason x name SameSecret NoKey h k = absurd (k h.0.open_gate)
one_reason x name SameSecret BadBlock h k = absurd (h.0.good_block k.1)
one_reason x name SameSecret TooManyKeys h k = absurd (h.1 k.1)
one_reason x name SameSecret NoSuccession h k = absurd (h.2 k.2)
one_reason x name SameSecret SameSecret h k = refl
one_reason x name SameSecret DiskFault h k = absurd k
one_reason x name SameSecret (Memory _) h k = absurd k
