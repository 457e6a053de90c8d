-- The keys of a desk's areas, and what their slots have signed.
use Rattle.std.proofs.Common.{◌≡◌, ◌≢◌, ◌↔◌, ℕ, Bool, true, false, ◌<◌, ◌≤◌, List, length, take, Option, Some, None, IfSome, IfNone, Result, Ok, Err, IfOk, IfErr, refl, sym, ap, ◌∙◌, subst, arith}
use Rattle.std.specs.Option.{option_map}
use Rattle.road_io.specs.declared.disk.Disk.{Ghosts}
use Rattle.road_io.specs.Moments.{EachImage}
use Rattle.lms_tree.specs.Signatures.{KeyOf, number_at, public_key}
use Rattle.desk_areas.specs.Layout.{SlotId, slots_of, slots_at, base_of, gate_of, IsSigned}
use Rattle.desk_areas.proofs.Areas.{open_down}
use Rattle.desk_areas.proofs.Growth.{open_upto}
use Rattle.key_desk.specs.declared.desk.Desk.{Desk}
use Rattle.key_desk.specs.Desk.{key_of, HasAreas, IsSound}
use Rattle.key_desk.specs.declared.desk.DeskError.{DeskError}
use Rattle.key_desk.specs.declared.desk.DeskError.TheVariants.{KeysUsedUp, DiskFault, Closed}
use Rattle.key_desk.specs.SlotTexts.{HasInSlot}
use Rattle.key_desk.proofs.ReadGood.{key_is}
use Rattle.audit_commands.specs.Reducing.{HasSpent, IsKeyIn, IsNamed, slot_named}

-- ---- keys

-- the key of a desk's area is that of the image
pub key_in : (desk : Desk) (c : List ℕ) (area : ℕ) → IsSound desk → HasAreas desk c → area ≤ length desk.earlier → IsKeyIn c area (key_of desk area)
key_in desk c area sound areas le = record {
  is_open = open_down c area (length desk.earlier) le areas.current.is_open;
  is = sym (key_is (key_of desk area) (base_of c area) c (areas.keys area le) (sound.named area le));
}

-- a public key that does not belong to the desk does not belong to the image
pub none_in : (desk : Desk) (c public : List ℕ) → IsSound desk → HasAreas desk c → ((area : ℕ) → area ≤ length desk.earlier → public_key (key_of desk area) ≢ public)
    → (area : ℕ) (key : KeyOf) → IsKeyIn c area key → public ≢ public_key key
none_in desk c public sound areas none area key is same =
    let le = open_upto c (length desk.earlier) area areas.current is.is_open in
    let here = key_in desk c area sound areas le in
    none area le (ap (λ (k : KeyOf). public_key k) (here.is ∙ sym is.is) ∙ sym same)

-- ---- slots

-- a signature that is too short names no slot
pub unnamed : (c : List ℕ) (area : ℕ) (sig : List ℕ) → length sig < 4 → HasSpent c area sig None
unnamed c area sig short = record { named = λ long. absurd (omega (arith, short, long)); unnamed = λ lt. refl }

-- nor can a slot have signed that the area does not have
pub beyond : (desk : Desk) (c : List ℕ) (area number : ℕ) (sig : List ℕ) → HasAreas desk c → area ≤ length desk.earlier → 4 ≤ length sig → number ≡ number_at sig 0 → slots_of (key_of desk area).kind ≤ number
    → HasSpent c area sig None
beyond desk c area number sig areas le long is high = record {
  named = λ more text signed.
      let key = areas.keys area le in
      let known = signed.place.known in
      let slots : slots_at c (base_of c area) ≡ slots_of (key_of desk area).kind = ap slots_of key.kind in
      absurd (omega (arith, known, slots, high, is));
  unnamed = λ short. refl;
}

-- the text that a slot is reported to have signed
pub told_spent : {D : Type 0} (g : Ghosts D) (disk : D) (area number : ℕ) (sig octets : List ℕ) (found : Option ℕ) → 4 ≤ length sig → number ≡ number_at sig 0 → HasInSlot g disk (record { area = area; number = number }) octets found
    → EachImage g disk (λ i. HasSpent i area sig (option_map (λ n. take n octets) found))
told_spent g disk area number sig octets None long is told i now = record {
  named = λ more text signed.
      let gate = signed.spent.gate in
      let shut = ap (λ (n : ℕ). gate_of i (record { area = area; number = n })) (sym is) ∙ told i now in
      absurd (omega (arith, gate, shut));
  unnamed = λ short. refl;
}
told_spent g disk area number sig octets (Some n) long is told i now = record {
  named = λ more. named (told.1 i now);
  unnamed = λ short. absurd (omega (arith, long, short));
}
  where
    named : IsSigned i (record { area = area; number = number }) (take n octets) → IsSigned i (slot_named area sig) (take n octets)
    named signed = subst (λ (k : ℕ). IsSigned i (record { area = area; number = k }) (take n octets)) is signed

pub told_short : {D : Type 0} (g : Ghosts D) (disk : D) (slot : SlotId) (octets : List ℕ) (found : Option ℕ) → HasInSlot g disk slot octets found → IfSome found (λ n. n ≤ 126)
told_short g disk slot octets None told = tt
told_short g disk slot octets (Some n) told = told.0

-- a number below the number of slots is the slot that the signature names
pub named_within : (desk : Desk) (area : ℕ) (sig : List ℕ) (slot : ℕ) (found : Option ℕ) → slot ≡ number_at sig 0 → 4 ≤ length sig → IfSome found (λ n. (n ≡ slot) × (slot < slots_of (key_of desk area).kind)) → IfSome found (IsNamed desk area sig)
named_within desk area sig slot None is long h = tt
named_within desk area sig slot (Some n) is long h = record { number = h.0 ∙ is; long = long; known = omega (arith, h.0, h.1) }

-- any other number names no slot that has signed anything
pub named_beyond : (desk : Desk) (area : ℕ) (sig : List ℕ) (slot : ℕ) (found : Option ℕ) → area ≤ length desk.earlier → slot ≡ number_at sig 0 → 4 ≤ length sig → IfNone found (slots_of (key_of desk area).kind ≤ slot)
    → IfNone found ((i : List ℕ) → HasAreas desk i → HasSpent i area sig None)
named_beyond desk area sig slot None le is long high = λ i areas. beyond desk i area slot sig areas le long is high
named_beyond desk area sig slot (Some n) le is long h = tt

-- ---- the consequences of a result

pub ok_then : {T E : Type 0} (r : Result T E) (P Q : T → Type 0) → ((x : T) → P x → Q x) → IfOk r P → IfOk r Q
ok_then (Ok x) P Q f h = f x h
ok_then (Err e) P Q f h = tt

-- an open desk refuses only if its disk failed
pub failed_then : {T : Type 0} (r : Result T DeskError) (opened : Bool) (P : Type 0) → opened ≡ true → (r ≡ Err DiskFault → P) → (r ≡ Err Closed) ↔ (opened ≡ false) → r ≢ Err KeysUsedUp → IfErr r (λ e. P)
failed_then (Ok x) opened P is fault closed used = tt
failed_then (Err DiskFault) opened P is fault closed used = fault refl
failed_then (Err Closed) opened P is fault closed used = absurd (no_both opened is (closed.0 refl))
  where
    no_both : (b : Bool) → b ≡ true → b ≡ false → ⊥
    no_both b was isnt = cc
failed_then (Err KeysUsedUp) opened P is fault closed used = absurd (used refl)
