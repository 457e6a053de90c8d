-- The definitions of the desk, evaluated in some cases. A changed definition fails here.
use Rattle.std.proofs.Common.{◌≡◌, ℕ, ◌≤◌, List, [], ◌∷◌, true, arith, inl, inr, refl}
use Rattle.std.proofs.lemmas.Bool.{cases_lt}
use Rattle.road_io.specs.Disk.{Turns}
use Rattle.road_io.specs.declared.disk.Disk.{Ghosts}
use Rattle.road_io.specs.Moments.{Image, EachImage}
use Rattle.desk_areas.specs.declared.area.Count.{Count}
use Rattle.desk_areas.specs.declared.area.Count.TheVariants
use Rattle.desk_areas.specs.Layout.{SlotId, gate_of, IsSigned}
use Rattle.key_desk.specs.declared.desk.Desk.{Desk}
use Rattle.key_desk.specs.Desk.{count_at, free_slots}
use Rattle.key_desk.specs.Runs.{HasDistinctSlots}
use Rattle.key_desk.specs.Stands.{Stands, AllSigned, KeepsStanding}

-- ---- counts

abbrev desk_of : List Count → Desk
desk_of counts = record { earlier = []; base = 0; key = record { kind = 5; i = []; seed = [] }; counts = counts; is_open = true }

-- the last slot never counts as free, and neither does the slot of a ticket
two_are_free : free_slots (desk_of (TheVariants.Free ∷ TheVariants.Spent ∷ TheVariants.Free ∷ TheVariants.Free ∷ [])) ≡ 2
two_are_free = refl

none_is_free : free_slots (desk_of (TheVariants.Out ∷ TheVariants.Written ∷ TheVariants.Spent ∷ TheVariants.Free ∷ [])) ≡ 0
none_is_free = refl

-- a slot that does not belong to the desk counts as spent
beyond_is_spent : count_at (desk_of (TheVariants.Free ∷ [])) 1 ≡ TheVariants.Spent
beyond_is_spent = refl

-- ---- when the image changes

-- if an image is neither an old one nor a new one, no change took place
neither_turned : {D : Type 0} (clock : D → ℕ) (image_at : D → ℕ → List ℕ → Type 0) (old new : D) (P : List ℕ → Type 0) (k : ℕ) (i : List ℕ) → clock old ≤ k → k ≤ clock new → image_at new k i
    → (image_at old (clock old) i → ⊥) → (P i → ⊥) → Turns clock image_at old new P → ⊥
neither_turned clock image_at old new P k i from to now other isnt t = elim (cases_lt k t.turn) [
  | inl lt ↦ other (t.before k i from lt to now)
  | inr ge ↦ isnt (t.since k i (omega (arith, ge)) to now)
]

-- ---- signed pairs

-- a list that has one slot twice is not distinct
one_slot_twice : (s : SlotId) (t u : List ℕ) → HasDistinctSlots ((s, t) ∷ (s, u) ∷ []) → ⊥
one_slot_twice s t u h = h.0 0 (s, u) (omega arith) refl

-- a signed pair is signed in every image; a pair whose gate is closed in one image is not
stands_is_signed : {D : Type 0} (g : Ghosts D) (disk : D) (s : SlotId) (t : List ℕ) → Stands g disk ((s, t) ∷ []) → EachImage g disk (λ i. IsSigned i s t)
stands_is_signed g disk s t stands i now = stands i now 0 (s, t) (omega arith)

shut_does_not_stand : {D : Type 0} (g : Ghosts D) (disk : D) (s : SlotId) (t i : List ℕ) → Image g disk i → gate_of i s ≡ 0 → Stands g disk ((s, t) ∷ []) → ⊥
shut_does_not_stand g disk s t i now shut stands = let signed = stands_is_signed g disk s t stands i now in omega (arith, shut, signed.spent.gate)

-- a list of pairs that is signed at the beginning of a call is signed at its end, and at its beginning
stands_after : {D : Type 0} (g : Ghosts D) (old new : D) (pairs : List (SlotId × List ℕ)) → KeepsStanding g old new → Stands g old pairs → Stands g new pairs
stands_after g old new pairs keeps stands i now = keeps.each pairs stands (g.clock new) i keeps.later (omega arith) now

stands_at_once : {D : Type 0} (g : Ghosts D) (old new : D) (pairs : List (SlotId × List ℕ)) (i : List ℕ) → KeepsStanding g old new → Stands g old pairs → g.image_at new (g.clock old) i → AllSigned pairs i
stands_at_once g old new pairs i keeps stands now = keeps.each pairs stands (g.clock old) i (omega arith) keeps.later now
