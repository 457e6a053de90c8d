-- Runs of calls, crashes and reopenings.
use Rattle.std.specs.Prelude.{◌≡◌, ◌≢◌, ℕ, ◌≤◌, List, [], ◌∷◌, ◌++◌}
use Rattle.std.specs.List.{All}
use Rattle.road_io.specs.declared.disk.Disk.{Ghosts}
use Rattle.road_io.specs.Moments.{Image, EachImage}
use Rattle.desk_areas.specs.Layout.{SlotId, gate_of, IsSigned}
use Rattle.key_desk.specs.Stands.{Stands, KeepsStanding}

-- new is the disk that a crash at a moment left of old: the crash may leave each image of new
pub record Crashed {D : Type 0} (g : Ghosts D) (k : ℕ) (old new : D) : Type 0 where
  pub left : (i : List ℕ) → Image g new i → g.image_at old k i

-- One step of a run, from a disk and the pairs signed so far. A call, including `create` and `reopen`, keeps the
-- signed pairs, whatever it returns. If it signs, the gate was closed in one image before, as the disk read it, and
-- the pair is signed in every image afterwards. A crash interrupts a call at one of its moments, or comes before
-- the call.
pub data Step {D : Type 0} (g : Ghosts D) (old new : D)
    (before after : List (SlotId × List ℕ)) : Type 0 where
  Called : KeepsStanding g old new → after ≡ before → Step g old new before after
  Signed : (slot : SlotId) (text was : List ℕ) → KeepsStanding g old new → Image g old was →
      gate_of was slot ≡ 0 → EachImage g new (λ i. IsSigned i slot text) →
      after ≡ before ++ (slot, text) ∷ [] → Step g old new before after
  Cut : (called : D) (k : ℕ) → KeepsStanding g old called → g.clock old ≤ k → k ≤ g.clock called →
      Crashed g k called new → after ≡ before → Step g old new before after

-- these disks, each with the pairs signed so far, follow each other by steps
abbrev pub IsRun : {D : Type 0} → Ghosts D → D → List (SlotId × List ℕ) →
    List (D × List (SlotId × List ℕ)) → Type 0
IsRun g disk pairs [] = Unit {0}
IsRun g disk pairs (state ∷ states) = Step g disk state.0 pairs state.1 ×
    IsRun g state.0 state.1 states

-- no two pairs have the same slot
abbrev pub HasDistinctSlots : List (SlotId × List ℕ) → Type 0
HasDistinctSlots [] = Unit {0}
HasDistinctSlots (pair ∷ pairs) = All (λ other. other.0 ≢ pair.0) pairs × HasDistinctSlots pairs

-- in each of these states the pairs are on the disk, and no two have the same slot
abbrev pub StandThroughout : {D : Type 0} → Ghosts D → List (D × List (SlotId × List ℕ)) → Type 0
StandThroughout g [] = Unit {0}
StandThroughout g (state ∷ states) = Stands g state.0 state.1 × HasDistinctSlots state.1 ×
    StandThroughout g states
