-- The lives of a desk's disk: calls that make a key, sign, add a key or spend slots that wait, and crashes within
-- or between them.
use Rattle.std.specs.Prelude.{◌≡◌, ◌⊎◌, ℕ, ◌<◌, ◌≤◌, List, [], ◌∷◌, length}
use Rattle.road_io.specs.declared.disk.Disk.{Ghosts}
use Rattle.road_io.specs.Disk.{Turns}
use Rattle.road_io.specs.Moments.{EachImage, AtEachMoment}
use Rattle.lms_tree.specs.Signatures.{KeyOf}
use Rattle.desk_areas.specs.Blank.{IsFresh}
use Rattle.desk_areas.specs.Layout.{SlotId, gate_at, PutsText}
use Rattle.key_desk.specs.Runs.{Crashed}
use Rattle.key_desk.specs.Spending.{IsLowestFree}
use Rattle.key_desk.specs.Succession.{RaisesNext}
use Rattle.desk_sight.specs.Areas.{IsStrange}
use Rattle.desk_sight.specs.Looks.{Spends}
use Rattle.desk_sight.specs.Tidy.{HasFreshLink}
use Rattle.desk_sight.specs.declared.looking.Use.{Use}
use Rattle.desk_sight.specs.declared.strange.Strange.{Strange}

-- a text of at most 104 octets, such as a header, is written to the lowest free slot, and its gate is opened
pub record PutsHeader (text d i : List ℕ) : Type 0 where
  pub slot : SlotId
  pub short : length text ≤ 104
  pub free : IsLowestFree d slot
  pub alone : PutsText slot text d i

-- The effect of a call on the images. It follows from the clauses of `create`, of a signing over a desk that was
-- just opened, of `succeed` and of `look`. A call that only reads is one of these calls and changes no image.
pub data IsCall {D : Type 0} (g : Ghosts D) (old new : D) : Type 0 where
  Makes : (key : KeyOf) → Turns g.clock g.image_at old new (IsFresh key) → IsCall g old new
  Signs : (text : List ℕ) → AtEachMoment g old new (λ d i. (i ≡ d) ⊎ PutsHeader text d i) →
      IsCall g old new
  Adds : (key : KeyOf) → AtEachMoment g old new (λ d i. (i ≡ d) ⊎ RaisesNext key d i) →
      IsCall g old new
  Looks : (what : Use) → Spends g what old new → IsCall g old new

-- one step: a call, or a crash that interrupts a call at one of its moments or comes before it
pub data IsStep {D : Type 0} (g : Ghosts D) (old new : D) : Type 0 where
  Called : g.clock old ≤ g.clock new → IsCall g old new → IsStep g old new
  Cut : (called : D) (k : ℕ) → IsCall g old called → g.clock old ≤ k → k ≤ g.clock called →
      Crashed g k called new → IsStep g old new

-- these disks follow each other by steps
abbrev pub IsLifeOf : {D : Type 0} → Ghosts D → D → List D → Type 0
IsLifeOf g disk [] = Unit {0}
IsLifeOf g disk (next ∷ later) = IsStep g disk next × IsLifeOf g next later

-- On each disk of a life, no link text waits in any image while the next area is in use. This excludes those
-- crashes and faults of `succeed` that tear a write in this way: the torn link text may be any text.
abbrev pub EachFresh : {D : Type 0} → Ghosts D → D → List D → Type 0
EachFresh g disk [] = EachImage g disk HasFreshLink
EachFresh g disk (next ∷ later) = EachImage g disk HasFreshLink × EachFresh g next later

-- If a key exists, nothing is strange: no free slot comes before a used one, no free slot except the first holds a
-- text, and those octets that are always zero are zero.
abbrev pub IsInOrder : List ℕ → Type 0
IsInOrder image = 0 < gate_at image 0 → (strange : Strange) → IsStrange image strange → ⊥

-- at each moment of a call, each image is in order
abbrev pub InOrderAlong : {D : Type 0} → Ghosts D → D → D → Type 0
InOrderAlong g old new = (k : ℕ) (i : List ℕ) → g.clock old ≤ k → k ≤ g.clock new →
    g.image_at new k i → IsInOrder i

-- at each moment of a step, each image is in order
abbrev pub InOrderWithin : {D : Type 0} → (g : Ghosts D) (old new : D) → IsStep g old new → Type 0
InOrderWithin g old new (Called later call) = InOrderAlong g old new
InOrderWithin g old new (Cut called k call from to crashed) = InOrderAlong g old called

-- at each moment of a life, and after each of its steps, each image is in order
abbrev pub StaysInOrder : {D : Type 0} → (g : Ghosts D) (disk : D) (disks : List D) →
    IsLifeOf g disk disks → Type 0
StaysInOrder g disk [] life = Unit {0}
StaysInOrder g disk (next ∷ later) life =
    InOrderWithin g disk next life.0 × EachImage g next IsInOrder ×
    StaysInOrder g next later life.1
