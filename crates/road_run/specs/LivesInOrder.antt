-- Contents that no image of a life has.
use Rattle.std.specs.Prelude.{ℕ, ◌<◌, ◌≤◌, List, [], ◌∷◌}
use Rattle.std.specs.declared.option.Option.{Option}
use Rattle.std.specs.declared.option.Option.TheVariants.{Some}
use Rattle.std.specs.declared.result.Result.{Result}
use Rattle.std.specs.declared.result.Result.TheVariants.{Err}
use Rattle.road_io.specs.declared.disk.Disk.{Ghosts}
use Rattle.road_io.specs.Moments.{EachImage}
use Rattle.desk_areas.specs.Layout.{gate_at}
use Rattle.desk_sight.specs.Areas.{IsStrange}
use Rattle.desk_sight.specs.Looks.{IsUnlinked}
use Rattle.desk_sight.specs.Tidy.{HasFreshLink}
use Rattle.desk_sight.specs.declared.strange.Strange.{Strange}
use Rattle.road_command.specs.Requests.{Request, Succeed}
use Rattle.command_files.specs.declared.fault.Fault.{Fault}
use Rattle.command_files.specs.declared.fault.Fault.TheVariants.{Disk}
use Rattle.command_files.specs.declared.ended.Conclusion.{Conclusion}
use Rattle.owner_commands.specs.Releases.{Release}
use Rattle.road_run.specs.Lives.{Step, Ran, Cut, Broke, Spent, SpentCut, IsLife}

-- If a key exists, the look before a command finds nothing strange in the image: no free slot comes before a used
-- one, no free slot except the first holds a text, and all octets that are always zero are zero.
abbrev pub IsInOrder : List ℕ → Type 0
IsInOrder image = 0 < gate_at image 0 → (strange : Strange) → IsStrange image strange → ⊥

-- the look before `succeed` finds no link to a key other than the next one if the next key has signed
abbrev pub IsLinkInOrder : List ℕ → Type 0
IsLinkInOrder image = (strange : Strange) → IsUnlinked image strange → ⊥

-- ---- the excluded crashes

-- this is required if a crash interrupts `succeed`
abbrev pub OnTornLink : Option Request → Type 0 → Type 0
OnTornLink (Some (Succeed secret kind)) P = P
OnTornLink asked P = Unit {0}

-- this is required if the disk fails under `succeed`
abbrev pub OnFaultyLink : Option Request → Result Conclusion Fault → Type 0 → Type 0
OnFaultyLink (Some (Succeed secret kind)) (Err Disk) P = P
OnFaultyLink asked outcome P = Unit {0}

-- M is a mirror, as in the definition of a life
module _ {M : Type 0} (octets : M → Option (List ℕ)) (label handed puts room : M → ℕ) {D : Type 0}
    (g : Ghosts D) where
  -- A crash that interrupts `succeed`, or a disk that fails under it, may tear the write of the link text, so that
  -- it links to any key, or the write of the zeros after it. Such a step is allowed if no link text waits while the
  -- next area is in use. Every other step is allowed.
  abbrev pub Counts : (old new : D) (before after : List Release) →
      Step octets label handed puts room g old new before after → Type 0
  Counts old new before after (Ran run more) = OnFaultyLink run.asked run.outcome
      (EachImage g new HasFreshLink)
  Counts old new before after (Cut called run k from to crashed same) = OnTornLink run.asked
      (EachImage g new HasFreshLink)
  Counts old new before after (Broke crashed same) = Unit {0}
  Counts old new before after (Spent what spends same) = Unit {0}
  Counts old new before after (SpentCut what called spends k from to crashed same) = Unit {0}

  -- and so is each step of a life
  abbrev pub EachCounts : (disk : D) (before : List Release) (states : List (D × List Release)) →
      IsLife octets label handed puts room g disk before states → Type 0
  EachCounts disk before [] life = Unit {0}
  EachCounts disk before (state ∷ states) life = Counts disk state.0 before state.1 life.0 ×
      EachCounts state.0 state.1 states life.1

  -- ---- in order

  -- at each moment of a call, each image is in order
  abbrev pub InOrderAlong : D → D → Type 0
  InOrderAlong old new = (k : ℕ) (i : List ℕ) → g.clock old ≤ k → k ≤ g.clock new →
      g.image_at new k i → IsInOrder i

  -- the same at each moment of a step
  abbrev pub InOrderWithin : (old new : D) (before after : List Release) →
      Step octets label handed puts room g old new before after → Type 0
  InOrderWithin old new before after (Ran run more) = InOrderAlong old new
  InOrderWithin old new before after (Cut called run k from to crashed same) =
      InOrderAlong old called
  InOrderWithin old new before after (Broke crashed same) = EachImage g new IsInOrder
  InOrderWithin old new before after (Spent what spends same) = InOrderAlong old new
  InOrderWithin old new before after (SpentCut what called spends k from to crashed same) =
      InOrderAlong old called

  -- At each moment of a life, each image is in order. After each of its steps, when the next command may look, its
  -- links are in order too.
  abbrev pub StaysInOrder : (disk : D) (before : List Release) (states : List (D × List Release)) →
      IsLife octets label handed puts room g disk before states → Type 0
  StaysInOrder disk before [] life = Unit {0}
  StaysInOrder disk before (state ∷ states) life =
      InOrderWithin disk state.0 before state.1 life.0 × EachImage g state.0 IsInOrder ×
      EachImage g state.0 IsLinkInOrder × StaysInOrder state.0 state.1 states life.1
