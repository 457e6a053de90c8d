-- A guarded call among the steps of a life.
use Rattle.std.specs.Prelude.{◌≡◌, ℕ, List, [], ◌∷◌}
use Rattle.std.specs.declared.option.Option.{Option}
use Rattle.road_io.specs.declared.disk.Disk.{Ghosts}
use Rattle.owner_commands.specs.Releases.{Release}
use Rattle.road_run.specs.Lives.{IsLife}

-- the disk after these steps
abbrev pub last_of : {D : Type 0} → D → List (D × List Release) → D
last_of disk [] = disk
last_of disk (state ∷ states) = last_of state.0 states

-- M is a mirror, as in the definition of a life
module _ {M : Type 0} (octets : M → Option (List ℕ)) (label handed puts room : M → ℕ) {D : Type 0}
    (g : Ghosts D) where
  -- Steps of a life lead from one disk to another, whatever was released before.
  pub record IsPartOfLife (old new : D) (before : List Release) : Type 0 where
    pub states : List (D × List Release)
    pub life : IsLife octets label handed puts room g old before states
    pub ends : last_of old states ≡ new
