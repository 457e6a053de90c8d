-- Reading the text that a slot has signed.
use Rattle.std.specs.Prelude.{◌≡◌, ℕ, ◌≤◌, List, take}
use Rattle.std.specs.declared.option.Option.{Option}
use Rattle.std.specs.declared.option.Option.TheVariants.{None, Some}
use Rattle.road_io.specs.declared.disk.Disk.{Ghosts}
use Rattle.road_io.specs.Moments.{EachImage}
use Rattle.desk_areas.specs.Layout.{SlotId, gate_of, IsSigned}

-- in every image, the slot has signed the text of this length at the front of these octets, or its gate is closed
abbrev pub HasInSlot : {D : Type 0} → Ghosts D → D → SlotId → List ℕ → Option ℕ → Type 0
HasInSlot g disk slot octets (Some n) = (n ≤ 126) ×
    EachImage g disk (λ i. IsSigned i slot (take n octets))
HasInSlot g disk slot octets None = EachImage g disk (λ i. gate_of i slot ≡ 0)
