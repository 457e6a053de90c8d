-- The memory of marks.
use Rattle.std.specs.Prelude.{ℕ, true, false, List, Option, None, Some, slice_get}
use Rattle.std.specs.Option.{option_map, unwrap_or}
use Rattle.road_search.specs.declared.label.Label.{Label}
use Rattle.road_search.specs.declared.marks.Mark.{Mark}
use Rattle.road_search.specs.declared.slots.State.{State}
use Rattle.road_search.specs.declared.slots.State.TheVariants.{Free, Open, Settled}
use Rattle.road_search.specs.declared.slots.Slot.{Slot}
use Rattle.road_search.specs.Marking.{mark_with}

abbrev pub mark_as : State → Label → Option Mark
mark_as Free label = None
mark_as Open label = Some (mark_with label false)
mark_as Settled label = Some (mark_with label true)

-- the mark in a slot
abbrev pub mark_in : Slot → Option Mark
mark_in s = mark_as s.state (record { length = s.length; before = s.before; hops = s.hops })

-- the mark in the slot of a number
abbrev pub marked_in : List Slot → ℕ → Option Mark
marked_in slots number = unwrap_or (option_map mark_in (slice_get slots number)) None
