use Rattle.desk_sight.specs.Slots.{IsSlots}
use Rattle.desk_sight.proofs.slots.slots_of.Given as goal

abbrev pub invariant-loop-number : goal.invariant-loop-number
invariant-loop-number l = IsSlots l.image l.base l.number l.slots
