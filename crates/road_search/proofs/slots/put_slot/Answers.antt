use Rattle.std.proofs.Common.{cond, nat_eq, ap, ◌∙◌}
use Rattle.road_search.specs.Slots.{mark_in}
use Rattle.road_search.proofs.SlotLaws.{one_set}
use Rattle.road_search.proofs.slots.put_slot.Goals as goal

pub returns : goal.returns
returns c = λ v.
    one_set c.make_room.new.slots.items c.args.number c.args.new v c.in_ok-make_room.ensures.room
    ∙ ap (cond (nat_eq c.args.number v) (mark_in c.args.new)) (c.in_ok-make_room.ensures.same v)
