use Rattle.std.proofs.Common.{ap, refl, ◌∙◌}
use Rattle.road_search.specs.declared.slots.TheConstants.{FREE}
use Rattle.road_search.specs.Slots.{marked_in}
use Rattle.road_search.proofs.SlotLaws.{free_behind}
use Rattle.road_search.proofs.slots.make_room.Goals as goal

pub returns-clause-same : goal.returns-clause-same
returns-clause-same c = λ v. ap (λ xs. marked_in xs v) c.in_ok-fill_up.ensures.items ∙ free_behind c.args.slots.now.items _ FREE refl v
