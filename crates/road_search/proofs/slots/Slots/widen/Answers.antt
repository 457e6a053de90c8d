use Rattle.std.proofs.Common.{ap, refl, sym, ◌∙◌}
use Rattle.road_search.specs.declared.slots.TheConstants.{FREE}
use Rattle.road_search.specs.Marking.{marked}
use Rattle.road_search.specs.MarkLists.{MarkList}
use Rattle.road_search.specs.Slots.{marked_in}
use Rattle.road_search.proofs.SlotLaws.{marks_in, free_behind}
use Rattle.road_search.proofs.slots.Slots.widen.Goals as goal

pub returns : goal.returns
returns c = λ v. marks_in c.fill_up.new.list.items v ∙ (ap (λ xs. marked_in xs v) c.in_ok-fill_up.ensures.items ∙ (free_behind c.self.inside.slots.items _ FREE refl v ∙ (sym (marks_in c.self.inside.slots.items v) ∙ ap (λ (l : MarkList). marked l.items v) c.self.view_is)))
