use Rattle.std.proofs.Common.{ap, refl, ◌∙◌}
use Rattle.road_search.specs.Slots.{marked_in}
use Rattle.road_search.proofs.SlotLaws.{marks_in, all_free}
use Rattle.road_search.proofs.slots.Slots.clear.Goals as goal

pub returns : goal.returns
returns c = λ v. marks_in c.fill.new.self.items v ∙ (ap (λ xs. marked_in xs v) (c.fill.ensures.items (λ y h. h)) ∙ all_free _ _ refl v)
