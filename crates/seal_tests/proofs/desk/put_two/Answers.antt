use Rattle.std.proofs.Common.{ap, sym, ◌∙◌}
use Rattle.desk_areas.specs.Layout.{SlotId}
use Rattle.seal_tests.proofs.desk.put_two.Goals as goal

pub returns-clause-first : goal.returns-clause-first
returns-clause-first g c =
    c.put-two.ensures.others.texted _ _
    (λ is. c.requires.differ (sym (ap (λ (s : SlotId). s.number) c.put-one.ensures.slot) ∙ ap (λ (s : SlotId). s.number) is))
    c.put-one.ensures.knows
