use Rattle.std.proofs.Common.{sym, ◌∙◌}
use Rattle.seal_tests.proofs.desk.seal_two.Goals as goal

pub spend-second-requires-clause-knows : goal.spend-second-requires-clause-knows
spend-second-requires-clause-knows g c =
    c.spend-first.ensures.others.texted _ _ (λ is. c.requires.differ (sym is)) c.requires.second

pub seal-requires-2-clause-knows : goal.seal-requires-2-clause-knows
seal-requires-2-clause-knows g c =
    c.spend-second.ensures.others.spent _ _ (λ is. c.requires.differ (sym c.spend-first.ensures.slot ∙ is)) c.spend-first.ensures.knows
