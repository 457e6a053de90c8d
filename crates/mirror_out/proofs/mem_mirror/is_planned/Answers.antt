use Rattle.std.proofs.Common.{◌≡◌, ◌∙◌, sym, ◌<◌, ◌-◌, ◌^◌, arith}
use Rattle.std.proofs.lemmas.Bool.{eqb-true, OnTrue_from, OnFalse_from}
use Rattle.mirror_out.proofs.Promising.{puts_before_end, puts_before_planned, puts_before_unplanned}
use Rattle.mirror_out.proofs.mem_mirror.is_planned.Goals as goal

pub returns-then-call-clause-planned : goal.returns-then-call-clause-planned
returns-then-call-clause-planned c = OnTrue_from _ _ (λ h.
    let last : c.args.call ≡ 18446744073709551615 = eqb-true c.args.call 18446744073709551615 h in
    puts_before_end c.args.fails.now c.args.call (omega arith))

pub returns-else-call-clause-planned : goal.returns-else-call-clause-planned
returns-else-call-clause-planned c = OnTrue_from _ _ (λ h. puts_before_planned c.args.fails.now c.args.call (sym c.contains.ensures.value ∙ h))

pub returns-else-call-clause-unplanned : goal.returns-else-call-clause-unplanned
returns-else-call-clause-unplanned c = OnFalse_from _ _ (λ h.
    let more : c.args.call < 2 ^ 64 - 1 = omega (arith, c.if-call.false, c.ranges.call.fits) in
    puts_before_unplanned c.args.fails.now c.args.call more (sym c.contains.ensures.value ∙ h))
