use Rattle.std.proofs.Common.{◌≡◌, ◌+◌, ◌*◌, ◌≤◌, ℕ, suc, arith, sym, ap, ◌∙◌}
use Rattle.desk_areas.specs.Layout.{slots_at, place_in, base_of}
use Rattle.desk_areas.proofs.Areas.{base_first}
use Rattle.desk_sight.proofs.SightSteps.{next_base}
use Rattle.desk_sight.proofs.looking.base_of.Goals as goal

pub loop-before-init : goal.loop-before-init
loop-before-init c = record { base = sym (base_first c.args.image.now); low = omega arith }

pub loop-before-preserved : goal.loop-before-preserved
loop-before-preserved c =
    let next = next_base c.args.image.now c.loop-before._before c.loop-before.base c.block_slots.result c.loop-before.invariant.base c.block_slots.ensures.slots in
    let more : suc c.loop-before._before ≡ c.loop-before._before + 1 = omega arith in
    record { base = next ∙ ap (λ (n : ℕ). base_of c.args.image.now n) more; low = omega (arith, c.loop-before.invariant.low, c.block_slots.ensures.few) }
