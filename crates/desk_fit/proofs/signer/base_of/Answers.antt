use Rattle.std.proofs.Common.{◌≡◌, ◌+◌, ℕ, suc, arith, sym, ap, ◌∙◌}
use Rattle.desk_areas.specs.Layout.{base_of}
use Rattle.desk_areas.proofs.Areas.{base_first}
use Rattle.desk_sight.proofs.SightSteps.{next_base}
use Rattle.desk_fit.proofs.SignerSteps.{block_there}
use Rattle.desk_fit.proofs.signer.base_of.Goals as goal

pub loop-before-init : goal.loop-before-init
loop-before-init c = record { base = sym (base_first c.args.image.now); low = omega arith }

pub slots_at-requires : goal.slots_at-requires
slots_at-requires c = let there = block_there c.args.image.now c.loop-before._before c.args.area (omega arith) c.requires.is_open in omega (arith, there, c.loop-before.invariant.base)

pub loop-before-preserved : goal.loop-before-preserved
loop-before-preserved c =
    let next = next_base c.args.image.now c.loop-before._before c.loop-before.base c.slots_at.result c.loop-before.invariant.base c.slots_at.ensures.slots in
    let more : suc c.loop-before._before ≡ c.loop-before._before + 1 = omega arith in
    record { base = next ∙ ap (λ (n : ℕ). base_of c.args.image.now n) more; low = omega (arith, c.loop-before.invariant.low, c.slots_at.ensures.few) }
