use Rattle.std.proofs.Common.{◌≡◌, ℕ, arith, subst}
use Rattle.desk_sight.specs.Slots.{IsSlots}
use Rattle.desk_sight.proofs.slots.slots_of.Goals as goal

pub returns : goal.returns
returns c =
    let end : c.loop-number.number ≡ c.args.count = omega (arith, c.loop-number-test.false, c.loop-number.auto.number-end) in
    subst (λ (n : ℕ). IsSlots c.args.image.now c.args.base n c.loop-number.slots) end c.loop-number.invariant
