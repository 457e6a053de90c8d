use Rattle.std.proofs.Common.{◌≡◌, ℕ, ◌<◌, arith, ap, sym, ◌∙◌, subst}
use Rattle.std.proofs.lemmas.Bool.Decides.{nat_tests}
use Rattle.std.proofs.lemmas.Nat.{mul-le}
use Rattle.std.proofs.Math.Nat.{le_refl}
use Rattle.merkle_cover.specs.Rising.{Growth}
use Rattle.merkle_cover.proofs.RisingLemmas.{none-waits, digits-wait, top-most}
use Rattle.merkle_cover.proofs.rising.Rising.held.Goals as goal

pub returns-then-self-clause-count : goal.returns-then-self-clause-count
returns-then-self-clause-count g c =
    let r = c.args.self.now in
    let fan = ap (λ (r : Growth). r.fan) c.self.view_is in
    let pushed = ap (λ (r : Growth). r.pushed) c.self.view_is in
    let leaves = ap (λ (r : Growth). r.leaves) c.self.view_is in
    none-waits r.leaves r.fan r.pushed (omega (arith, fan, c.self.invariant.fan_least)) (omega (arith, pushed, leaves, c.if-self.true))

pub digit_sum-requires-clause-digits : goal.digit_sum-requires-clause-digits
digit_sum-requires-clause-digits g c =
    omega (arith, c.self.invariant.height_is, c.self.invariant.most, top-most c.self.inside.outline.leaves c.self.inside.outline.fan)
