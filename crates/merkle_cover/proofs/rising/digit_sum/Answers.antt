use Rattle.std.proofs.Common.{◌≡◌, ℕ, suc, ◌+◌, ◌-◌, ◌*◌, ◌/◌, ◌%◌, ◌^◌, ◌<◌, ◌≤◌, arith, rules, ap, ◌∙◌, sym}
use Rattle.std.specs.List.{range_with_len, sum_by}
use Rattle.std.proofs.lemmas.Nat.{mul-le}
use Rattle.std.proofs.Math.Nat.{le_refl, pow-zero, div-one}
use Rattle.merkle_cover.proofs.FoldLemmas.{sum_by-range-push}
use Rattle.merkle_cover.proofs.RisingLemmas.{digit-next}
use Rattle.merkle_cover.proofs.rising.digit_sum.Goals as goal

-- a sum of few digits is small
small : (sum base digit digits : ℕ) → base ≤ 32 → digits ≤ 2097152 → digit ≤ digits → sum ≤ base * digit → sum ≤ 67108864
small sum base digit digits b d l s = omega (arith, s, mul-le base digit 32 2097152 b (omega (arith, d, l)))

pub overflow_add-sum : goal.overflow_add-sum
overflow_add-sum c =
    let at = c.loop-digit.invariant in
    let less : c.loop-digit.rest % c.args.base < c.args.base = omega (arith, c.requires.base) in
    let few = small c.loop-digit.sum c.args.base c.loop-digit.digit c.args.digits c.requires.base_max c.requires.digits (omega (arith, c.loop-digit-test.true)) at.few in
    let fits : c.loop-digit.sum + c.loop-digit.rest % c.args.base < 2 ^ 32 = omega (arith, few, less, c.requires.base_max) in
    search (rules, fits)

pub loop-digit-init : goal.loop-digit-init
loop-digit-init c = record {
  rest_is = sym (ap (λ x. c.args.number / x) (pow-zero c.args.base) ∙ div-one c.args.number);
  sum_is = omega arith;
  few = omega arith;
}

pub loop-digit-preserved : goal.loop-digit-preserved
loop-digit-preserved c =
    let at = c.loop-digit.invariant in
    let k = c.loop-digit.digit in
    let next = digit-next c.args.number c.args.base k c.loop-digit.rest at.rest_is in
    let less : c.loop-digit.rest % c.args.base < c.args.base = omega (arith, c.requires.base) in
    let zero : 0 + k ≡ k = omega arith in
    record {
      rest_is = next.0;
      sum_is = ap (λ x. x + c.loop-digit.rest % c.args.base) at.sum_is ∙ ap (λ x. sum_by (λ k. c.args.number / c.args.base ^ k - c.args.base * (c.args.number / c.args.base ^ suc k)) (range_with_len 0 k) + x) next.1
          ∙ sym (sum_by-range-push (λ k. c.args.number / c.args.base ^ k - c.args.base * (c.args.number / c.args.base ^ suc k)) 0 k
          ∙ ap (λ j. sum_by (λ k. c.args.number / c.args.base ^ k - c.args.base * (c.args.number / c.args.base ^ suc k)) (range_with_len 0 k) + (c.args.number / c.args.base ^ j - c.args.base * (c.args.number / c.args.base ^ suc j))) zero);
      few = omega (arith, at.few, less);
    }
