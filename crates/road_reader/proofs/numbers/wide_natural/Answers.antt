use Rattle.std.proofs.Common.{◌^◌, ◌∙◌, arith}
use Rattle.road_reader.proofs.NumberLaws.{past_limit}
use Rattle.road_reader.proofs.numbers.wide_natural.Goals as goal

pub returns-in_err-checked_mul : goal.returns-in_err-checked_mul
returns-in_err-checked_mul c =
    c.from_residual.ensures
    ∙ past_limit (2 ^ 64) c.loop-octet.value c.loop-octet.octet-index c.args.word.now c.loop-octet-test.true
    (grind (arith, c.is_ascii_digit.ensures.bound)) (grind (arith, c.is_ascii_digit.ensures.bound)) c.loop-octet.invariant.rest
    (omega (arith, c.in_err-checked_mul.ensures))

pub returns-in_err-value : goal.returns-in_err-value
returns-in_err-value c =
    c.from_residual-in_err-value.ensures
    ∙ past_limit (2 ^ 64) c.loop-octet.value c.loop-octet.octet-index c.args.word.now c.loop-octet-test.true
    (grind (arith, c.is_ascii_digit.ensures.bound)) (grind (arith, c.is_ascii_digit.ensures.bound)) c.loop-octet.invariant.rest
    (omega (arith, c.in_ok-checked_mul.ensures.1, c.in_err-value.ensures, c.from-digit.ensures))
