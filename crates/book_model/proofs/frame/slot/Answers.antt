use Rattle.std.proofs.Common.{◌≡◌, ◌<◌, ◌≤◌, ◌+◌, ◌*◌, ◌/◌, ◌-ℤ◌, ap, arith, ◌∙◌, w32}
use Rattle.std.specs.Prelude.{unsigned_abs}
use Rattle.book_model.proofs.FrameLaws.{share_below, abs_le, passed}
use Rattle.book_model.proofs.frame.slot.Goals as goal

below : (c : goal.After-from) → c.apart-offset.result * c.from.result / (c.apart-span.result + 1) < c.args.parts
below c =
    let p : c.apart-offset.result ≡ unsigned_abs (c.args.number -ℤ c.args.low) = passed c.args.low c.args.number _ c.ranges.low c.ranges.number c.apart-offset.ensures.value in
    let q : c.apart-span.result ≡ unsigned_abs (c.args.high -ℤ c.args.low) = passed c.args.low c.args.high _ c.ranges.low c.ranges.high c.apart-span.ensures.value in
    let le : c.apart-offset.result ≤ c.apart-span.result = omega (arith, p, q, abs_le c.args.low c.args.number c.args.high c.requires.from c.requires.to) in
    let same : c.from.result ≡ c.args.parts = c.from.ensures in
    let lt : c.apart-offset.result * c.args.parts / (c.apart-span.result + 1) < c.args.parts = share_below c.apart-offset.result c.apart-span.result c.args.parts c.requires.some le in
    rw same lt

pub overflow_cast-result : goal.overflow_cast-result
overflow_cast-result c = let lt : c.apart-offset.result * c.from.result / (c.apart-span.result + 1) < c.args.parts = below c in omega (arith, c.ranges.parts)

pub returns-clause-value : goal.returns-clause-value
returns-clause-value c =
    let p : c.apart-offset.result ≡ unsigned_abs (c.args.number -ℤ c.args.low) = passed c.args.low c.args.number _ c.ranges.low c.ranges.number c.apart-offset.ensures.value in
    let q : c.apart-span.result ≡ unsigned_abs (c.args.high -ℤ c.args.low) = passed c.args.low c.args.high _ c.ranges.low c.ranges.high c.apart-span.ensures.value in
    let same : c.from.result ≡ c.args.parts = c.from.ensures in
    cc

pub returns-clause-below : goal.returns-clause-below
returns-clause-below c = below c
