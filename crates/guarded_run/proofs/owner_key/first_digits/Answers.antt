use Rattle.std.proofs.Common.{sym, take_all, arith}
use Rattle.std.proofs.lemmas.List.{length-take-le}
use Rattle.guarded_run.proofs.owner_key.first_digits.Goals as goal

pub slice_bounds-result-end : goal.slice_bounds-result-end
slice_bounds-result-end c = sym (length-take-le 112 c.args.text.now (omega (arith, c.if-text-le112.false)))

pub returns-then-text-le112 : goal.returns-then-text-le112
returns-then-text-le112 c = sym (take_all 112 c.args.text.now (omega (arith, c.if-text-le112.true)))
