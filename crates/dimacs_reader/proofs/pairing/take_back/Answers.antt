use Rattle.std.proofs.Common.{◌≡◌, ◌<◌, ℕ, get_or, sym, ◌∙◌, arith, refl, true, false, nat_lt, subst}
use Rattle.dimacs_reader.specs.Dimacs.{turned}
use Rattle.dimacs_reader.specs.Left.{left_of, TakesBack}
use Rattle.dimacs_reader.proofs.SortedArcs.{within_arcs, at_place, at_none, takes_back, back_there, loop_takes}
use Rattle.dimacs_reader.proofs.pairing.take_back.Goals as goal

is_above : (n : ℕ) → nat_lt 0 n ≡ true → 0 < n
is_above n h = grind (arith, h)

pub returns-then-arc-clause-left : goal.returns-then-arc-clause-left
returns-then-arc-clause-left c = λ _. loop_takes (left_of c.args.sorted.now c.args.left.now.items) c.args.arc c.if-arc.true

pub returns-in-None-clause-paired : goal.returns-in-None-clause-paired
returns-in-None-clause-paired c = back_there c.args.sorted.now c.args.left.now.items c.args.arc false 0 c.if-arc.false (at_none c.args.sorted.now c.args.left.now.items (turned c.args.arc) c.in-None.ensures) refl

pub returns-in-Some-clause-paired : goal.returns-in-Some-clause-paired
returns-in-Some-clause-paired c = back_there c.args.sorted.now c.args.left.now.items c.args.arc c.take_one.result (get_or c.args.left.now.items c.in-Some.place 0) c.if-arc.false (at_place c.args.sorted.now c.args.left.now.items (turned c.args.arc) c.in-Some.place c.in-Some.ensures) c.take_one.ensures.some

pub returns-in-Some-clause-left : goal.returns-in-Some-clause-left
returns-in-Some-clause-left c = λ t.
    let some : 0 < get_or c.args.left.now.items c.in-Some.place 0 = is_above (get_or c.args.left.now.items c.in-Some.place 0) (sym c.take_one.ensures.some ∙ t) in
    subst (λ ns. TakesBack (left_of c.args.sorted.now c.args.left.now.items) (left_of c.args.sorted.now ns) c.args.arc) (sym (c.take_one.ensures.less t)) (takes_back c.args.sorted.now c.args.left.now.items c.args.arc c.in-Some.place c.requires.long c.in-Some.ensures some)
