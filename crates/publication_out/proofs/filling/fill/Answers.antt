use Rattle.std.proofs.Common.{◌≡◌, ◌+◌, ◌-◌, ◌<◌, ◌≤◌, ◌++◌, min, List, ℕ, [], length, take, drop, ◌∙◌, sym, arith, ap, subst, append_assoc}
use Rattle.std.proofs.lemmas.Bool.{OnTrue_at, OnFalse_at}
use Rattle.std.proofs.lemmas.List.{length-drop, length-take, length-take-le, take-append-drop, drop-drop, drop-take}
use Rattle.publication_out.specs.Left.{left_in}
use Rattle.publication_out.specs.Ahead.{ahead}
use Rattle.publication_out.proofs.AheadLemmas.{given_more, left_cut}
use Rattle.publication_out.proofs.filling.fill.Goals as goal

pub returns-then-not-is_ready-clause-count : goal.returns-then-not-is_ready-clause-count
returns-then-not-is_ready-clause-count c =
    let at = c.loop-done.invariant in
    let none : left_in c.loop-done.rest ≡ [] = OnFalse_at c.if-not-is_ready.true c.is_ready.ensures.none in
    let size : length (left_in c.args.rest.now) - c.loop-done.done ≡ 0 = sym (length-drop c.loop-done.done (left_in c.args.rest.now)) ∙ ap length (sym at.left ∙ none) in
    omega (arith, size, at.there, c.loop-done-test.true)

pub loop-done-preserved : goal.loop-done-preserved
loop-done-preserved c =
    let at = c.loop-done.invariant in
    let all : List ℕ = left_in c.args.rest.now in
    let r = c.is_ready.new.rest in
    let done = c.loop-done.done in
    let count = c.min-count.result in
    let some : r.at < r.end = OnTrue_at c.if-not-is_ready.false c.is_ready.ensures.some in
    let least : count ≤ r.end - r.at = omega (arith, c.min-count.ensures) in
    let most : count ≤ length c.loop-done.into - done = omega (arith, c.min-count.ensures) in
    let long : length r.buffer ≡ 110 = omega arith in
    let cut = left_cut r.buffer (ahead r.publication.now r.part r.index) r.at r.end count (omega (arith, least, some)) (omega (arith, long, r.within)) in
    let piece : List ℕ = take count (drop r.at r.buffer) in
    let piece_is : take (r.at + count - r.at) (drop r.at r.buffer) ≡ piece = ap (λ n. take n (drop r.at r.buffer)) (let n : r.at + count - r.at ≡ count = omega arith in n) in
    let room : done + count ≤ length c.args.into.now = omega (arith, most, at.within, c.loop-done.auto.into) in
    let left : drop done all ≡ piece ++ (drop (r.at + count) (take r.end r.buffer) ++ ahead r.publication.now r.part r.index) = sym (c.is_ready.ensures.left ∙ at.left) ∙ cut.0 in
    let more = given_more all c.args.into.now c.loop-done.into piece _ done count at.given at.there room cut.1 left in
    record {
      within = omega (arith, most, at.within, c.copy_at.auto.into);
      given = c.copy_at.ensures ∙ ap (λ p. take done c.loop-done.into ++ p ++ drop (done + length p) c.loop-done.into) piece_is ∙ more.0;
      left = more.1;
      there = more.2;
      same = c.is_ready.ensures.same ∙ at.same;
    }
