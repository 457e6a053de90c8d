use Rattle.std.proofs.Common.{arith}
use Rattle.merkle_cover.proofs.ClashTop.{chosen_texts-each}
use Rattle.merkle_cover.proofs.clashes.are_chosen.Goals as goal

pub returns : goal.returns
returns c =
    chosen_texts-each c.args.leaves.now c.args.texts.now c.args.places.now c.requires.texts
    (λ q lt. c.loop-index.invariant q (omega (arith, lt, c.requires.texts, c.count-index-end.ensures, c.loop-index-test.false)))
