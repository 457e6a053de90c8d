use Rattle.std.proofs.Common.{ℕ, List, ◌++◌, ap, ◌∙◌}
use Rattle.proof_octets.specs.Placed.{placed_answer_text}
use Rattle.proof_octets.proofs.PlacedTexts.{can_place, placed_same}
use Rattle.proof_octets.proofs.placed.PlacedAnswer.write.Goals as goal

pub placed_length-requires-clause-can : goal.placed_length-requires-clause-can
placed_length-requires-clause-can c = can_place c.args.self.now c.args.texts.now c.requires.0 c.requires.1

pub put_placed-requires : goal.put_placed-requires
put_placed-requires c = can_place c.args.self.now c.args.texts.now c.requires.0 c.requires.1

pub returns : goal.returns
returns c = λ leaves has.
    c.in_ok-put_placed.ensures.is ∙ ap (λ (t : List ℕ). t ++ placed_answer_text c.args.self.now c.args.texts.now) c.in_ok-out.ensures.items ∙ placed_same c.args.self.now c.args.texts.now leaves has
