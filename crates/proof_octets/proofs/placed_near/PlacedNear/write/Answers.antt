use Rattle.std.proofs.Common.{ℕ, List, ◌++◌, ap, ◌∙◌}
use Rattle.proof_octets.specs.PlacedNear.{placed_near_text}
use Rattle.proof_octets.proofs.PlacedNearTexts.{can_near, near_same}
use Rattle.proof_octets.proofs.placed_near.PlacedNear.write.Goals as goal

pub placed_length-requires-clause-can : goal.placed_length-requires-clause-can
placed_length-requires-clause-can c = can_near c.args.self.now c.args.texts.now c.requires.0 c.requires.1

pub put_placed-requires : goal.put_placed-requires
put_placed-requires c = can_near c.args.self.now c.args.texts.now c.requires.0 c.requires.1

pub returns : goal.returns
returns c = λ leaves has.
    c.in_ok-put_placed.ensures.is ∙ ap (λ (t : List ℕ). t ++ placed_near_text c.args.self.now c.args.texts.now) c.in_ok-out.ensures.items ∙ near_same c.args.self.now c.args.texts.now leaves has
