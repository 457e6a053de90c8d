use Rattle.std.proofs.Common.{◌<◌, Option, ℕ, [], ◌∷◌, ◌++◌, length, arith, ap, ◌∙◌}
use Rattle.road_search.specs.Nets.{length_to}
use Rattle.landmarks.proofs.RowLaws.{length_more}
use Rattle.landmarks.proofs.lengths.lengths_of.Goals as goal

pub loop-position-preserved : goal.loop-position-preserved
loop-position-preserved c = λ f gives.
    let within : c.loop-position.position < length c.args.survey.now.map.order = omega (arith, c.loop-position-test.true, c.requires) in
    length_more f (length_to c.args.survey.now) c.args.survey.now.map.order c.loop-position.position c.loop-position.items.items c.push.new.list.items gives within (c.loop-position.invariant f gives)
    (c.in_ok-push.ensures.items ∙ ap (λ (d : Option ℕ). c.loop-position.items.items ++ d ∷ []) c.length.ensures)
