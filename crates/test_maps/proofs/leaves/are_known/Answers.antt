use Rattle.std.proofs.Common.{◌<◌, arith, ◌∙◌, subst, get_or, below_more}
use Rattle.std.proofs.lemmas.List.{get_or_default}
use Rattle.road_map.specs.Walks.{Knows}
use Rattle.test_maps.proofs.leaves.are_known.Goals as goal

pub loop-id-preserved : goal.loop-id-preserved
loop-id-preserved c = below_more (λ k. Knows c.args.map.now.parts (get_or c.args.ids.now k 0)) c.loop-id.id-index c.loop-id.invariant (c.knows.ensures.0 c.if-not-knows.false)

pub returns : goal.returns
returns c = λ t id among.
    let within : among.0 < c.loop-id.id-index = omega (arith, among.1, c.loop-id-test.false) in
    subst (Knows c.args.map.now.parts) (get_or_default c.args.ids.now among.0 0 id among.1 ∙ among.2) (c.loop-id.invariant among.0 within)
