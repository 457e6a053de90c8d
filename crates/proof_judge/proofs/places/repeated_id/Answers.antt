use Rattle.proof_judge.proofs.KeyPlaces.{none_twice, least_twice}
use Rattle.proof_judge.proofs.places.repeated_id.Goals as goal

pub returns-then-ids-index : goal.returns-then-ids-index
returns-then-ids-index c = least_twice (λ id. id) c.args.ids.now c.requires c.loop-index.index _ c.loop-index.auto.index c.loop-index-test.true c.loop-index.invariant c.if-ids-index.true

pub returns : goal.returns
returns c = none_twice (λ id. id) c.args.ids.now c.requires c.loop-index.index c.loop-index-test.false c.loop-index.invariant
