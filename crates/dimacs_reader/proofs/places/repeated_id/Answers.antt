use Rattle.road_map.proofs.Twice.{none_twice, least_twice}
use Rattle.dimacs_reader.proofs.places.repeated_id.Goals as goal

pub returns-then-nodes-index : goal.returns-then-nodes-index
returns-then-nodes-index c = least_twice c.args.nodes.now c.requires c.loop-index.index _ c.loop-index.auto.index c.loop-index-test.true c.loop-index.invariant c.if-nodes-index.true

pub returns : goal.returns
returns c = none_twice c.args.nodes.now c.requires c.loop-index.index c.loop-index-test.false c.loop-index.invariant
