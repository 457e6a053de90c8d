use Rattle.std.proofs.Common.{arith}
use Rattle.road_leaf.specs.Seen.{seen}
use Rattle.proof_octets.proofs.TextLength.{text_long}
use Rattle.route_client.proofs.leaf_lengths.text_length.Goals as goal

pub length_added-requires : goal.length_added-requires
length_added-requires c = omega (arith, text_long (seen c.args.leaf.now), c.requires)

pub overflow_add-result-2 : goal.overflow_add-result-2
overflow_add-result-2 c = omega (arith, text_long (seen c.args.leaf.now), c.requires, c.length_added.ensures)

pub overflow_cast-result : goal.overflow_cast-result
overflow_cast-result c = omega (arith, text_long (seen c.args.leaf.now), c.requires, c.length_added.ensures)

pub returns : goal.returns
returns c = omega (arith, text_long (seen c.args.leaf.now), c.length_added.ensures)
