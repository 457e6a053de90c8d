use Rattle.std.proofs.Common.{◌≡◌, length}
use Rattle.proof_judge.specs.ById.{AreNoted}
use Rattle.proof_judge.proofs.places.indices_of.Given as goal

abbrev pub invariant-loop-index : goal.invariant-loop-index
invariant-loop-index l = record {
  count : length l.indices.items ≡ length l.nodes;
  noted : AreNoted l.nodes l.ids l.indices.items l.index;
}
