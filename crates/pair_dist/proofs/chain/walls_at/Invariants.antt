use Rattle.std.proofs.Common.{◌≡◌, length}
use Rattle.pair_dist.specs.Chains.{AreWalls}
use Rattle.pair_dist.proofs.chain.walls_at.Given as goal

abbrev pub invariant-loop-place : goal.invariant-loop-place
invariant-loop-place l = record {
  long : length l.walls.items ≡ l.count;
  walls : AreWalls l.places l.walls.items;
}
