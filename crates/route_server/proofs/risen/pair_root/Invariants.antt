use Rattle.std.proofs.Common.{◌≡◌, [], length}
use Rattle.merkle_cover.specs.Rising.{Takes}
use Rattle.route_server.specs.Headers.{pair_texts}
use Rattle.route_server.proofs.risen.pair_root.Given as goal

abbrev pub invariant-loop-pair : goal.invariant-loop-pair
invariant-loop-pair g l = record {
  pushed_is : l.rising.pushed ≡ l.pair-index;
  leaves_is : l.rising.leaves ≡ length l.pairs;
  takes : Takes g.H.Hasher.hash l.fan [] (pair_texts l.pairs) l.rising;
}
