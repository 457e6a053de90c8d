use Rattle.std.proofs.Common.{◌≡◌, ◌<◌, map, take, All}
use Rattle.road_leaf.specs.declared.pair.PairLeaf.{PairLeaf}
use Rattle.road_leaf.specs.Leaves.{pair_leaf}
use Rattle.route_server.proofs.leaf_texts.pair_texts.Given as goal

abbrev pub invariant-loop-leaf : goal.invariant-loop-leaf
invariant-loop-leaf l = record {
  texts : l.texts ≡ map pair_leaf.spell (take l.leaf-index l.leaves);
  fit : All (λ (p : PairLeaf). p.a < p.b → pair_leaf.Fits p) (take l.leaf-index l.leaves);
}
