use Rattle.std.proofs.Common.{◌≤◌, ◌<◌, List, All, length, ap, refl, sym, subst, ◌∙◌}
use Rattle.road_leaf.specs.declared.pair.PairLeaf.{PairLeaf}
use Rattle.road_leaf.specs.Leaves.{pair_leaf}
use Rattle.route_server.specs.Headers.{pair_texts}
use Rattle.route_server.specs.Keeping.{leaves_in}
use Rattle.route_server.proofs.HeldLaws.{few_pairs}
use Rattle.route_server.proofs.trees.with_trees.Goals as goal

pub node_tree-requires : goal.node_tree-requires
node_tree-requires g c = record { map = c.requires.map; order = c.requires.order; fits = c.requires.fits; fan = c.requires.fan; fan_max = c.requires.fan_max }

pub pair_tree-requires : goal.pair_tree-requires
pair_tree-requires g c = record {
  few = subst (λ (ps : List PairLeaf). length ps ≤ 2097152) (sym c.pairs.ensures) (few_pairs (g.B.MethodBook.kind c.args.book) (g.B.MethodBook.shown c.args.book) c.requires.fits);
  ids = subst (λ (ps : List PairLeaf). All (λ p. p.a < p.b) ps) (sym c.pairs.ensures) c.requires.fits.pairs_rise;
  fan = c.requires.fan;
  fan_max = c.requires.fan_max;
}

pub returns : goal.returns
returns g c = record {
  book = refl;
  nodes = c.in_ok-nodes.ensures.tree;
  pairs = c.in_ok-pairs.ensures.tree ∙ ap (λ (ps : List PairLeaf). leaves_in c.args.fan (pair_texts ps)) c.pairs.ensures;
  nodes_fit = c.in_ok-nodes.ensures.fit;
  pairs_fit = subst (λ (ps : List PairLeaf). All pair_leaf.Fits ps) c.pairs.ensures c.in_ok-pairs.ensures.fit;
}
