use Rattle.std.proofs.Common.{subst, sym, List, ℕ}
use Rattle.route_server.specs.LeafTrees.{HasTree}
use Rattle.route_server.proofs.Known.{has_tree}
use Rattle.route_server.proofs.trees.node_tree.Goals as goal

pub build-requires : goal.build-requires
build-requires g c =
    subst (λ (texts : List (List ℕ)). HasTree (record { fan = c.args.fan; texts = texts })) (sym c.in_ok-texts.ensures.texts)
    (has_tree (g.B.MethodBook.shown c.args.book.now) c.args.order.now c.args.fan c.requires.map c.requires.order c.requires.fan c.requires.fan_max)
