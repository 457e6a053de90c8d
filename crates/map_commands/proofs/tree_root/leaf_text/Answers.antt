use Rattle.map_commands.proofs.RootLemmas.{few_arcs}
use Rattle.map_commands.proofs.tree_root.leaf_text.Goals as goal

pub write-requires : goal.write-requires
write-requires c =
    few_arcs c.args.map.now.parts c.parts-parts.ensures.is_map c.node-node.result c.arcs.result.now (c.arcs.ensures _ c.node-node.ensures) _ c.in_ok-leaf.ensures
