use Rattle.method_books.proofs.GridLaws.{holds, cell_is, within_nodes}
use Rattle.method_books.proofs.grid.cell_at.Goals as goal

pub cell-requires : goal.cell-requires
cell-requires c = holds c.args.map.now.parts.nodes c.args.grid.now c.node-node.result c.requires.grid (within_nodes c.args.map.now.parts c.args.map.now.order c.parts-parts.ensures.by_id c.args.position c.node-node.result c.node-node.ensures)

pub returns : goal.returns
returns c = λ n at. cell_is c.args.map.now.parts c.args.map.now.order c.parts-parts.ensures.is_map c.parts-parts.ensures.by_id c.args.grid.now c.requires.grid c.args.position c.node-node.result n c.cell.result c.node-node.ensures c.cell.ensures at
