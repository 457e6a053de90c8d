use Rattle.std.proofs.Common.{◌≡◌, ◌∙◌, sym, ap}
use Rattle.road_leaf.specs.declared.leaf.Extra.TheVariants.{Cell}
use Rattle.book_model.specs.Orders.{neighbours}
use Rattle.book_model.specs.Cells.{cell_of, is_border}
use Rattle.method_books.specs.HypBooks.{cell_extra}
use Rattle.method_books.proofs.hyp.leaf_of.Goals as goal

pub returns : goal.returns
returns c =
    let parts = c.args.book.now.map.parts in
    let columns = c.args.book.now.grid.columns in
    let rows = c.args.book.now.grid.rows in
    let at = c.place-position.ensures.place in
    let cell : c.cell_at-cell.result ≡ cell_of parts.nodes columns rows c.args.id = c.cell_at-cell.ensures at.0 at.1 ∙ ap (cell_of parts.nodes columns rows) at.2 in
    let edge : c.is_border_at-border.result ≡ is_border (cell_of parts.nodes columns rows) (neighbours parts.roads) c.args.id = c.is_border_at-border.ensures at.0 at.1 ∙ ap (is_border (cell_of parts.nodes columns rows) (neighbours parts.roads)) at.2 in
    c.in_ok-leaf.ensures (cell_extra parts columns rows) (sym (ap (λ k. Cell k c.is_border_at-border.result) cell ∙ ap (Cell (cell_of parts.nodes columns rows c.args.id)) edge))
