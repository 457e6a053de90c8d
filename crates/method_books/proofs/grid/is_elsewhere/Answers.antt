use Rattle.std.proofs.Common.{◌==◌, not, ap, ◌∙◌}
use Rattle.book_model.specs.Cells.{cell_of}
use Rattle.method_books.proofs.grid.is_elsewhere.Goals as goal

pub returns : goal.returns
returns c =
    let at = c.place.ensures.place in
    ap (λ k. not (k == c.args.cell)) (c.cell_at.ensures at.0 at.1 ∙ ap (cell_of c.args.map.now.parts.nodes c.args.grid.now.columns c.args.grid.now.rows) at.2)
