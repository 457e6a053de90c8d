use Rattle.std.proofs.Common.{not, ap, sym, ◌∙◌}
use Rattle.proof_judge.specs.ItemWalks.{marks}
use Rattle.book_model.specs.Orders.{neighbours}
use Rattle.book_model.specs.Cells.{cell_of, is_border}
use Rattle.method_books.specs.HypBooks.{cell_extra}
use Rattle.method_books.proofs.HypLaws.{leaf_at_place, no_leaf}
use Rattle.method_books.proofs.MarkedNodes.{marked_at}
use Rattle.method_books.proofs.inland.lets_on.Goals as goal

pub returns-in-None : goal.returns-in-None
returns-in-None c =
    let book = c.args.book.now in
    sym (ap (λ o. not (marks o)) (no_leaf book.map.parts book.map.order c.parts-parts.ensures.by_id c.args.id c.in-None.ensures.none (cell_extra book.map.parts book.grid.columns book.grid.rows)))

pub returns-in-Some : goal.returns-in-Some
returns-in-Some c =
    let book = c.args.book.now in
    let f = c.in-Some.ensures.found in
    ap not (c.is_marked.ensures ∙ marked_at (is_border (cell_of book.map.parts.nodes book.grid.columns book.grid.rows) (neighbours book.map.parts.roads)) book.map.order c.as_slice.result.now c.in-Some.position f.0 f.1 (c.as_slice.ensures.value ∙ book.marked))
    ∙ sym (ap (λ o. not (marks o)) (leaf_at_place book.map.parts book.map.order c.parts-parts.ensures.is_map c.parts-parts.ensures.by_id c.args.id c.in-Some.position f.0 f.1 f.2 (cell_extra book.map.parts book.grid.columns book.grid.rows)))
