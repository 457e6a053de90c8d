use Rattle.std.proofs.Common.{◌≡◌, ◌∙◌, ◌≤◌, sym, ap, subst, inl, inr, length, List, ℕ, Some}
use Rattle.std.specs.List.{Contains}
use Rattle.std.proofs.lemmas.Result.{err_from_is_err_and}
use Rattle.book_model.specs.Books.{Hyp, borders, settings_fault, count_fault}
use Rattle.method_books.proofs.HypFound.{hyp_planned, border_known, borders_few, borders_same, too_many, not_too_many}
use Rattle.method_books.proofs.hyp.cells_over.Goals as goal

pub returns-in-Some-clause-refused : goal.returns-in-Some-clause-refused
returns-in-Some-clause-refused c = inr (ap (λ o. settings_fault o (count_fault Hyp c.args.map.now.parts c.args.settings.now)) (sym (c.first_parameter.ensures.first c.args.map.now.parts) ∙ c.in-Some.is))

pub table_of-requires-clause-known : goal.table_of-requires-clause-known
table_of-requires-clause-known c = λ id h. border_known c.args.map.now.parts c.grid_over-grid.result.columns c.grid_over-grid.result.rows id (subst (λ (xs : List ℕ). Contains xs id) c.in_ok-borders.ensures h)

pub table_of-requires-clause-counted : goal.table_of-requires-clause-counted
table_of-requires-clause-counted c = subst (λ (xs : List ℕ). length xs ≤ 65536) (sym c.in_ok-borders.ensures) (borders_few c.args.map.now.parts c.grid_over-grid.result.columns c.grid_over-grid.result.rows c.parts.ensures.is_map)

pub returns-in_err-pairs-clause-refused : goal.returns-in_err-pairs-clause-refused
returns-in_err-pairs-clause-refused c =
    let same : borders c.args.map.now.parts c.grid_over-grid.result.columns c.grid_over-grid.result.rows ≡ borders c.args.map.now.parts c.args.settings.now.p1 c.args.settings.now.p2 = borders_same c.args.map.now.parts _ _ _ _ c.grid_over-grid.ensures.columns c.grid_over-grid.ensures.rows in
    let count : length c.in_ok-borders.borders ≡ length (borders c.args.map.now.parts c.args.settings.now.p1 c.args.settings.now.p2) = ap (λ (xs : List ℕ). length xs) (c.in_ok-borders.ensures ∙ same) in
    let p = err_from_is_err_and c.from_residual-in_err-pairs.result c.from_residual-in_err-pairs.ensures.1 in
    rw (p.1, p.2) (elim c.in_err-pairs.ensures.refused [
      | inl m ↦ inl m
      | inr r ↦ inr (ap (λ o. settings_fault o (count_fault Hyp c.args.map.now.parts c.args.settings.now)) (sym (c.first_parameter.ensures.first c.args.map.now.parts) ∙ c.in_default.is) ∙ (too_many c.args.map.now.parts c.args.settings.now (length c.in_ok-borders.borders) count r.1 ∙ ap Some (sym r.0)))
    ])

pub returns-clause-allowed : goal.returns-clause-allowed
returns-clause-allowed c =
    let same : borders c.args.map.now.parts c.grid_over-grid.result.columns c.grid_over-grid.result.rows ≡ borders c.args.map.now.parts c.args.settings.now.p1 c.args.settings.now.p2 = borders_same c.args.map.now.parts _ _ _ _ c.grid_over-grid.ensures.columns c.grid_over-grid.ensures.rows in
    let count : length c.in_ok-borders.borders ≡ length (borders c.args.map.now.parts c.args.settings.now.p1 c.args.settings.now.p2) = ap (λ (xs : List ℕ). length xs) (c.in_ok-borders.ensures ∙ same) in
    ap (λ o. settings_fault o (count_fault Hyp c.args.map.now.parts c.args.settings.now)) (sym (c.first_parameter.ensures.first c.args.map.now.parts) ∙ c.in_default.is) ∙ not_too_many c.args.map.now.parts c.args.settings.now (length c.in_ok-borders.borders) count c.in_ok-pairs.ensures.few

pub returns-clause-book : goal.returns-clause-book
returns-clause-book c = λ order.
    hyp_planned c.args.map.now.parts c.args.settings.now order c.grid_over-grid.result.columns c.grid_over-grid.result.rows c.in_ok-borders.borders c.in_ok-pairs.pairs
    c.grid_over-grid.ensures.columns c.grid_over-grid.ensures.rows c.in_ok-borders.ensures c.in_ok-pairs.ensures.leaves
