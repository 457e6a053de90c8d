use Rattle.std.proofs.Common.{◌≡◌, ◌≤◌, ℕ, Bool, sym, ◌∙◌, ap, arith, length}
use Rattle.std.specs.List.{filter}
use Rattle.book_model.specs.Orders.{neighbours}
use Rattle.book_model.specs.Cells.{cell_of, is_border}
use Rattle.book_model.proofs.ById.{by_id-is}
use Rattle.proof_method.proofs.Passing.{one_taken, one_left, all_tested}
use Rattle.method_books.proofs.hyp_method.borders.Goals as goal
use Rattle.method_books.proofs.hyp_method.borders.Goals.{then-is_border_at+in_ok-push, else-is_border_at}

pub loop-position-preserved : goal.loop-position-preserved
loop-position-preserved c =
    let p : ℕ → Bool = is_border (cell_of c.args.map.now.parts.nodes c.args.grid.now.columns c.args.grid.now.rows) (neighbours c.args.map.now.parts.roads) in
    elim c.if-is_border_at.branch [
      | then-is_border_at+in_ok-push w ↦ one_taken p c.args.map.now.order c.loop-position.position c.node-id.result c.loop-position.found.items c.if-is_border_at.found.items c.node-id.ensures (sym (c.is_border_at.ensures c.node-id.result c.node-id.ensures) ∙ w.if-is_border_at.true) c.loop-position.invariant (ap (λ v. v.items) w.found-is ∙ w.in_ok-push.ensures.items)
      | else-is_border_at w ↦ ap (λ v. v.items) w.found-is ∙ one_left p c.args.map.now.order c.loop-position.position c.node-id.result c.loop-position.found.items c.node-id.ensures (sym (c.is_border_at.ensures c.node-id.result c.node-id.ensures) ∙ w.if-is_border_at.false) c.loop-position.invariant
    ]

pub returns : goal.returns
returns c =
    let p : ℕ → Bool = is_border (cell_of c.args.map.now.parts.nodes c.args.grid.now.columns c.args.grid.now.rows) (neighbours c.args.map.now.parts.roads) in
    let ends : length c.args.map.now.order ≤ c.loop-position.position = (let e : c.count-position-end.result ≡ length c.args.map.now.order = c.count-position-end.ensures in let f : c.count-position-end.result ≤ c.loop-position.position = c.loop-position-test.false in omega arith) in
    all_tested p c.args.map.now.order c.loop-position.position c.from_vec.result (c.from_vec.ensures ∙ c.loop-position.invariant) ends ∙ ap (filter p) (sym (by_id-is c.args.map.now.parts c.args.map.now.order c.parts-parts.ensures.is_map c.parts-parts.ensures.by_id))
