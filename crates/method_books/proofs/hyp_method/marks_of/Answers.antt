use Rattle.std.proofs.Common.{◌≡◌, ◌≤◌, ℕ, Bool, arith, length}
use Rattle.book_model.specs.Orders.{neighbours}
use Rattle.book_model.specs.Cells.{cell_of, is_border}
use Rattle.method_books.proofs.MarkedNodes.{one_marked, all_marked}
use Rattle.method_books.proofs.hyp_method.marks_of.Goals as goal

pub loop-position-preserved : goal.loop-position-preserved
loop-position-preserved c =
    let p : ℕ → Bool = is_border (cell_of c.args.map.now.parts.nodes c.args.grid.now.columns c.args.grid.now.rows) (neighbours c.args.map.now.parts.roads) in
    one_marked p c.args.map.now.order c.loop-position.position c.node-id.result c.is_border_at.result c.loop-position.marks.items c.push.new.list.items c.node-id.ensures (c.is_border_at.ensures c.node-id.result c.node-id.ensures) c.loop-position.invariant c.in_ok-push.ensures.items

pub returns : goal.returns
returns c =
    let p : ℕ → Bool = is_border (cell_of c.args.map.now.parts.nodes c.args.grid.now.columns c.args.grid.now.rows) (neighbours c.args.map.now.parts.roads) in
    let ends : length c.args.map.now.order ≤ c.loop-position.position = (let e : c.count-position-end.result ≡ length c.args.map.now.order = c.count-position-end.ensures in let f : c.count-position-end.result ≤ c.loop-position.position = c.loop-position-test.false in omega arith) in
    all_marked p c.args.map.now.order c.loop-position.position c.loop-position.marks.items c.loop-position.invariant ends
