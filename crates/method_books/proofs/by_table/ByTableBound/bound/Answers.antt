use Rattle.std.proofs.Common.{◌≡◌, ◌≤◌, length, arith}
use Rattle.method_books.proofs.FullLaws.{none_from, known_at, known_told}
use Rattle.method_books.proofs.by_table.ByTableBound.bound.Goals as goal

pub said_between-requires-clause-a : goal.said_between-requires-clause-a
said_between-requires-clause-a c = let book = c.args.self.now.book.now in known_at book.map.parts book.map.order c.parts-parts.ensures.by_id c.args.position c.node.result c.node.ensures

pub said_between-requires-clause-b : goal.said_between-requires-clause-b
said_between-requires-clause-b c = known_told c.args.self.now.book.now.map.parts c.args.self.now.to c.args.self.now.known

pub returns-else-position-count : goal.returns-else-position-count
returns-else-position-count c =
    let book = c.args.self.now.book.now in
    let all : c.count.result ≡ length book.map.order = c.count.ensures in
    let past : c.count.result ≤ c.args.position = c.if-position-count.false in
    let beyond : length book.map.order ≤ c.args.position = omega (arith, all, past) in
    none_from book.map.parts c.args.self.now.to book.map.order c.args.position beyond
