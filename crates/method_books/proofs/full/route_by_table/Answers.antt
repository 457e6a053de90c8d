use Rattle.std.proofs.Common.{sym, ◌∙◌}
use Rattle.std.proofs.lemmas.Result.{err_from_is_err_and}
use Rattle.method_books.proofs.FullLaws.{low_said, none_said}
use Rattle.method_books.proofs.full.route_by_table.Goals as goal

pub returns-in_err-known_ends-clause-unknown : goal.returns-in_err-known_ends-clause-unknown
returns-in_err-known_ends-clause-unknown c id first =
    let p = err_from_is_err_and c.from_residual.result c.from_residual.ensures.1 in
    let told = c.in_err-known_ends.ensures.unknown id first in
    rw (p.1, p.2) (cc (told))

pub returns-then-said_between-clause-refused : goal.returns-then-said_between-clause-refused
returns-then-said_between-clause-refused c =
    let parts = c.args.book.now.map.parts in (
      c.in_ok-known_ends.ensures.from,
      c.in_ok-known_ends.ensures.to,
      none_said parts c.parts-parts.ensures.is_map (c.map_laws.ensures.distances parts c.parts-parts.ensures.is_map) c.args.query.from c.args.query.to (sym c.said_between.ensures ∙ c.if-said_between.true),
    )

pub route_headed-requires-clause-low : goal.route_headed-requires-clause-low
route_headed-requires-clause-low c = low_said c.args.book.now.map.parts c.args.book.now.map.order c.args.query.to c.parts-parts.ensures.is_map
