use Rattle.std.proofs.Common.{arith}
use Rattle.std.proofs.lemmas.Result.{err_from_is_err_and}
use Rattle.method_books.proofs.FullLaws.{none_far}
use Rattle.method_books.proofs.heading.plain_route.Goals as goal

pub headed-requires-clause-low : goal.headed-requires-clause-low
headed-requires-clause-low c = λ id p d at is. omega arith

pub returns-in_err-known_ends-clause-unknown : goal.returns-in_err-known_ends-clause-unknown
returns-in_err-known_ends-clause-unknown c id first =
    let p = err_from_is_err_and c.from_residual.result c.from_residual.ensures.1 in
    let told = c.in_err-known_ends.ensures.unknown id first in
    rw (p.1, p.2) (cc (told))

pub returns-in-None-clause-refused : goal.returns-in-None-clause-refused
returns-in-None-clause-refused c = (
  c.in_ok-known_ends.ensures.from,
  c.in_ok-known_ends.ensures.to,
  none_far c.args.map.now.parts (c.map_laws.ensures.distances c.args.map.now.parts c.parts-parts.ensures.is_map) c.args.query.from c.args.query.to (rw c.in-None.is at c.in_ok-found.ensures.none),
)
