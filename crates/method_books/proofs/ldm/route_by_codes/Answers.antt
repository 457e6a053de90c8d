use Rattle.std.proofs.lemmas.Result.{err_from_is_err_and}
use Rattle.method_books.proofs.ldm.route_by_codes.Goals as goal

pub returns-in_err-known_ends-clause-unknown : goal.returns-in_err-known_ends-clause-unknown
returns-in_err-known_ends-clause-unknown c id first =
    let p = err_from_is_err_and c.from_residual.result c.from_residual.ensures.1 in
    let told = c.in_err-known_ends.ensures.unknown id first in
    rw (p.1, p.2) (cc (told))
