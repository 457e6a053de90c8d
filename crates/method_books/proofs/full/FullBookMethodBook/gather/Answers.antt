use Rattle.std.proofs.lemmas.Result.{err_from_is_err_and}
use Rattle.method_books.proofs.FullLaws.{found_full}
use Rattle.method_books.proofs.full.FullBookMethodBook.gather.Goals as goal

pub returns-clause-found : goal.returns-clause-found
returns-clause-found c =
    let found = c.in_ok-path in (
      found.path.length,
      found_full c.args.self.now.map.parts c.args.self.now.pairs c.args.query found.path.length (record { route = found.path.ids; nodes = c.in_ok-nodes.nodes; pairs = c.in_ok-pairs.pairs }) found.ensures.route found.ensures.distinct c.in_ok-nodes.ensures c.in_ok-pairs.ensures,
    )

pub returns-in_err-path-clause-unknown : goal.returns-in_err-path-clause-unknown
returns-in_err-path-clause-unknown c id first =
    let p = err_from_is_err_and c.from_residual.result c.from_residual.ensures.1 in
    let told = c.in_err-path.ensures.unknown id first in
    rw (p.1, p.2) (cc (told))
