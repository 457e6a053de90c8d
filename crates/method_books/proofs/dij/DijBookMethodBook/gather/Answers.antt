use Rattle.std.proofs.lemmas.Result.{err_from_is_err_and}
use Rattle.std.proofs.Common.{◌∙◌}
use Rattle.road_map.specs.Walks.{distance}
use Rattle.method_books.proofs.WithinLaws.{found_dij}
use Rattle.method_books.proofs.dij.DijBookMethodBook.gather.Goals as goal

pub returns-clause-found : goal.returns-clause-found
returns-clause-found c =
    let found = c.in_ok-reached in (
      found.reached.length,
      found_dij c.args.self.now.map.parts c.parts-parts.ensures.is_map c.args.query found.reached.length (record { route = found.reached.route; nodes = found.reached.nodes; pairs = c.from_vec.result }) (distance c.args.self.now.map.parts c.args.query.from) found.ensures.route found.ensures.distinct (λ v e le. (λ h. h, λ h. h)) found.ensures.nodes (c.from_vec.ensures ∙ c.new.ensures.items),
    )

pub returns-in_err-reached-clause-unknown : goal.returns-in_err-reached-clause-unknown
returns-in_err-reached-clause-unknown c id first =
    let p = err_from_is_err_and c.from_residual.result c.from_residual.ensures.1 in
    let told = c.in_err-reached.ensures.unknown id first in
    rw (p.1, p.2) (cc (told))
