use Rattle.std.proofs.lemmas.Result.{err_from_is_err_and}
use Rattle.map_commands.proofs.MapLemmas.{route_refused, route_told}
use Rattle.map_commands.proofs.routing.route.Goals as goal

pub returns-in_err-line-clause-promised : goal.returns-in_err-line-clause-promised
returns-in_err-line-clause-promised g c =
    let p = err_from_is_err_and c.from_residual-in_err-line.result c.from_residual-in_err-line.ensures.1 in
    rw (p.1, p.2)
    (route_refused _ _ _ c.in_ok-map.ensures.loads.read _ _ _ _ _ _ _ _ c.in_err-line.ensures)

pub returns-clause-promised : goal.returns-clause-promised
returns-clause-promised g c =
    route_told _ _ _ c.in_ok-map.ensures.loads.read _ _ _ _ _ _ _ _ _ _ _ c.deref.ensures.value c.in_ok-line.ensures c.write_text.ensures.writes
