use Rattle.route_service.proofs.Pieces.{AppendsFront_next}
use Rattle.route_service.proofs.writing.write_both.Goals as goal

pub returns-in-Err-write_all-clause-err : goal.returns-in-Err-write_all-clause-err
returns-in-Err-write_all-clause-err g c = AppendsFront_next _ _ _ _ _ c.in-Ok.ensures.ok c.in-Err-write_all.ensures.err
