use Rattle.std.proofs.Common.{refl}
use Rattle.std.proofs.lemmas.Result.{err_from_is_err_and}
use Rattle.proof_judge.proofs.Tested.{refused_fault, refused_later}
use Rattle.proof_judge.proofs.route.begin.Goals as goal

pub returns-in_err-by_id-clause-refused : goal.returns-in_err-by_id-clause-refused
returns-in_err-by_id-clause-refused c =
    let p = err_from_is_err_and c.from_residual.result c.from_residual.ensures.1 in
    rw (p.1, p.2) (refused_fault c.args.items.now c.args.query c.args.items.now.nodes c.in_err-by_id.field-0.0 refl c.in_err-by_id.ensures.fault)

pub returns-in_err-length-clause-refused : goal.returns-in_err-length-clause-refused
returns-in_err-length-clause-refused c =
    let p = err_from_is_err_and c.from_residual-in_err-length.result c.from_residual-in_err-length.ensures.1 in
    rw (p.1, p.2) (refused_later c.args.items.now c.args.query c.in_ok-by_id.by_id c.args.items.now.nodes c.as_slice.result.now c.in_err-length.field-0.0 refl c.in_ok-by_id.ensures.nodes c.as_slice.ensures c.in_ok-by_id.ensures.distinct c.in_err-length.ensures.value)
