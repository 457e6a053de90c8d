use Rattle.std.proofs.Common.{refl, sym, ◌∙◌, ap}
use Rattle.std.proofs.lemmas.Result.{err_from_is_err_and}
use Rattle.proof_judge.specs.Apart.{end_lacking}
use Rattle.proof_judge.proofs.Tested.{apart_fault, apart_end}
use Rattle.proof_judge.proofs.apart.begin_apart.Goals as goal

pub returns-in_err-by_id-clause-refused : goal.returns-in_err-by_id-clause-refused
returns-in_err-by_id-clause-refused c =
    let p = err_from_is_err_and c.from_residual.result c.from_residual.ensures.1 in
    rw (p.1, p.2) (apart_fault c.args.items.now c.args.query c.args.items.now.nodes c.in_err-by_id.field-0.0 refl c.in_err-by_id.ensures.fault)

pub returns-clause-refused : goal.returns-clause-refused
returns-clause-refused c =
    apart_end c.args.items.now c.args.query c.in-Some.id c.in_ok-by_id.ensures.distinct
    (ap (λ xs. end_lacking xs c.args.query) (sym c.in_ok-by_id.ensures.nodes) ∙ (sym c.end_lacking.ensures ∙ c.in-Some.is))
