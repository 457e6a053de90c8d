use Rattle.std.proofs.Common.{inl, inr, refl, ap}
use Rattle.std.specs.declared.result.Result.TheVariants.{Err}
use Rattle.road_io.proofs.StillTold.{still_so}
use Rattle.command_desks.proofs.opening.open_desk.Goals as goal

pub returns-in-Err-NoKey-clause-refused : goal.returns-in-Err-NoKey-clause-refused
returns-in-Err-NoKey-clause-refused g c =
    let e = c.in-Err-NoKey in
    inl (refl, still_so _ _ _ (e.ensures.refused refl (λ bad. cc (bad, e.field-0-is))) (e.ensures.no_key (ap (λ x. Err x) e.field-0-is)), refl)

pub returns-in-Err-BadBlock-clause-refused : goal.returns-in-Err-BadBlock-clause-refused
returns-in-Err-BadBlock-clause-refused g c =
    let e = c.in-Err-BadBlock in
    inr (inl (refl, still_so _ _ _ (e.ensures.refused refl (λ bad. cc (bad, e.field-0-is))) (e.ensures.bad_block (ap (λ x. Err x) e.field-0-is)), refl))
