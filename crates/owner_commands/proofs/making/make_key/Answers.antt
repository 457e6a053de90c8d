use Rattle.std.proofs.Common.{refl, ap}
use Rattle.std.specs.declared.result.Result.TheVariants.{Err}
use Rattle.road_io.proofs.StillTold.{still_so}
use Rattle.owner_commands.proofs.NameLemmas.{names_on}
use Rattle.owner_commands.proofs.making.make_key.Goals as goal

pub returns-in-Ok-clause-names : goal.returns-in-Ok-clause-names
returns-in-Ok-clause-names g c = names_on g.D.Disk c.in-Ok.desk c.create.new.disk c.in-Ok.ensures.fits

pub returns-in-Err-Held-clause-refused : goal.returns-in-Err-Held-clause-refused
returns-in-Err-Held-clause-refused g c =
    let e = c.in-Err-Held in
    (still_so _ _ _ (e.ensures.refused refl (λ bad. cc (bad, e.field-0-is))) (e.ensures.held (ap (λ x. Err x) e.field-0-is)), refl)
