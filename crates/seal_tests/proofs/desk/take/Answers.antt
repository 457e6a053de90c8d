use Rattle.std.proofs.Common.{sym, subst}
use Rattle.desk_areas.specs.declared.area.Count.TheVariants
use Rattle.key_desk.specs.declared.desk.Desk.{Desk}
use Rattle.key_desk.specs.Desk.{Fits}
use Rattle.key_desk.proofs.Counts.{other_than, free_isnt_spent, out_isnt_spent}
use Rattle.key_desk.proofs.Runs.{fits_counted}
use Rattle.seal_tests.proofs.desk.take.Goals as goal

pub returns-clause-fits : goal.returns-clause-fits
returns-clause-fits g c =
    subst (λ (v : Desk). Fits g.D.Disk v c.args.disk.now) (sym c.in-Ok.ensures.out.1)
    (fits_counted _ c.args.desk.now c.args.disk.now c.in-Ok.ticket TheVariants.Out c.in-Ok.ensures.early
    (other_than _ TheVariants.Free TheVariants.Spent c.in-Ok.ensures.out.0 free_isnt_spent) out_isnt_spent c.requires.fits)
