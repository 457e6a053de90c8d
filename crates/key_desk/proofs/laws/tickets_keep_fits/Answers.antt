use Rattle.desk_areas.specs.declared.area.Count.TheVariants
use Rattle.key_desk.specs.Desk.{count_at}
use Rattle.key_desk.proofs.Counts.{other_than, free_isnt_spent, free_isnt_written, out_isnt_spent}
use Rattle.key_desk.proofs.Runs.{fits_counted, known_counted}
use Rattle.key_desk.proofs.laws.tickets_keep_fits.Goals as goal

pub returns : goal.returns
returns g c old disk slot fits was early =
    let wasnt = other_than (count_at old slot) TheVariants.Free TheVariants.Spent was free_isnt_spent in
    let unwritten = other_than (count_at old slot) TheVariants.Free TheVariants.Written was free_isnt_written in (
      fits_counted g.D.Disk old disk slot TheVariants.Out early wasnt out_isnt_spent fits,
      known_counted g.D.Disk old disk slot TheVariants.Out early wasnt out_isnt_spent unwritten,
    )
