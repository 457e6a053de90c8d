use Rattle.std.proofs.Common.{◌<◌, ◌+◌}
use Rattle.desk_areas.specs.declared.area.Count.TheVariants
use Rattle.desk_areas.specs.Layout.{slots_of}
use Rattle.key_desk.specs.Desk.{count_at}
use Rattle.key_desk.proofs.Counts.{other_than, free_isnt_spent, out_isnt_spent, out_isnt_free, out_isnt_written, signing_early}
use Rattle.key_desk.proofs.Runs.{fits_counted, known_counted}
use Rattle.key_desk.proofs.laws.tickets_back_keep_fits.Goals as goal

pub returns : goal.returns
returns g c old disk slot fits was =
    let wasnt = other_than (count_at old slot) TheVariants.Out TheVariants.Spent was out_isnt_spent in
    let unwritten = other_than (count_at old slot) TheVariants.Out TheVariants.Written was out_isnt_written in
    let early : slot + 1 < slots_of old.key.kind = signing_early old slot fits.sound wasnt (other_than (count_at old slot) TheVariants.Out TheVariants.Free was out_isnt_free) in (
      fits_counted g.D.Disk old disk slot TheVariants.Free early wasnt free_isnt_spent fits,
      known_counted g.D.Disk old disk slot TheVariants.Free early wasnt free_isnt_spent unwritten,
    )
