use Rattle.road_io.proofs.StillTold.{still_so}
use Rattle.owner_commands.proofs.OwnerLemmas.{desk_told}
use Rattle.owner_commands.proofs.counting.line_on.Goals as goal

pub returns-in-Ok-clause-line : goal.returns-in-Ok-clause-line
returns-in-Ok-clause-line g c =
    let o = c.in_ok-desk.ensures.opened in
    still_so _ _ _ o.content (desk_told _ c.in_ok-desk.desk _ _ o.areas o.fits.sound o.left (rw (c.public.ensures, c.left.ensures, c.size.ensures) at c.in-Ok.ensures))

pub returns-in-Ok-clause-usable : goal.returns-in-Ok-clause-usable
returns-in-Ok-clause-usable g c = let o = c.in_ok-desk.ensures.opened in still_so _ _ _ o.content o.usable
