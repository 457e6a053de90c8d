use Rattle.std.proofs.Common.{subst}
use Rattle.key_desk.specs.declared.desk.Desk.{Desk}
use Rattle.desk_look.specs.Looking.{FindsForgery}
use Rattle.key_desk.proofs.Steps.{fits_stays}
use Rattle.desk_look.proofs.Linked.{looked}
use Rattle.desk_look.proofs.looking.look.Goals as goal

pub returns-in-Ok-find_forgery-clause-looked : goal.returns-in-Ok-find_forgery-clause-looked
returns-in-Ok-find_forgery-clause-looked g c =
    looked g.D.Disk c.args.desk.now c.args.disk.now c.is_signed.new.disk (fits_stays g.D.Disk c.args.desk.now c.args.disk.now c.is_signed.new.disk c.requires.fits c.in-Ok.ensures.left.moments) c.args.public.now c.args.chain.now c.args.header.now c.args.signature.now c.requires.own c.requires.chain
    c.in-Ok.signed c.in-Ok-find_forgery.found c.in-Ok.ensures.says
    (subst (λ (d : Desk). FindsForgery d c.args.public.now c.args.chain.now c.args.header.now c.args.signature.now c.in-Ok.signed c.in-Ok-find_forgery.found) c.in-Ok.ensures.stays c.in-Ok-find_forgery.ensures)
