use Rattle.audit_commands.proofs.NearestHeadline.{nearest}
use Rattle.audit_commands.proofs.picking.nearest_headline.Goals as goal

pub returns : goal.returns
returns g c content disk key publication reply q chain files old new outcome audits =
    nearest g.D.Disk content disk key publication reply q chain files old new outcome c.nearest_laws.ensures.truth audits
