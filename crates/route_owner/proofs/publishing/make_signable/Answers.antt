use Rattle.route_owner.proofs.Sealing.{signable}
use Rattle.route_owner.proofs.publishing.make_signable.Goals as goal

pub returns-clause-signable : goal.returns-clause-signable
returns-clause-signable g c =
    let headed = c.in_ok-headed.ensures in
    signable _ _ _ _ _ headed.parts headed.has headed.good
    c.settings_have_widths.ensures.numbers c.settings_have_widths.ensures.version c.parts_have_widths.ensures.nodes c.parts_have_widths.ensures.roads
