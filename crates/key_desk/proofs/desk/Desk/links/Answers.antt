use Rattle.std.proofs.Common.{◌≡◌, ◌≤◌, length, arith, ap, sym, ◌∙◌, subst}
use Rattle.key_desk.proofs.LinkLemmas.{LinksUpTo, no_links, one_link_more, links_fit, all_links}
use Rattle.key_desk.proofs.desk.Desk.links.Goals as goal

pub loop-area-init : goal.loop-area-init
loop-area-init c = rw c.new-links.ensures.items (no_links c.args.self.now)

pub loop-area-preserved : goal.loop-area-preserved
loop-area-preserved c =
    rw c.in_ok-push.ensures.items
    (one_link_more c.args.self.now c.loop-area.area c.loop-area.links.items c.in_ok-link.link c.loop-area.invariant c.in_ok-link.ensures.link c.in_ok-link.ensures.good c.in_ok-link.ensures.fits)

pub returns-clause-links : goal.returns-clause-links
returns-clause-links c =
    let last : c.loop-area.area ≡ length c.args.self.now.earlier = omega (arith, ap length c.earlier.ensures.areas) in
    let all = all_links c.args.self.now c.loop-area.area c.loop-area.links.items last c.loop-area.invariant in
    all.are

pub returns-clause-chained : goal.returns-clause-chained
returns-clause-chained c = c.loop-area.invariant.chain

pub returns-clause-fits : goal.returns-clause-fits
returns-clause-fits c =
    let last : c.loop-area.area ≡ length c.args.self.now.earlier = omega (arith, ap length c.earlier.ensures.areas) in
    links_fit c.args.self.now c.loop-area.links.items (omega (arith, c.earlier.ensures.few, ap length c.earlier.ensures.areas)) (all_links c.args.self.now c.loop-area.area c.loop-area.links.items last c.loop-area.invariant)
