use Rattle.std.proofs.Common.{List, ap, sym, subst, ◌∙◌}
use Rattle.road_io.proofs.StillTold.{still_so}
use Rattle.lms_tree.specs.ChainFiles.{chain_file}
use Rattle.lms_tree.specs.declared.links.Link.{Link}
use Rattle.owner_commands.proofs.Answered.{if_ok}
use Rattle.owner_commands.proofs.SuccessionLemmas.{chain_told}
use Rattle.owner_commands.proofs.StandingLemmas.{chain_stands}
use Rattle.owner_commands.proofs.linking.chain_on.Goals as goal

pub returns-in-Ok-clause-chain : goal.returns-in-Ok-clause-chain
returns-in-Ok-clause-chain g c =
    let o = c.in_ok-desk.ensures.opened in
    if_ok c.verified_chain.result _ _
    (λ chain spelled. still_so _ _ _ o.content
    (chain_told _ c.in_ok-desk.desk _ _ o.areas o.fits.sound c.in-Ok.ensures.links
    (spelled ∙ ap (λ (l : List Link). chain_file.spell l) c.deref.ensures.value)))
    c.verified_chain.ensures.spelled

pub returns-in-Ok-clause-usable : goal.returns-in-Ok-clause-usable
returns-in-Ok-clause-usable g c =
    let o = c.in_ok-desk.ensures.opened in
    if_ok c.verified_chain.result _ _ (λ chain spelled. still_so _ _ _ o.content o.usable) c.verified_chain.ensures.spelled

pub returns-in-Ok-clause-stand : goal.returns-in-Ok-clause-stand
returns-in-Ok-clause-stand g c =
    if_ok c.verified_chain.result _ _
    (λ chain spelled. chain_stands g.D.Disk c.in_ok-desk.desk c.open_desk.new.disk c.in_ok-desk.ensures.opened.fits _ _ c.in-Ok.ensures.links
    (spelled ∙ ap (λ (l : List Link). chain_file.spell l) c.deref.ensures.value))
    c.verified_chain.ensures.spelled
