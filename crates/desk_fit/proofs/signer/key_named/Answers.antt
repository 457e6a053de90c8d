use Rattle.std.proofs.Common.{ℕ, List, arith, subst, sym}
use Rattle.lms_tree.specs.Links.{IsLink}
use Rattle.desk_areas.specs.Reading.{IsLinkTo}
use Rattle.desk_fit.proofs.SignerSteps.{text_read}
use Rattle.desk_fit.proofs.signer.key_named.Goals as goal

pub array_at-requires : goal.array_at-requires
array_at-requires c =
    let link : IsLink c.text_of.result.now = subst IsLink (sym c.text_of.ensures) c.requires.link in
    let long = link.size in
    omega (arith, long)

pub returns : goal.returns
returns c =
    let link : IsLink c.text_of.result.now = subst IsLink (sym c.text_of.ensures) c.requires.link in
    subst (λ (t : List ℕ). IsLinkTo t c.array_at.result) c.text_of.ensures (text_read c.text_of.result.now c.array_at.result link c.array_at.ensures)
