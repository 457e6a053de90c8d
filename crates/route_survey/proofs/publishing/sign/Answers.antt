use Rattle.std.proofs.Common.{◌≤◌, ◌∙◌, length, arith}
use Rattle.route_survey.proofs.PublishLaws.{surveyed_so}
use Rattle.route_survey.proofs.publishing.sign.Goals as goal

pub returns-clause-signed : goal.returns-clause-signed
returns-clause-signed c =
    let short : length c.sign_into.new.out ≤ 1452 = omega (arith, c.sign_into.auto.out) in
    surveyed_so c.range_laws.ensures.publication _ _ _ _ _ c.sign_into.new.out c.write.result _ c.in_ok-header.ensures.signable c.requires (c.from_vec.ensures ∙ c.in_ok-signature.ensures.items)
    c.sign_into.ensures.signature c.sign_into.ensures.verified c.write.ensures short
