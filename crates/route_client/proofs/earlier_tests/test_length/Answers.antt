use Rattle.std.proofs.Common.{◌≡◌, Option, Ok, subst}
use Rattle.std.specs.Prelude.{IfSome}
use Rattle.octet_text.specs.declared.errors.ReadError.{ReadError}
use Rattle.octet_text.specs.Format.{Fails, whole}
use Rattle.proof_octets.specs.declared.outline.Outline.{Outline}
use Rattle.proof_octets.specs.Good.{IsGoodHeader}
use Rattle.proof_octets.specs.Outlines.{outlined}
use Rattle.proof_octets.specs.Replies.{reply}
use Rattle.route_client.proofs.CrowdLaws.{if_crowded, on_err, outlined_answers, malformed_refused, malformed_answers}
use Rattle.route_client.proofs.earlier_tests.test_length.Goals as goal

pub returns-in-Ok-Some-clause-refused : goal.returns-in-Ok-Some-clause-refused
returns-in-Ok-Some-clause-refused g c =
    let read = subst (λ (o : Option Outline). outlined (whole reply c.args.octets.now) ≡ Ok o) c.in-Ok-Some.field-0-is c.in-Ok-Some.ensures.reads in
    let good = subst (λ (o : Option Outline). IfSome o (λ (x : Outline). IsGoodHeader x.header)) c.in-Ok-Some.field-0-is c.in-Ok-Some.ensures.good in
    if_crowded g.H.Hasher.hash c.args.public.now c.args.chain.now c.args.octets.now c.args.least c.in-Ok-Some.outline c.test_outline.result read good c.test_outline.ensures

pub returns-in-Ok-Some-clause-answered : goal.returns-in-Ok-Some-clause-answered
returns-in-Ok-Some-clause-answered g c =
    let read = subst (λ (o : Option Outline). outlined (whole reply c.args.octets.now) ≡ Ok o) c.in-Ok-Some.field-0-is c.in-Ok-Some.ensures.reads in
    on_err c.test_outline.result _ (λ kind. outlined_answers c.args.octets.now c.in-Ok-Some.outline kind read)

pub returns-in-Err-Malformed-clause-refused : goal.returns-in-Err-Malformed-clause-refused
returns-in-Err-Malformed-clause-refused g c =
    let read = subst (λ (e : ReadError). Fails e (outlined (whole reply c.args.octets.now))) c.in-Err-Malformed.field-0-is c.in-Err-Malformed.ensures.reads in
    malformed_refused g.H.Hasher.hash c.args.public.now c.args.chain.now c.args.octets.now c.args.least c.in-Err-Malformed.malformed.at read

pub returns-in-Err-Malformed-clause-answered : goal.returns-in-Err-Malformed-clause-answered
returns-in-Err-Malformed-clause-answered g c kind =
    let read = subst (λ (e : ReadError). Fails e (outlined (whole reply c.args.octets.now))) c.in-Err-Malformed.field-0-is c.in-Err-Malformed.ensures.reads in
    malformed_answers c.args.octets.now c.in-Err-Malformed.malformed.at kind read
