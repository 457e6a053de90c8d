use Rattle.std.proofs.Common.{◌≡◌, [], Ok, Err, refl, sym, ◌∙◌}
use Rattle.sha2.specs.Sha256.{sha256}
use Rattle.lms_tree.specs.Signatures.{public_key}
use Rattle.route_server.specs.Keeping.{publication_in}
use Rattle.near_proof.specs.Honest.{AreAccepted}
use Rattle.near_proof.proofs.Honest.{leads_itself}
use Rattle.route_survey.specs.Surveys.{survey_key}
use Rattle.route_survey.proofs.AnswerLaws.{refused_as, accepted_as, same_accepted, length_is, never_apart, known_of}
use Rattle.route_survey.proofs.asking.ask.Goals as goal

pub memory_of-requires : goal.memory_of-requires
memory_of-requires c =
    let a : AreAccepted sha256 (public_key survey_key) [] c.in_ok-reply.reply.items c.args.query 1 c.args.held.now.map.parts =
    c.honest_laws.ensures.accepted sha256 sha256 (public_key survey_key) (public_key survey_key) [] c.in_ok-reply.reply.items (publication_in sha256 c.args.held.now) c.args.query 1 c.requires.askable.signed (leads_itself (public_key survey_key)) c.requires.askable.version (known_of c.args.held.now.map.parts c.args.query c.requires.joined) c.in_ok-reply.ensures.honest in
    refused_as c.in-Err.error a.accepted (accepted_as _ c.args.public.now _ c.deref.result.now c.args.query _ (Err c.in-Err.error) c.requires.public c.deref.ensures.value a c.in-Err.ensures.accepts)

pub unreachable-requires : goal.unreachable-requires
unreachable-requires c =
    let a : AreAccepted sha256 (public_key survey_key) [] c.in_ok-reply.reply.items c.args.query 1 c.args.held.now.map.parts =
    c.honest_laws.ensures.accepted sha256 sha256 (public_key survey_key) (public_key survey_key) [] c.in_ok-reply.reply.items (publication_in sha256 c.args.held.now) c.args.query 1 c.requires.askable.signed (leads_itself (public_key survey_key)) c.requires.askable.version (known_of c.args.held.now.map.parts c.args.query c.requires.joined) c.in_ok-reply.ensures.honest in
    let same : c.in-Ok-Apart.field-0 ≡ a.accepted = same_accepted c.in-Ok-Apart.field-0 a.accepted (Ok c.in-Ok-Apart.field-0) refl (accepted_as _ c.args.public.now _ c.deref.result.now c.args.query _ (Ok c.in-Ok-Apart.field-0) c.requires.public c.deref.ensures.value a c.in-Ok-Apart.ensures.accepts) in
    never_apart c.args.held.now.map.parts c.args.query a.accepted _ _ c.requires.joined a.holds (sym same ∙ c.in-Ok-Apart.field-0-is)

pub returns-in-Ok-Route-clause-answered : goal.returns-in-Ok-Route-clause-answered
returns-in-Ok-Route-clause-answered c = record {
  honest = c.in_ok-reply.ensures.honest;
  accepted = c.honest_laws.ensures.accepted sha256 sha256 (public_key survey_key) (public_key survey_key) [] c.in_ok-reply.reply.items (publication_in sha256 c.args.held.now) c.args.query 1 c.requires.askable.signed (leads_itself (public_key survey_key)) c.requires.askable.version (known_of c.args.held.now.map.parts c.args.query c.requires.joined) c.in_ok-reply.ensures.honest;
}

pub returns-in-Ok-Route-clause-length : goal.returns-in-Ok-Route-clause-length
returns-in-Ok-Route-clause-length c =
    let a : AreAccepted sha256 (public_key survey_key) [] c.in_ok-reply.reply.items c.args.query 1 c.args.held.now.map.parts =
    c.honest_laws.ensures.accepted sha256 sha256 (public_key survey_key) (public_key survey_key) [] c.in_ok-reply.reply.items (publication_in sha256 c.args.held.now) c.args.query 1 c.requires.askable.signed (leads_itself (public_key survey_key)) c.requires.askable.version (known_of c.args.held.now.map.parts c.args.query c.requires.joined) c.in_ok-reply.ensures.honest in
    let same : c.in-Ok-Route.field-0 ≡ a.accepted = same_accepted c.in-Ok-Route.field-0 a.accepted (Ok c.in-Ok-Route.field-0) refl (accepted_as _ c.args.public.now _ c.deref.result.now c.args.query _ (Ok c.in-Ok-Route.field-0) c.requires.public c.deref.ensures.value a c.in-Ok-Route.ensures.accepts) in
    length_is c.args.held.now.map.parts (c.map_laws.ensures.distances c.args.held.now.map.parts c.requires.askable.signed.header.is_map) c.args.query a.accepted a.holds c.in-Ok-Route.accepted (sym same ∙ c.in-Ok-Route.field-0-is)

pub returns-in-Ok-Route-clause-bound : goal.returns-in-Ok-Route-clause-bound
returns-in-Ok-Route-clause-bound c =
    (c.map_laws.ensures.distances c.args.held.now.map.parts c.requires.askable.signed.header.is_map).bound c.args.query.from c.args.query.to c.in-Ok-Route.accepted.length (returns-in-Ok-Route-clause-length c)
