use Rattle.std.proofs.Common.{arith, subst, ◌≡◌, Ok}
use Rattle.proof_octets.specs.declared.reply.Answer as answers
use Rattle.route_client.specs.Verdicts.{nodes_covered, pairs_covered}
use Rattle.route_audit.proofs.RouteLemmas.{compared, if_ok, spelled_as, text_of}
use Rattle.route_audit.proofs.routes.RoutesReplies.compare.Goals as goal

pub compare-requires-clause-spelled : goal.compare-requires-clause-spelled
compare-requires-clause-spelled g c =
    let is = spelled_as g.H.Hasher.hash c.args._public.now c.args._chain.now c.args.octets.now c.args._query 0 c.requires.accepted.0 c.args.answer.now c.requires.accepted.1 in
    text_of c.args.octets.now c.args.answer.now (λ i. omega (arith, c.type_inv.octets i)) is

pub compare-requires-clause-nodes : goal.compare-requires-clause-nodes
compare-requires-clause-nodes g c = subst (λ (a : answers.Answer). nodes_covered g.H.Hasher.hash a ≡ Ok tt) c.requires.accepted.1.is c.requires.accepted.1.accepts.nodes

pub compare-requires-clause-pairs : goal.compare-requires-clause-pairs
compare-requires-clause-pairs g c = subst (λ (a : answers.Answer). pairs_covered g.H.Hasher.hash a ≡ Ok tt) c.requires.accepted.1.is c.requires.accepted.1.accepts.pairs

pub returns : goal.returns
returns g c =
    if_ok c.compare.result _ _
    (λ finding h. compared g.H.Hasher.hash c.args.held.now c.args._query c.args.answer.now finding c.requires.kept c.requires.spelled c.requires.good c.requires.same c.method_laws.ensures.authentic (record { sound = c.method_laws.ensures.sound; sound_apart = c.method_laws.ensures.sound_apart }) h)
    c.compare.ensures
