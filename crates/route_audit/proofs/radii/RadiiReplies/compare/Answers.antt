use Rattle.std.proofs.Common.{arith}
use Rattle.octet_text.proofs.Fields.{whole_found}
use Rattle.proof_octets.specs.NearReplies.{near_reply}
use Rattle.proof_octets.proofs.NearFormat.{near_exact}
use Rattle.route_audit.proofs.RouteLemmas.{if_ok}
use Rattle.route_audit.proofs.RadiusLemmas.{compared, covered_as, spelled_as}
use Rattle.route_audit.proofs.radii.RadiiReplies.compare.Goals as goal

pub compare-requires-clause-spelled : goal.compare-requires-clause-spelled
compare-requires-clause-spelled g c =
    let is = spelled_as g.H.Hasher.hash c.args._public.now c.args._chain.now c.args.octets.now c.args._query 0 c.requires.accepted.0 c.args.reply.now c.requires.accepted.1 in
    (whole_found near_reply near_exact c.args.octets.now c.args.reply.now (λ i. omega (arith, c.type_inv.octets i)) is).1

pub compare-requires-clause-covered : goal.compare-requires-clause-covered
compare-requires-clause-covered g c = covered_as g.H.Hasher.hash c.args._public.now c.args._chain.now c.args.octets.now c.args._query 0 c.requires.accepted.0 c.args.reply.now c.requires.accepted.1

pub returns : goal.returns
returns g c =
    if_ok c.compare.result _ _
    (λ finding h. compared g.H.Hasher.hash c.args.held.now c.args._query c.args.reply.now finding c.requires.kept c.requires.spelled c.requires.good c.requires.same c.method_laws.ensures.authentic c.map_laws.ensures.distances h)
    c.compare.ensures
