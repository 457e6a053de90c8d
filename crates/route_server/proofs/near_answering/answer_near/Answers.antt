use Rattle.std.proofs.Common.{List, length, rules, arith, ap, sym, subst, ℕ}
use Rattle.road_map.specs.Walks.{Knows}
use Rattle.proof_octets.specs.PlacedNear.{near_with, HasNearLeaves}
use Rattle.route_server.proofs.NearBrought.{honest, over_short}
use Rattle.route_server.proofs.near_answering.answer_near.Goals as goal

pub write-requires : goal.write-requires
write-requires g c =
    let is = c.in_ok-reply.ensures in
    (is.leaves, subst (λ (ts : List (List ℕ)). HasNearLeaves c.in_ok-reply.reply ts is.leaves) (sym c.node_texts.ensures) is.told)

pub returns-clause-honest : goal.returns-clause-honest
returns-clause-honest g c =
    let known : Knows c.args.held.now.map.parts c.args.query.from = search rules in
    let is = c.in_ok-reply.ensures in
    let told = subst (λ (ts : List (List ℕ)). HasNearLeaves c.in_ok-reply.reply ts is.leaves) (sym c.node_texts.ensures) is.told in
    honest g.H.Hasher.hash c.args.held.now c.args.query (near_with c.in_ok-reply.reply is.leaves) c.in_ok-octets.octets.items known is.over is.told.fits (c.in_ok-octets.ensures is.leaves told)

pub returns-clause-short : goal.returns-clause-short
returns-clause-short g c =
    let is = c.in_ok-reply.ensures in
    let told = subst (λ (ts : List (List ℕ)). HasNearLeaves c.in_ok-reply.reply ts is.leaves) (sym c.node_texts.ensures) is.told in
    omega (arith, over_short g.H.Hasher.hash c.args.held.now c.args.query (near_with c.in_ok-reply.reply is.leaves) is.over is.told.fits, ap (λ (xs : List ℕ). length xs) (c.in_ok-octets.ensures is.leaves told))
