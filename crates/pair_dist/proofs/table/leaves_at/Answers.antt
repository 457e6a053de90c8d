use Rattle.std.proofs.Common.{IfSome, subst}
use Rattle.pair_dist.specs.Chains.{Keeps}
use Rattle.pair_dist.proofs.PlaceLaws.{place_within}
use Rattle.pair_dist.proofs.MeasureLaws.{by_places, by_chain}
use Rattle.pair_dist.proofs.table.leaves_at.Goals as goal

pub chain_at-requires-clause-within : goal.chain_at-requires-clause-within
chain_at-requires-clause-within c = λ i p at. place_within c.args.map.now.order c.args.chosen.now c.args.places.now i p c.requires.places at

pub leaves_over-requires : goal.leaves_over-requires
leaves_over-requires c =
    let parts = c.args.map.now.parts in
    by_places parts c.args.map.now.order c.net-net.result.now c.args.chosen.now c.args.places.now c.parts-parts.ensures.is_map c.parts-parts.ensures.by_id c.net-net.ensures (c.map_laws.ensures.distances parts c.parts-parts.ensures.is_map) c.requires.places

pub leaves_over-requires-in-Some : goal.leaves_over-requires-in-Some
leaves_over-requires-in-Some c =
    let parts = c.args.map.now.parts in
    rw c.as_slice.ensures.value
    (by_chain parts c.args.map.now.order c.net-net.result.now c.args.chosen.now c.args.places.now c.parts-parts.ensures.is_map c.parts-parts.ensures.by_id c.net-net.ensures (c.map_laws.ensures.distances parts c.parts-parts.ensures.is_map) c.requires.places
    c.in-Some.chain c.in_ok-stations-in-Some.stations.items
    (subst (λ o. IfSome o (Keeps c.net-net.result.now c.args.places.now)) c.in-Some.is c.in_ok-chain_at.ensures)
    c.in_ok-stations-in-Some.ensures.long c.in_ok-stations-in-Some.ensures.each)
