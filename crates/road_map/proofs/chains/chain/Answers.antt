use Rattle.std.proofs.Common.{◌≡◌, ◌<◌, Some, length, set, get_or, slice_get, arith, refl}
use Rattle.std.proofs.lemmas.List.{length-set}
use Rattle.std.proofs.lemmas.Option.{slice_get-get_or, slice_get_read}
use Rattle.road_map.specs.declared.parts.Road.{Road}
use Rattle.road_map.proofs.ChainLaws.{chain_step, both_set}
use Rattle.road_map.proofs.chains.chain.Goals as goal

pub returns-clause-chained : goal.returns-clause-chained
returns-clause-chained c =
    let road : Road = get_or c.args.roads.now c.args.index (record { a = 0; b = 0; length = 0 }) in
    let first = c.args.first.now.items in
    let at : slice_get c.args.roads.now c.args.index ≡ Some road = slice_get-get_or c.args.roads.now c.args.index (record { a = 0; b = 0; length = 0 }) c.requires.within in
    let below = c.requires.ends c.args.index road at in
    let lt : c.args.index < length c.args.next.now.items = (let long : length c.args.next.now.items ≡ length c.args.roads.now = c.requires.chained.long in omega (arith, c.requires.within)) in
    chain_step c.args.roads.now c.args.index road first c.args.next.now.items c.index-a.result.now c.index-b.result.now at
    (slice_get_read first _ road.a _ refl below.0 c.index-a.ensures) (slice_get_read first _ road.b _ refl below.1 c.index-b.ensures) c.requires.chained
    (length-set c.args.next.now.items c.args.index _) lt (set (set first road.a c.args.index) road.b c.args.index)
    (λ u. both_set first road.a road.b c.args.index u below.0 (let long : length (set first road.a c.args.index) ≡ length first = length-set first road.a c.args.index in omega (arith, below.1)))
