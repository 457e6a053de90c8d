use Rattle.std.proofs.Common.{◌≡◌, ◌<◌, ◌≤◌, length, arith, ap, ◌∙◌}
use Rattle.pair_dist.proofs.finer.finer_places.Goals as goal

pub places_along-requires-clause-few : goal.places_along-requires-clause-few
places_along-requires-clause-few c =
    let long : length c.as_slice.result.now ≡ length c.args.map.now.order = ap length c.as_slice.ensures.value ∙ c.in_ok-cells.ensures in
    let all : length c.args.map.now.order ≡ length c.args.map.now.parts.nodes = c.parts-parts.ensures.all in
    let few : length c.args.map.now.parts.nodes ≤ 65536 = c.parts-parts.ensures.is_map.sized.1 in
    omega (arith, long, all, few)

pub places_along-requires-clause-within : goal.places_along-requires-clause-within
places_along-requires-clause-within c = λ i p at.
    let long : length c.as_slice.result.now ≡ length c.args.map.now.order = ap length c.as_slice.ensures.value ∙ c.in_ok-cells.ensures in
    let lt : p < length c.args.map.now.order = c.requires.within i p at in
    omega (arith, long, lt)

pub returns-clause-within : goal.returns-clause-within
returns-clause-within c = λ i p at.
    let long : length c.as_slice.result.now ≡ length c.args.map.now.order = ap length c.as_slice.ensures.value ∙ c.in_ok-cells.ensures in
    let lt : p < length c.as_slice.result.now = c.in_ok-finer.ensures.within i p at in
    omega (arith, long, lt)
