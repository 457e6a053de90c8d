use Rattle.std.proofs.Common.{◌≡◌, ◌+◌, ◌<◌, ◌≤◌, Some, length, get_or, slice_get, arith, refl, ◌∙◌}
use Rattle.std.proofs.lemmas.Option.{slice_get-get_or, slice_get_read}
use Rattle.road_map.specs.declared.parts.Road.{Road}
use Rattle.road_map.specs.Chains.{LeadsOn}
use Rattle.road_map.proofs.ChainLaws.{walk_start, walk_step, walk_end, walk_rises, goes_on}
use Rattle.road_map.proofs.chains.gather.Goals as goal

pub loop-index-init : goal.loop-index-init
loop-index-init c =
    let head : LeadsOn c.args.roads.now c.args.position 0 c.index.result.now = c.requires.chained.heads c.args.position c.index.result.now (slice_get_read c.args.chains.now.first.items _ c.args.position _ refl c.requires.within c.index.ensures) in
    record { row = c.clear.ensures.items ∙ walk_start c.args.roads.now c.args.position c.index.result.now head; within = head.within; ends = head.ends }

pub add_arc-requires-clause-rise : goal.add_arc-requires-clause-rise
add_arc-requires-clause-rise c = walk_rises c.args.roads.now c.args.position c.loop-index.index c.loop-index.row.items c.loop-index.invariant.row

pub add_arc-requires-clause-ends : goal.add_arc-requires-clause-ends
add_arc-requires-clause-ends c = c.loop-index.invariant.ends _ (slice_get-get_or c.args.roads.now c.loop-index.index _ c.loop-index-test.true)

pub loop-index-smaller : goal.loop-index-smaller
loop-index-smaller c =
    let road : Road = get_or c.args.roads.now c.loop-index.index (record { a = 0; b = 0; length = 0 }) in
    let at : slice_get c.args.roads.now c.loop-index.index ≡ Some road = slice_get-get_or c.args.roads.now c.loop-index.index _ c.loop-index-test.true in
    let lt : c.loop-index.index < length c.args.chains.now.next.items = (let long : length c.args.chains.now.next.items ≡ length c.args.roads.now = c.requires.chained.long in omega (arith, c.loop-index-test.true)) in
    let on : LeadsOn c.args.roads.now c.args.position (c.loop-index.index + 1) c.in_ok-next.next = goes_on c.args.roads.now c.args.chains.now.first.items c.args.chains.now.next.items c.args.position c.loop-index.index c.in_ok-next.next road
    c.index-in-loop-index.result.now c.requires.chained at (slice_get_read c.args.chains.now.next.items _ c.loop-index.index _ refl lt c.index-in-loop-index.ensures) (c.loop-index.invariant.ends road at) c.in_ok-next.ensures.next in
    let more : c.loop-index.index + 1 ≤ c.in_ok-next.next = on.order in
    let test : c.loop-index.index < length c.args.roads.now = c.loop-index-test.true in
    omega arith

pub loop-index-preserved : goal.loop-index-preserved
loop-index-preserved c =
    let road : Road = get_or c.args.roads.now c.loop-index.index (record { a = 0; b = 0; length = 0 }) in
    let at : slice_get c.args.roads.now c.loop-index.index ≡ Some road = slice_get-get_or c.args.roads.now c.loop-index.index _ c.loop-index-test.true in
    let lt : c.loop-index.index < length c.args.chains.now.next.items = (let long : length c.args.chains.now.next.items ≡ length c.args.roads.now = c.requires.chained.long in omega (arith, c.loop-index-test.true)) in
    let on : LeadsOn c.args.roads.now c.args.position (c.loop-index.index + 1) c.in_ok-next.next = goes_on c.args.roads.now c.args.chains.now.first.items c.args.chains.now.next.items c.args.position c.loop-index.index c.in_ok-next.next road
    c.index-in-loop-index.result.now c.requires.chained at (slice_get_read c.args.chains.now.next.items _ c.loop-index.index _ refl lt c.index-in-loop-index.ensures) (c.loop-index.invariant.ends road at) c.in_ok-next.ensures.next in
    record {
      row = walk_step c.args.roads.now c.args.position c.loop-index.index c.in_ok-next.next road c.loop-index.row.items c.add_arc.new.row.items at on c.loop-index.invariant.row c.in_ok-next.ensures.row;
      within = on.within;
      ends = on.ends;
    }

pub returns : goal.returns
returns c = walk_end c.args.roads.now c.args.position c.loop-index.index c.loop-index.row.items (omega (arith, c.loop-index-test.false)) c.loop-index.invariant.row
