use Rattle.std.proofs.Common.{◌<◌, ℕ, sym, arith, length, ◌∙◌}
use Rattle.std.proofs.lemmas.List.{length-map, get_or-map}
use Rattle.proof_judge.specs.ItemWalks.{item_at}
use Rattle.route_check_c.specs.Placing.{route_node, route_nodes}
use Rattle.route_check_c.proofs.RoomSteps.{put_next}
use Rattle.route_check_c.proofs.filling.fill_route.Goals as goal

pub loop-place-preserved : goal.loop-place-preserved
loop-place-preserved c =
    let count_is = c.min-count.ensures in
    let below = c.loop-place-test.true in
    let known : c.loop-place.place < length c.args.ids.now = omega (arith, below, count_is) in
    let node = λ (id : ℕ). route_node (item_at c.args.by_id.now id) in
    put_next (route_nodes c.args.by_id.now c.args.ids.now) c.args.room.now c.loop-place.room c.loop-place.place _
    (omega (arith, known, length-map c.args.ids.now node)) (omega (arith, below, count_is)) c.loop-place.invariant
    (c.route_node.ensures ∙ sym (get_or-map node c.args.ids.now c.loop-place.place 0 _ known))
