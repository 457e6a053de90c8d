use Rattle.std.proofs.Common.{◌<◌, sym, arith, length, ◌∙◌}
use Rattle.std.proofs.lemmas.List.{length-map, get_or-map}
use Rattle.proof_octets.specs.declared.marks.Mark.{Mark}
use Rattle.proof_judge.specs.ItemWalks.{item_at}
use Rattle.route_check_c.specs.Placing.{reached_node, reached_nodes}
use Rattle.route_check_c.proofs.RoomSteps.{put_next}
use Rattle.route_check_c.proofs.filling.fill_reached.Goals as goal

pub loop-place-preserved : goal.loop-place-preserved
loop-place-preserved c =
    let count_is = c.min-count.ensures in
    let below = c.loop-place-test.true in
    let known : c.loop-place.place < length c.args.marks.now = omega (arith, below, count_is) in
    let node = λ (mark : Mark). reached_node (item_at c.args.by_id.now mark.id) mark in
    put_next (reached_nodes c.args.by_id.now c.args.marks.now) c.args.room.now c.loop-place.room c.loop-place.place _
    (omega (arith, known, length-map c.args.marks.now node)) (omega (arith, below, count_is)) c.loop-place.invariant
    (c.reached_node.ensures ∙ sym (get_or-map node c.args.marks.now c.loop-place.place (record { id = 0; distance = 0 }) _ known))
