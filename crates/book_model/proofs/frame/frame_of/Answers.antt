use Rattle.std.proofs.Common.{◌<◌, length, get_or, pos, ◌∙◌, ap, SFits, w32, rules, to_z}
use Rattle.std.specs.Int.{int_min, int_max}
use Rattle.std.proofs.lemmas.Int.{to_z-of_z}
use Rattle.road_map.specs.declared.parts.Node.{Node}
use Rattle.book_model.specs.Orders.{frame_of}
use Rattle.book_model.specs.Frames.{IsFrame}
use Rattle.book_model.proofs.FrameLaws.{fold_step, least_all, greatest_all, all_in_frame}
use Rattle.book_model.proofs.frame.frame_of.Goals as goal

abbrev origin : Node
origin = record { id = 0; x = pos 0; y = pos 0 }

pub loop-node-preserved : goal.loop-node-preserved
loop-node-preserved c =
    let lt : c.loop-node.node-index < length c.args.nodes.now = c.loop-node-test.true in
    let x : SFits w32 (get_or c.args.nodes.now c.loop-node.node-index origin).x = search rules in
    let y : SFits w32 (get_or c.args.nodes.now c.loop-node.node-index origin).y = search rules in
    let a : SFits w32 c.min-low_x.result = search rules in
    let b : SFits w32 c.max-high_x.result = search rules in
    let d : SFits w32 c.min-low_y.result = search rules in
    let e : SFits w32 c.max-high_y.result = search rules in
    record {
      low_x = fold_step (λ low n. int_min low n.x) _ c.args.nodes.now c.loop-node.node-index origin _ _ lt c.loop-node.invariant.low_x (to_z-of_z w32 c.min-low_x.result a ∙ (c.min-low_x.ensures.value ∙ ap (int_min (to_z w32 c.loop-node.low_x-bits)) (to_z-of_z w32 _ x)));
      high_x = fold_step (λ high n. int_max high n.x) _ c.args.nodes.now c.loop-node.node-index origin _ _ lt c.loop-node.invariant.high_x (to_z-of_z w32 c.max-high_x.result b ∙ (c.max-high_x.ensures.value ∙ ap (int_max (to_z w32 c.loop-node.high_x-bits)) (to_z-of_z w32 _ x)));
      low_y = fold_step (λ low n. int_min low n.y) _ c.args.nodes.now c.loop-node.node-index origin _ _ lt c.loop-node.invariant.low_y (to_z-of_z w32 c.min-low_y.result d ∙ (c.min-low_y.ensures.value ∙ ap (int_min (to_z w32 c.loop-node.low_y-bits)) (to_z-of_z w32 _ y)));
      high_y = fold_step (λ high n. int_max high n.y) _ c.args.nodes.now c.loop-node.node-index origin _ _ lt c.loop-node.invariant.high_y (to_z-of_z w32 c.max-high_y.result e ∙ (c.max-high_y.ensures.value ∙ ap (int_max (to_z w32 c.loop-node.high_y-bits)) (to_z-of_z w32 _ y)));
    }

pub returns : goal.returns
returns c =
    let x : SFits w32 (get_or c.args.nodes.now 0 origin).x = search rules in
    let y : SFits w32 (get_or c.args.nodes.now 0 origin).y = search rules in
    let is : IsFrame (frame_of c.args.nodes.now) (record { low_x = to_z w32 c.loop-node.low_x-bits; high_x = to_z w32 c.loop-node.high_x-bits; low_y = to_z w32 c.loop-node.low_y-bits; high_y = to_z w32 c.loop-node.high_y-bits }) = record {
      low_x = least_all (λ n. n.x) c.args.nodes.now c.loop-node.node-index origin _ _ c.requires c.loop-node-test.false (to_z-of_z w32 _ x) c.loop-node.invariant.low_x;
      high_x = greatest_all (λ n. n.x) c.args.nodes.now c.loop-node.node-index origin _ _ c.requires c.loop-node-test.false (to_z-of_z w32 _ x) c.loop-node.invariant.high_x;
      low_y = least_all (λ n. n.y) c.args.nodes.now c.loop-node.node-index origin _ _ c.requires c.loop-node-test.false (to_z-of_z w32 _ y) c.loop-node.invariant.low_y;
      high_y = greatest_all (λ n. n.y) c.args.nodes.now c.loop-node.node-index origin _ _ c.requires c.loop-node-test.false (to_z-of_z w32 _ y) c.loop-node.invariant.high_y;
    } in
    record { frame = is; all = all_in_frame c.args.nodes.now _ is }
