use Rattle.std.proofs.Common.{◌≡◌, List, ap, ◌∙◌, subst}
use Rattle.std.specs.List.{All}
use Rattle.road_map.specs.declared.parts.Parts.{Parts}
use Rattle.road_map.specs.declared.parts.Node.{Node}
use Rattle.book_model.specs.Frames.{InFrame}
use Rattle.pair_dist.proofs.FinerLaws.{in_frame}
use Rattle.pair_dist.proofs.finer.cells_of.Goals as goal

pub cell_of-requires-clause-inside : goal.cell_of-requires-clause-inside
cell_of-requires-clause-inside c =
    let parts = c.args.map.now.parts in
    let nodes : c.as_slice.result.now ≡ parts.nodes = c.as_slice.ensures ∙ ap (λ (p : Parts). p.nodes) c.parts-parts.ensures.parts in
    in_frame parts c.args.map.now.order c.frame_of-frame.result c.parts-parts.ensures.by_id (subst (λ (xs : List Node). All (InFrame c.frame_of-frame.result) xs) nodes c.frame_of-frame.ensures.all) c.loop-position.position c.node-node.result c.node-node.ensures
