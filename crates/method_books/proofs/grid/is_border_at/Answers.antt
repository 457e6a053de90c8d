use Rattle.std.proofs.Common.{subst, get_or}
use Rattle.std.specs.List.{Contains}
use Rattle.std.proofs.lemmas.Option.{slice_get-get_or}
use Rattle.road_map.specs.declared.arc.Arc.{Arc}
use Rattle.road_map.proofs.Among.{contains_at}
use Rattle.road_map.proofs.NetLaws.{arc_known}
use Rattle.method_books.proofs.grid.is_border_at.Goals as goal

pub is_elsewhere-requires-clause-known : goal.is_elsewhere-requires-clause-known
is_elsewhere-requires-clause-known c =
    let d : Arc = record { to = 0; length = 0 } in
    let a : Arc = get_or c.arcs-arc-items.result.now c.loop-arc.arc-index d in
    arc_known c.args.map.now.parts c.parts-parts.ensures.is_map c.node-node.result.id a (subst (λ xs. Contains xs a) (c.arcs-arc-items.ensures c.node-node.result c.node-node.ensures) (contains_at c.arcs-arc-items.result.now c.loop-arc.arc-index a (slice_get-get_or c.arcs-arc-items.result.now c.loop-arc.arc-index d c.loop-arc-test.true)))
