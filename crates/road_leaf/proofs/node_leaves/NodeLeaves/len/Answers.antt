use Rattle.std.proofs.Common.{length, map, arith, ap}
use Rattle.std.proofs.lemmas.List.{length-append}
use Rattle.road_leaf.specs.Held.{held, said}
use Rattle.road_leaf.proofs.HeldLaws.{held_length}
use Rattle.road_leaf.proofs.node_leaves.NodeLeaves.len.Goals as goal

pub returns : goal.returns
returns c =
    let n = c.self.inside in
    let both = length-append (held n.heads.items n.arcs.items n.notes.items n.codes.items) n.further.items in
    omega (arith, c.len.ensures, c.len-2.ensures, n.heads.ok.0, n.further.ok.0, both, held_length 0 n.heads.items n.arcs.items (map (said n.codes.items) n.notes.items), ap length c.self.view_is)
