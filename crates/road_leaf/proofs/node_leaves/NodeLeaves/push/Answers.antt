use Rattle.std.proofs.Common.{◌≡◌, [], length, arith}
use Rattle.std.proofs.lemmas.List.{nil_from_length}
use Rattle.road_leaf.specs.Held.{held}
use Rattle.road_leaf.proofs.HeldLaws.{front_ok, front_err, behind_ok, behind_err}
use Rattle.road_leaf.proofs.node_leaves.NodeLeaves.push.Goals as goal

pub returns-then-is_short-clause-ok : goal.returns-then-is_short-clause-ok
returns-then-is_short-clause-ok c =
    let n = c.self.inside in
    let count : length n.further.items ≡ 0 = grind (arith, c.is_empty.ensures, c.if-is_empty.true, n.further.ok.0) in
    let none : n.further.items ≡ [] = nil_from_length n.further.items count in
    front_ok c.hold.result (held n.heads.items n.arcs.items n.notes.items n.codes.items) (held c.hold.new.heads.items c.hold.new.arcs.items c.hold.new.notes.items c.hold.new.codes.items) n.further.items c.args.self.now c.args.leaf none c.self.view_is c.hold.ensures.ok

pub returns-then-is_short-clause-err : goal.returns-then-is_short-clause-err
returns-then-is_short-clause-err c =
    let n = c.self.inside in
    front_err c.hold.result (held n.heads.items n.arcs.items n.notes.items n.codes.items) (held c.hold.new.heads.items c.hold.new.arcs.items c.hold.new.notes.items c.hold.new.codes.items) n.further.items c.args.self.now c.self.view_is c.hold.ensures.err

pub returns-else-is_empty-clause-ok : goal.returns-else-is_empty-clause-ok
returns-else-is_empty-clause-ok c =
    let n = c.self.inside in
    behind_ok c.push.result (held n.heads.items n.arcs.items n.notes.items n.codes.items) n.further.items c.push.new.list.items c.args.self.now c.args.leaf c.self.view_is c.push.ensures.items

pub returns-else-is_empty-clause-err : goal.returns-else-is_empty-clause-err
returns-else-is_empty-clause-err c =
    let n = c.self.inside in
    behind_err c.push.result (held n.heads.items n.arcs.items n.notes.items n.codes.items) n.further.items c.push.new.list.items c.args.self.now c.args.leaf c.self.view_is c.push.ensures.items
