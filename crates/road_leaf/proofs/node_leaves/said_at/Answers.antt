use Rattle.std.proofs.Common.{◌≡◌, ◌<◌, ◌≤◌, Some, length, slice_get, arith, sym, ap, ◌∙◌}
use Rattle.std.proofs.lemmas.Option.{slice_get-get_or}
use Rattle.road_leaf.proofs.NoteLaws.{there_noted, none_noted}
use Rattle.road_leaf.proofs.node_leaves.said_at.Goals as goal

pub returns-in-Some : goal.returns-in-Some
returns-in-Some c =
    let lt : c.args.index < length c.args.notes.now = grind (arith, c.in-Some.ensures.lookup.0) in
    let at : slice_get c.args.notes.now c.args.index ≡ Some c.in-Some.note.now = slice_get-get_or c.args.notes.now c.args.index c.in-Some.note.now lt ∙ ap Some (sym c.in-Some.ensures.lookup.1) in
    c.said.ensures ∙ sym (there_noted c.args.codes.now c.args.notes.now c.in-Some.note.now c.args.index at)

pub returns-in-None : goal.returns-in-None
returns-in-None c =
    let past : length c.args.notes.now ≤ c.args.index = grind (arith, c.in-None.ensures.lookup.0) in
    sym (none_noted c.args.codes.now c.args.notes.now c.args.index past)
