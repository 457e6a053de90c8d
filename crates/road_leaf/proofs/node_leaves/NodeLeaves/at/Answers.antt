use Rattle.std.proofs.Common.{◌≡◌, ◌<◌, ◌+◌, ◌-◌, ℕ, List, Some, length, map, slice_get, arith, sym, ap, ◌∙◌, rules, SFits, w32}
use Rattle.std.proofs.lemmas.Int.{to_z-of_z}
use Rattle.std.proofs.lemmas.List.{length-append}
use Rattle.std.proofs.lemmas.Option.{slice_get-get_or}
use Rattle.road_leaf.specs.declared.leaf.NodeLeaf.{NodeLeaf}
use Rattle.road_leaf.specs.Held.{held, said}
use Rattle.road_leaf.proofs.HeldLaws.{held_length, head_within, held_at, front_at, behind_at}
use Rattle.road_leaf.proofs.node_leaves.NodeLeaves.at.Goals as goal

pub index-head-requires : goal.index-head-requires
index-head-requires c =
    let n = c.self.inside in
    omega (arith, n.heads.ok.0, c.len.ensures, c.if-index-len.false)

pub start_before-start-requires : goal.start_before-start-requires
start_before-start-requires c =
    let n = c.self.inside in
    omega (arith, n.heads.ok.0, c.len.ensures, c.if-index-len.false, ap length c.deref.ensures.value)

pub between-requires-clause-order : goal.between-requires-clause-order
between-requires-clause-order c =
    let n = c.self.inside in
    let lt : c.args.index < length n.heads.items = omega (arith, n.heads.ok.0, c.len.ensures, c.if-index-len.false) in
    let at : slice_get n.heads.items c.args.index ≡ Some c.index-head.result.now = slice_get-get_or n.heads.items c.args.index c.index-head.result.now lt ∙ ap Some (sym c.index-head.ensures) in
    rw (c.start_before-start.ensures, c.deref.ensures.value) (head_within 0 n.heads.items (length n.arcs.items) c.args.index c.index-head.result.now c.self.invariant.ends at).0

pub between-requires-clause-within : goal.between-requires-clause-within
between-requires-clause-within c =
    let n = c.self.inside in
    let lt : c.args.index < length n.heads.items = omega (arith, n.heads.ok.0, c.len.ensures, c.if-index-len.false) in
    let at : slice_get n.heads.items c.args.index ≡ Some c.index-head.result.now = slice_get-get_or n.heads.items c.args.index c.index-head.result.now lt ∙ ap Some (sym c.index-head.ensures) in
    rw c.deref-2.ensures.value (head_within 0 n.heads.items (length n.arcs.items) c.args.index c.index-head.result.now c.self.invariant.ends at).1

pub index-requires : goal.index-requires
index-requires c =
    let n = c.self.inside in
    let both = length-append (held n.heads.items n.arcs.items n.notes.items n.codes.items) n.further.items in
    omega (arith, n.heads.ok.0, n.further.ok.0, both, held_length 0 n.heads.items n.arcs.items (map (said n.codes.items) n.notes.items), ap length c.self.view_is, c.requires, c.len.ensures, c.len-then-index-len.ensures, c.if-index-len.true)

pub returns-then-index-len : goal.returns-then-index-len
returns-then-index-len c =
    let n = c.self.inside in
    let front : List NodeLeaf = held n.heads.items n.arcs.items n.notes.items n.codes.items in
    let i : ℕ = c.args.index - c.len-then-index-len.result in
    let long : length front ≡ length n.heads.items = held_length 0 n.heads.items n.arcs.items (map (said n.codes.items) n.notes.items) in
    let place : c.args.index ≡ length front + i = omega (arith, n.heads.ok.0, long, c.len.ensures, c.len-then-index-len.ensures, c.if-index-len.true) in
    let within : i < length n.further.items = omega (arith, place, length-append front n.further.items, ap length c.self.view_is, c.requires) in
    ap (λ ls. slice_get ls c.args.index) (sym c.self.view_is)
    ∙ (behind_at front n.further.items i c.args.index place ∙ (slice_get-get_or n.further.items i c.index.result.now within ∙ ap Some (sym c.index.ensures ∙ sym c.view.ensures)))

pub returns : goal.returns
returns c =
    let n = c.self.inside in
    let lt : c.args.index < length n.heads.items = omega (arith, n.heads.ok.0, c.len.ensures, c.if-index-len.false) in
    let within : c.args.index < length (held n.heads.items n.arcs.items n.notes.items n.codes.items) = omega (arith, lt, held_length 0 n.heads.items n.arcs.items (map (said n.codes.items) n.notes.items)) in
    let at : slice_get n.heads.items c.args.index ≡ Some c.index-head.result.now = slice_get-get_or n.heads.items c.args.index c.index-head.result.now lt ∙ ap Some (sym c.index-head.ensures) in
    let x : SFits w32 c.index-head.result.now.x = search rules in
    let y : SFits w32 c.index-head.result.now.y = search rules in
    rw (to_z-of_z w32 c.index-head.result.now.x x, to_z-of_z w32 c.index-head.result.now.y y, c.between.ensures, c.said_at.ensures, c.start_before-start.ensures, c.deref.ensures.value, c.deref-2.ensures.value, c.deref-3.ensures.value, c.deref-4.ensures.value)
    (ap (λ ls. slice_get ls c.args.index) (sym c.self.view_is)
    ∙ (front_at (held n.heads.items n.arcs.items n.notes.items n.codes.items) n.further.items c.args.index within ∙ held_at 0 n.heads.items n.arcs.items (map (said n.codes.items) n.notes.items) c.args.index c.index-head.result.now at))
