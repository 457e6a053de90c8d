use Rattle.std.proofs.Common.{◌≡◌, ◌-◌, ℕ, Some, length, slice_get, slice_index_or, take, drop, arith, ap, sym, ◌∙◌}
use Rattle.std.proofs.lemmas.Option.{slice_get-get_or}
use Rattle.road_map.proofs.PartedLaws.{end_within, parted_at, parted_none}
use Rattle.road_map.proofs.net.part_at.Goals as goal

pub returns-then-index-ends : goal.returns-then-index-ends
returns-then-index-ends c = sym (parted_none 0 c.args.ends.now c.args.arcs.now c.args.index (omega (arith, c.if-index-ends.true)))

pub between-requires-clause-order : goal.between-requires-clause-order
between-requires-clause-order c =
    let at : slice_get c.args.ends.now c.args.index ≡ Some (slice_index_or c.args.ends.now c.args.index 0) = slice_get-get_or c.args.ends.now c.args.index 0 (omega (arith, c.if-index-ends.false)) in
    rw c.start_at-start.ensures (end_within 0 c.args.ends.now (length c.args.arcs.now) c.args.index _ c.requires at).0

pub between-requires-clause-within : goal.between-requires-clause-within
between-requires-clause-within c =
    let at : slice_get c.args.ends.now c.args.index ≡ Some (slice_index_or c.args.ends.now c.args.index 0) = slice_get-get_or c.args.ends.now c.args.index 0 (omega (arith, c.if-index-ends.false)) in
    (end_within 0 c.args.ends.now (length c.args.arcs.now) c.args.index _ c.requires at).1

pub returns : goal.returns
returns c =
    let end = slice_index_or c.args.ends.now c.args.index 0 in
    let at : slice_get c.args.ends.now c.args.index ≡ Some end = slice_get-get_or c.args.ends.now c.args.index 0 (omega (arith, c.if-index-ends.false)) in
    ap Some (c.between.ensures ∙ ap (λ (s : ℕ). take (end - s) (drop s c.args.arcs.now)) c.start_at-start.ensures)
    ∙ sym (parted_at 0 c.args.ends.now c.args.arcs.now c.args.index end at)
