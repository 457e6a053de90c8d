use Rattle.std.proofs.Common.{◌+◌, ap, sym, subst, ◌∙◌, arith}
use Rattle.road_map.specs.Walks.{Knows}
use Rattle.method_books.proofs.NeedLaws.{HasFirst, never_both, one_known, one_unknown, all_known}
use Rattle.method_books.proofs.near.add_known.Goals as goal
use Rattle.method_books.proofs.near.add_known.Goals.{then-knows+in_ok-push, else-knows}

pub loop-id-preserved : goal.loop-id-preserved
loop-id-preserved c = elim c.if-knows.branch [
  | then-knows+in_ok-push w ↦
      one_known (Knows c.args.map.now.parts) c.args.ids.now.items c.args.near.now c.loop-id.id-index c.loop-id.ids.items c.if-knows.ids.items
      c.loop-id-test.true (c.knows.ensures.0 w.if-knows.true) (ap (λ v. v.items) w.ids-is ∙ w.in_ok-push.ensures.items) c.loop-id.invariant
  | else-knows w ↦
      subst (HasFirst (Knows c.args.map.now.parts) c.args.ids.now.items c.args.near.now (c.loop-id.id-index + 1)) (sym (ap (λ v. v.items) w.ids-is))
      (one_unknown (Knows c.args.map.now.parts) c.args.ids.now.items c.args.near.now c.loop-id.id-index c.loop-id.ids.items
      c.loop-id-test.true (λ k. never_both c.knows.result (c.knows.ensures.1 k) w.if-knows.false) c.loop-id.invariant)
]

pub returns : goal.returns
returns c = all_known (Knows c.args.map.now.parts) c.args.ids.now.items c.args.near.now c.loop-id.id-index c.loop-id.ids.items (omega (arith, c.loop-id-test.false)) c.loop-id.invariant
