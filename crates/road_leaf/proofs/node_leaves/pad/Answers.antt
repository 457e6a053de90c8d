use Rattle.std.proofs.Common.{[], ◌∷◌, ◌++◌, map, arith, ap, ◌∙◌}
use Rattle.std.proofs.lemmas.List.Elements.{All-push, All-same}
use Rattle.road_leaf.specs.declared.node_leaves.Note.TheVariants as notes
use Rattle.road_leaf.specs.Held.{extra_at, said, IsWithin}
use Rattle.road_leaf.proofs.NoteLaws.{plain_noted}
use Rattle.road_leaf.proofs.node_leaves.pad.Goals as goal

pub loop-preserved : goal.loop-preserved
loop-preserved c = record {
  same = λ codes i. ap (λ ns. extra_at (map (said codes) ns) i) c.in_ok-push.ensures.items ∙ (plain_noted codes c.loop.notes.items i ∙ c.loop.invariant.same codes i);
  within = λ long h. All-same (IsWithin long) _ (c.loop.notes.items ++ notes.Plain ∷ []) c.in_ok-push.ensures.items (All-push (IsWithin long) c.loop.notes.items notes.Plain (c.loop.invariant.within long h) tt);
  count = omega (arith, c.in_ok-push.ensures.len, c.loop.invariant.count);
}

pub returns-in_err-push-clause-same : goal.returns-in_err-push-clause-same
returns-in_err-push-clause-same c = λ codes i. ap (λ ns. extra_at (map (said codes) ns) i) c.in_err-push.ensures.items ∙ c.loop.invariant.same codes i

pub returns-in_err-push-clause-within : goal.returns-in_err-push-clause-within
returns-in_err-push-clause-within c = λ long h. All-same (IsWithin long) _ c.loop.notes.items c.in_err-push.ensures.items (c.loop.invariant.within long h)
