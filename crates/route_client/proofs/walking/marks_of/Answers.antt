use Rattle.std.proofs.Common.{◌≡◌, ℕ, Option, None, Some, IsSome, sym, subst, get_or, take, ◌∙◌, arith, rules}
use Rattle.std.proofs.lemmas.List.{take_more}
use Rattle.road_search.specs.Labelling.{length_at}
use Rattle.route_client.specs.Reached.{AreMarked}
use Rattle.route_client.proofs.MarkSteps.{none_marked, one_marked}
use Rattle.route_client.proofs.walking.marks_of.Goals as goal

pub loop-id-init : goal.loop-id-init
loop-id-init c = subst (AreMarked c.args.labels.now (take 0 c.args.ids.now)) (sym c.in_ok-marks.ensures.items) (none_marked c.args.labels.now c.args.ids.now)

pub loop-id-preserved : goal.loop-id-preserved
loop-id-preserved c =
    one_marked c.args.labels.now c.args.ids.now c.loop-id.id-index c.loop-id.marks.items c.push.new.list.items (record { id = get_or c.args.ids.now c.loop-id.id-index 0; distance = c.in-Some.distance }) c.in_ok-push-in-Some.ensures.items
    (take_more c.args.ids.now c.loop-id.id-index 0 (omega (arith, c.loop-id-test.true))) (sym c.get.ensures ∙ c.in-Some.is) c.loop-id.invariant

not_both : (o : Option ℕ) → o ≡ None → IsSome o → ⊥
not_both None is some = search rules
not_both (Some x) is some = absurd cc

pub unreachable-requires : goal.unreachable-requires
unreachable-requires c =
    not_both (length_at c.args.labels.now (get_or c.args.ids.now c.loop-id.id-index 0)) (sym c.get.ensures ∙ c.in-None.is) (c.requires c.loop-id.id-index 0 c.loop-id-test.true)
