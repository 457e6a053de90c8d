use Rattle.std.proofs.Common.{arith, ap, ◌∙◌}
use Rattle.std.specs.Option.{option_map}
use Rattle.road_search.specs.Nets.{named}
use Rattle.road_search.proofs.SlotLaws.{named_more}
use Rattle.road_search.proofs.naming.page_named.Goals as goal

pub loop-place-preserved : goal.loop-place-preserved
loop-place-preserved c =
    named_more (option_map (named c.args.map.now.order)) c.args.page.now.items c.loop-place.all.items c.push.new.self.items c.loop-place.place c.mark_named.result
    (omega (arith, c.loop-place-test.true, c.len-place-end.ensures)) (c.mark_named.ensures ∙ ap (option_map (named c.args.map.now.order)) c.get.ensures) c.loop-place.invariant c.in_ok-push.ensures
