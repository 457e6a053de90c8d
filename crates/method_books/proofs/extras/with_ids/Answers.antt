use Rattle.std.proofs.Common.{◌≡◌, ℕ, nat_eq, None, List, length, rules, get_or, sym, subst, arith}
use Rattle.std.specs.List.{IsDistinct}
use Rattle.std.specs.Map.{lookup, keys_of}
use Rattle.road_leaf.specs.declared.leaf.Extra.{Extra}
use Rattle.method_books.proofs.ExtraLaws.{Adds, adds_none, covers_none, adds_one, not_yet, few_more, keys_more, adds_more, covers_more}
use Rattle.method_books.proofs.extras.with_ids.Goals as goal

pub loop-extra-init : goal.loop-extra-init
unfolding IsDistinct
loop-extra-init c = record {
  few = omega (arith, c.requires.long);
  distinct = subst (λ (es : List (ℕ × Extra)). IsDistinct nat_eq (keys_of es)) (sym c.in_ok-entries.ensures.items) (search rules);
  adds = adds_none c.args.order.now c.args.extras.items c.in_ok-entries.entries.items c.requires.long;
  covers = covers_none c.args.order.now c.args.extras.items c.in_ok-entries.entries.items c.in_ok-entries.ensures.items c.requires.long;
}

pub loop-extra-preserved : goal.loop-extra-preserved
loop-extra-preserved c =
    let at : c.len.result ≡ length c.pop.new.self.items = search rules in
    let none : lookup (nat_eq (get_or c.args.order.now c.len.result 0)) c.loop-extra.entries.items ≡ None = not_yet c.args.order.now c.loop-extra.extras.items c.pop.new.self.items c.in-Some.extra c.loop-extra.entries.items c.len.result c.requires.distinct c.in-Some.ensures.items at c.loop-extra.invariant.covers in
    let adds : Adds c.loop-extra.entries.items c.push.new.list.items (get_or c.args.order.now c.len.result 0) c.in-Some.extra = adds_one c.loop-extra.entries.items c.push.new.list.items (get_or c.args.order.now c.len.result 0) c.in-Some.extra c.in_ok-push.ensures.items none in
    record {
      few = few_more c.loop-extra.extras.items c.pop.new.self.items c.in-Some.extra (length c.args.order.now) c.in-Some.ensures.items c.loop-extra.invariant.few;
      distinct = keys_more c.loop-extra.entries.items c.push.new.list.items (get_or c.args.order.now c.len.result 0) c.in-Some.extra c.in_ok-push.ensures.items none c.loop-extra.invariant.distinct;
      adds = adds_more c.args.order.now c.args.extras.items c.loop-extra.extras.items c.pop.new.self.items c.in-Some.extra c.loop-extra.entries.items c.push.new.list.items c.len.result c.requires.distinct c.in-Some.ensures.items c.loop-extra.invariant.few at adds c.loop-extra.invariant.adds;
      covers = covers_more c.args.order.now c.loop-extra.extras.items c.pop.new.self.items c.in-Some.extra c.loop-extra.entries.items c.push.new.list.items c.len.result c.in-Some.ensures.items c.loop-extra.invariant.few at adds c.loop-extra.invariant.covers;
    }
