use Rattle.std.proofs.Common.{rules, ℕ, ap, is_some, ◌∙◌}
use Rattle.std.proofs.lemmas.List.Sorted.{IsNonDecreasingBy-from_sort_by_key}
use Rattle.road_leaf.specs.declared.leaf.Extra.{Extra}
use Rattle.method_books.proofs.ExtraLaws.{keys_moved, found_moved, adds_moved}
use Rattle.method_books.proofs.extras.sorted.Goals as goal

pub returns-clause-distinct : goal.returns-clause-distinct
returns-clause-distinct c = keys_moved c.in_ok-entries.entries.items _ c.sort_unstable_by_key.ensures.permutation c.in_ok-entries.ensures.distinct

pub returns-clause-sorted : goal.returns-clause-sorted
returns-clause-sorted c = IsNonDecreasingBy-from_sort_by_key (λ (e : ℕ × Extra). e.0) _ c.sort_unstable_by_key.ensures.sorted (λ a r q k. search rules)

pub returns-clause-adds : goal.returns-clause-adds
returns-clause-adds c = adds_moved c.args.order.now c.in_ok-entries.entries.items _ c.args.extras.items c.sort_unstable_by_key.ensures.permutation c.in_ok-entries.ensures.distinct c.in_ok-entries.ensures.adds

pub returns-clause-covers : goal.returns-clause-covers
returns-clause-covers c = λ id. ap is_some (found_moved c.in_ok-entries.entries.items _ c.sort_unstable_by_key.ensures.permutation c.in_ok-entries.ensures.distinct id) ∙ c.in_ok-entries.ensures.covers id
