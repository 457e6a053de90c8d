use Rattle.std.proofs.Common.{◌++◌, List, ℕ, ap, ◌∙◌}
use Rattle.std.specs.List.{filter_map}
use Rattle.road_map.specs.Walks.{Knows}
use Rattle.road_search.specs.Labelling.{length_at}
use Rattle.method_books.specs.LdmBooks.{reference_in}
use Rattle.method_books.proofs.NeedLaws.{renamed, all_needed}
use Rattle.method_books.proofs.near.needed.Goals as goal

pub returns : goal.returns
returns c =
    let book = c.args.book.now in
    all_needed book.map.parts book.map.order c.parts-parts.ensures.by_id book.extras.entries c.args.route.now (length_at c.args.labels.now) c.requires
    c.in_ok-near.near.items c.add_known.new.ids.items c.in_ok-near.ensures.same
    (renamed (Knows book.map.parts) c.add_known.new.ids.items _ _ c.args.route.now c.in_ok-near.near.items (c.in_ok-ids.ensures.items ∙ c.as_slice.ensures) c.deref.ensures.value c.in_ok-add_known.ensures)
    c.in_ok-all.all.items c.rising.result
    (c.in_ok-all.ensures ∙ ap (λ (xs : List ℕ). xs ++ filter_map (reference_in book.extras.entries) xs) c.deref-2.ensures.value)
    c.rising.ensures
