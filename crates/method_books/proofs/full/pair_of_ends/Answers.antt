use Rattle.std.proofs.Common.{◌≡◌, ◌<◌, ◌^◌, ℕ, List, [], ◌∷◌, ◌++◌, sym, ◌∙◌, ap, subst, rules}
use Rattle.proof_method.specs.Gathering.{Lists, AreEnds, IsPairAt}
use Rattle.method_books.specs.PlainBooks.{plain_book}
use Rattle.method_books.proofs.FullLaws.{ends_listed, none_wanted, full_rises, place_is_small}
use Rattle.method_books.proofs.full.pair_of_ends.Goals as goal

pub returns-then-query : goal.returns-then-query
returns-then-query c =
    subst (Lists (IsPairAt (AreEnds c.args.query) (plain_book c.args.book.now.map.parts c.args.book.now.pairs))) (sym (c.from_vec.ensures ∙ c.new-places.ensures.items)) (none_wanted c.args.book.now.map.parts c.args.book.now.pairs c.args.query c.if-query.true)

pub returns : goal.returns
returns c =
    let items : c.from_vec-2.result ≡ c.place_between-place.result ∷ [] = c.from_vec-2.ensures ∙ (c.in_ok-push.ensures.items ∙ ap (λ (xs : List ℕ). xs ++ c.place_between-place.result ∷ []) c.new-places.ensures.items) in
    subst (Lists (IsPairAt (AreEnds c.args.query) (plain_book c.args.book.now.map.parts c.args.book.now.pairs))) (sym items)
    (ends_listed c.args.book.now.map.parts c.args.book.now.pairs (full_rises c.args.book.now.map.parts c.args.book.now.map.order c.parts-parts.ensures.is_map c.parts-parts.ensures.by_id c.args.book.now.pairs c.args.book.now.all) c.args.query c.if-query.false c.place_between-place.result c.place_between-place.ensures)

pub overflow_cast-place : goal.overflow_cast-place
overflow_cast-place c =
    let book = c.args.book.now in
    let at = c.place_between-place.ensures in
    let small : c.place_between-place.result < 2 ^ 32 = place_is_small book.map.parts book.map.order c.parts-parts.ensures.is_map c.parts-parts.ensures.by_id book.pairs book.all c.place_between-place.result at.0 at.1 in
    search rules
