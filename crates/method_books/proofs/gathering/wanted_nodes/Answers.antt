use Rattle.std.proofs.Common.{◌≡◌, ℕ, ◌++◌, IsTrue, List, ◌∙◌, ap}
use Rattle.road_search.specs.Labelling.{length_at}
use Rattle.road_search.specs.Nearness.{is_within}
use Rattle.method_books.proofs.WithinLaws.{lists_same, any_of_three}
use Rattle.method_books.proofs.gathering.wanted_nodes.Goals as goal

pub returns : goal.returns
returns c =
    let near : ℕ → Type 0 = λ id. IsTrue (is_within c.args.most (length_at c.args.near.now id)) in
    let far : ℕ → Type 0 = λ id. IsTrue (is_within c.args.most (length_at c.args.far.now id)) in
    let first : c.extend.new.list.items ≡ c.args.route.now ++ c.in_ok-close.close.items = c.in_ok-extend.ensures.items ∙ (ap (λ (xs : List ℕ). xs ++ c.as_slice-2.result.now) (c.in_ok-ids.ensures.items ∙ c.as_slice.ensures) ∙ ap (λ (ys : List ℕ). c.args.route.now ++ ys) c.as_slice-2.ensures.value) in
    let all : c.extend-2.new.list.items ≡ (c.args.route.now ++ c.in_ok-close.close.items) ++ c.in_ok-distant.distant.items = c.in_ok-extend-2.ensures.items ∙ (ap (λ (xs : List ℕ). xs ++ c.as_slice-3.result.now) first ∙ ap (λ (ys : List ℕ). (c.args.route.now ++ c.in_ok-close.close.items) ++ ys) c.as_slice-3.ensures.value) in
    lists_same c.rising.result (any_of_three c.args.route.now c.in_ok-close.close.items c.in_ok-distant.distant.items c.extend-2.new.list.items near far all c.in_ok-close.ensures.same c.in_ok-distant.ensures.same) c.rising.ensures
