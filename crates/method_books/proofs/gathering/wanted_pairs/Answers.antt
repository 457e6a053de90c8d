use Rattle.std.proofs.Common.{subst, sym, ◌∙◌}
use Rattle.std.specs.List.{Contains}
use Rattle.road_search.specs.Labelling.{length_at}
use Rattle.proof_method.specs.Gathering.{Lists}
use Rattle.method_books.specs.HypBooks.{IsWantedPlace}
use Rattle.method_books.proofs.HypFound.{with_is, added_listed, rows_of}
use Rattle.method_books.proofs.gathering.wanted_pairs.Goals as goal

pub add_rows-requires-clause-near : goal.add_rows-requires-clause-near
add_rows-requires-clause-near c = λ b h. (with_is (length_at c.args.near.now) c.args.borders.now b (subst (λ xs. Contains xs b) (c.as_slice.ensures.value ∙ c.in_ok-near.ensures) h)).0

pub add_rows-requires-clause-far : goal.add_rows-requires-clause-far
add_rows-requires-clause-far c = λ b h. (with_is (length_at c.args.far.now) c.args.borders.now b (subst (λ xs. Contains xs b) (c.as_slice-2.ensures.value ∙ c.in_ok-far.ensures) h)).0

pub returns : goal.returns
returns c =
    subst (Lists (IsWantedPlace c.args.pairs.now c.args.borders.now (length_at c.args.near.now) (length_at c.args.far.now) c.args.most)) (sym (c.from_vec.ensures ∙ c.into_vec.ensures))
    (added_listed (IsWantedPlace c.args.pairs.now c.args.borders.now (length_at c.args.near.now) (length_at c.args.far.now) c.args.most) c.new-places.result.items c.add_rows.new.places.items c.rising-places.result c.new-places.ensures.items c.rising-places.ensures
    (rows_of c.args.pairs.now c.args.borders.now (length_at c.args.near.now) (length_at c.args.far.now) c.args.most c.as_slice.result.now c.as_slice-2.result.now c.new-places.result.items c.add_rows.new.places.items (c.as_slice.ensures.value ∙ c.in_ok-near.ensures) (c.as_slice-2.ensures.value ∙ c.in_ok-far.ensures) c.in_ok-add_rows.ensures))
