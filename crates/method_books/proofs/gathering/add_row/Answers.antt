use Rattle.std.proofs.Common.{take, take_all, ℕ, List, arith, subst}
use Rattle.std.proofs.lemmas.List.{take_more}
use Rattle.std.proofs.lemmas.Option.{slice_get-get_or}
use Rattle.road_map.proofs.Among.{contains_at}
use Rattle.method_books.specs.HypBooks.{IsPairAt, AddsAll}
use Rattle.method_books.proofs.HypLaws.{adds_none, adds_more}
use Rattle.method_books.proofs.gathering.add_row.Goals as goal

pub loop-border-init : goal.loop-border-init
loop-border-init c = adds_none (IsPairAt c.args.pairs.now c.args.most c.args.near) c.args.places.now.items

pub add_pair-requires-clause-far : goal.add_pair-requires-clause-far
add_pair-requires-clause-far c = c.requires.far _ (contains_at c.args.far.now c.loop-border.border-index _ (slice_get-get_or c.args.far.now c.loop-border.border-index (0, 0) c.loop-border-test.true))

pub loop-border-preserved : goal.loop-border-preserved
loop-border-preserved c =
    let d : ℕ × ℕ = (0, 0) in
    rw (take_more c.args.far.now c.loop-border.border-index d c.loop-border-test.true)
    (adds_more (IsPairAt c.args.pairs.now c.args.most c.args.near) (take c.loop-border.border-index c.args.far.now) _ c.args.places.now.items c.loop-border.places.items c.add_pair.new.places.items c.loop-border.invariant c.in_ok-add_pair.ensures)

pub returns : goal.returns
returns c = subst (λ (xs : List (ℕ × ℕ)). AddsAll (IsPairAt c.args.pairs.now c.args.most c.args.near) xs c.args.places.now.items c.loop-border.places.items) (take_all c.loop-border.border-index c.args.far.now (omega (arith, c.loop-border-test.false))) c.loop-border.invariant
