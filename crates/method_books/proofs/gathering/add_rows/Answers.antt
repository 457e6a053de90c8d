use Rattle.std.proofs.Common.{take, take_all, ℕ, List, arith, subst}
use Rattle.std.proofs.lemmas.List.{take_more}
use Rattle.std.proofs.lemmas.Option.{slice_get-get_or}
use Rattle.road_map.proofs.Among.{contains_at}
use Rattle.method_books.specs.HypBooks.{IsInRow, AddsAll}
use Rattle.method_books.proofs.HypLaws.{adds_none, adds_more}
use Rattle.method_books.proofs.gathering.add_rows.Goals as goal

pub loop-border-init : goal.loop-border-init
loop-border-init c = adds_none (IsInRow c.args.pairs.now c.args.most c.args.far.now) c.args.places.now.items

pub add_row-requires-clause-near : goal.add_row-requires-clause-near
add_row-requires-clause-near c = c.requires.near _ (contains_at c.args.near.now c.loop-border.border-index _ (slice_get-get_or c.args.near.now c.loop-border.border-index (0, 0) c.loop-border-test.true))

pub loop-border-preserved : goal.loop-border-preserved
loop-border-preserved c =
    let d : ℕ × ℕ = (0, 0) in
    rw (take_more c.args.near.now c.loop-border.border-index d c.loop-border-test.true)
    (adds_more (IsInRow c.args.pairs.now c.args.most c.args.far.now) (take c.loop-border.border-index c.args.near.now) _ c.args.places.now.items c.loop-border.places.items c.add_row.new.places.items c.loop-border.invariant c.in_ok-add_row.ensures)

pub returns : goal.returns
returns c = subst (λ (xs : List (ℕ × ℕ)). AddsAll (IsInRow c.args.pairs.now c.args.most c.args.far.now) xs c.args.places.now.items c.loop-border.places.items) (take_all c.loop-border.border-index c.args.near.now (omega (arith, c.loop-border-test.false))) c.loop-border.invariant
