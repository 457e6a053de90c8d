use Rattle.std.proofs.Common.{List, All, length, get_or, arith, ap, sym, subst}
use Rattle.std.proofs.lemmas.List.{length-append}
use Rattle.std.proofs.lemmas.List.Elements.{All-push}
use Rattle.std.proofs.lemmas.Option.{slice_get-get_or}
use Rattle.road_leaf.specs.declared.pair.PairLeaf.{PairLeaf}
use Rattle.road_leaf.specs.Leaves.{pair_leaf}
use Rattle.route_server.proofs.AtPlaces.{pairs_more}
use Rattle.route_server.proofs.at_places.pairs_at.Goals as goal

pub loop-place-preserved : goal.loop-place-preserved
loop-place-preserved c =
    let at = c.requires.rising.below c.loop-place.place-index c.loop-place-test.true in
    let place = get_or c.args.places.now c.loop-place.place-index 0 in
    let count = ap (λ (ps : List PairLeaf). length ps) c.in_ok-push.ensures.items in (
      pairs_more c.args.pairs.now c.args.places.now c.loop-place.place-index _ c.loop-place.leaves.items c.push.new.list.items c.loop-place-test.true (slice_get-get_or c.args.pairs.now place _ at) c.loop-place.invariant.0 c.in_ok-push.ensures.items,
      omega (arith, count, length-append {A = PairLeaf}, c.loop-place.invariant.1),
      subst (λ (ps : List PairLeaf). All pair_leaf.Fits ps) (sym c.in_ok-push.ensures.items) (All-push pair_leaf.Fits c.loop-place.leaves.items _ c.loop-place.invariant.2 (c.pair_fits.ensures (c.requires.ids place _ at))),
    )
