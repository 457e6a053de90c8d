use Rattle.std.proofs.Common.{◌<◌, get_or, length, arith}
use Rattle.std.proofs.lemmas.Option.{slice_get-get_or}
use Rattle.pair_dist.proofs.table.leaves_over.Goals as goal

pub add_row-requires-clause-finds : goal.add_row-requires-clause-finds
add_row-requires-clause-finds g c = λ j b p x y.
    let lt : c.loop-i.i < length c.args.chosen.now = c.loop-i-test.true in
    let within : c.loop-i.i < length c.args.stations.now = omega (arith, lt, c.requires.long) in
    c.requires.each c.loop-i.i j (get_or c.args.chosen.now c.loop-i.i 0) b (get_or c.args.stations.now c.loop-i.i 0) p _ (slice_get-get_or c.args.chosen.now c.loop-i.i 0 lt) x (slice_get-get_or c.args.stations.now c.loop-i.i 0 within) y (c.in_ok-search_in.ensures.lengths p)
