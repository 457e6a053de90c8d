use Rattle.std.proofs.Common.{◌<◌, get_or, arith}
use Rattle.std.proofs.lemmas.Option.{slice_get-get_or}
use Rattle.pair_dist.proofs.LinkLaws.{wall_more, wall_long}
use Rattle.pair_dist.proofs.chain.walls_at.Goals as goal

pub loop-place-preserved : goal.loop-place-preserved
loop-place-preserved c =
    let p = get_or c.args.places.now c.loop-place.place-index 0 in
    let at = slice_get-get_or c.args.places.now c.loop-place.place-index 0 c.loop-place-test.true in
    let lt : p < c.args.count = c.requires c.loop-place.place-index p at in
    record {
      long = wall_long c.loop-place.walls.items p c.args.count c.loop-place.invariant.long;
      walls = wall_more c.args.places.now c.loop-place.walls.items c.loop-place.place-index p at (omega (arith, lt, c.loop-place.invariant.long)) c.loop-place.invariant.walls;
    }
