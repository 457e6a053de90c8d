use Rattle.std.proofs.Common.{◌<◌, ◌+◌, arith}
use Rattle.method_books.specs.HypBooks.{IsPairAt}
use Rattle.method_books.proofs.HypLaws.{adds_one, pair_only}
use Rattle.method_books.proofs.gathering.add_pair.Goals as goal

pub returns-in_ok-push : goal.returns-in_ok-push
returns-in_ok-push c =
    let below : c.args.near.1 + c.args.far.1 < c.args.most = omega arith in
    adds_one (IsPairAt c.args.pairs.now c.args.most c.args.near c.args.far) c.args.places.now.items c.push.new.list.items c.place_between.result
    (record { apart = c.if-near-far.true; below = below; stands = c.place_between.ensures })
    (λ n h. pair_only c.args.pairs.now c.requires.rise c.args.most c.args.near c.args.far c.place_between.result n c.place_between.ensures h)
    c.in_ok-push.ensures.items
