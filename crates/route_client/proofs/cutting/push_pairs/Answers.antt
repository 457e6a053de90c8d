use Rattle.std.proofs.Common.{get_or, refl, sym, arith}
use Rattle.road_leaf.specs.declared.pair.PairLeaf.{PairLeaf}
use Rattle.road_leaf.specs.Leaves.{pair_leaf}
use Rattle.route_client.proofs.CutLemmas.{next_within, next_cut, pair_long}
use Rattle.route_client.proofs.cutting.push_pairs.Goals as goal

-- any leaf
none : PairLeaf
none = record { a = 0; b = 0; distance = 0 }

pub overflow_add-next : goal.overflow_add-next
overflow_add-next c =
    let leaf = get_or c.args.leaves.now c.loop.counter none in
    omega (arith, next_within pair_leaf.spell 4 _ _ _ _ _ _ leaf none c.loop-test.true refl c.loop.invariant, c.requires)

pub push_cut-requires : goal.push_cut-requires
push_cut-requires c =
    let leaf = get_or c.args.leaves.now c.loop.counter none in
    omega (arith, next_within pair_leaf.spell 4 _ _ _ _ _ _ leaf none c.loop-test.true refl c.loop.invariant, pair_long leaf, c.requires)

pub loop-preserved : goal.loop-preserved
loop-preserved c =
    let leaf = get_or c.args.leaves.now c.loop.counter none in
    next_cut pair_leaf.spell 4 _ _ _ c.push_cut.new.cuts.items _ _ _ leaf none 17 c.in_ok-next.next c.loop-test.true refl (sym (pair_long leaf)) c.in_ok-next.ensures.end c.in_ok-next.ensures.cut c.loop.invariant
