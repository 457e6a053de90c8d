use Rattle.std.proofs.Common.{◌<◌, arith}
use Rattle.std.proofs.lemmas.List.Elements.{All-more}
use Rattle.road_leaf.specs.declared.pair.PairLeaf.{PairLeaf}
use Rattle.road_leaf.specs.Leaves.{pair_leaf}
use Rattle.proof_octets.proofs.TextRoom.{has_room, texts_more}
use Rattle.route_server.proofs.leaf_texts.pair_texts.Goals as goal

pub push-requires : goal.push-requires
push-requires c =
    has_room pair_leaf.spell c.args.leaves.now c.loop-leaf.leaf-index _ c.loop-leaf.texts c.write.result (omega (arith, c.loop-leaf-test.true)) c.requires c.loop-leaf.invariant.texts c.write.ensures

pub loop-leaf-preserved : goal.loop-leaf-preserved
loop-leaf-preserved c =
    let leaves = c.args.leaves.now in
    let i = c.loop-leaf.leaf-index in
    record {
      texts = texts_more pair_leaf.spell leaves i _ c.loop-leaf.texts c.push.new.self c.write.result c.loop-leaf-test.true c.loop-leaf.invariant.texts c.in_ok-push.ensures.ok c.write.ensures;
      fit = All-more (λ (p : PairLeaf). p.a < p.b → pair_leaf.Fits p) leaves i _ c.loop-leaf-test.true c.loop-leaf.invariant.fit c.pair_fits.ensures;
    }
