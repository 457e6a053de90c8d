use Rattle.std.proofs.Common.{◌≡◌, ◌<◌, ◌^◌, below_more, get_or, sym, arith, subst}
use Rattle.std.proofs.lemmas.Option.{get_or_from_slice_get}
use Rattle.road_leaf.specs.declared.leaf.NodeLeaf.{NodeLeaf}
use Rattle.road_leaf.specs.Seen.{seen}
use Rattle.proof_judge.proofs.LengthLaws.{all_placed}
use Rattle.proof_judge.proofs.lengths.ids_fit.Goals as goal

pub loop-index-preserved : goal.loop-index-preserved
loop-index-preserved c = λ k d lt.
    let same : get_or c.args.nodes.now c.loop-index.index d ≡ seen c.at.result = get_or_from_slice_get c.args.nodes.now c.loop-index.index (seen c.at.result) d c.at.ensures in
    below_more (λ q. (get_or c.args.nodes.now q d).id < 2 ^ 32) c.loop-index.index (λ q m. c.loop-index.invariant q d m) (subst (λ (n : NodeLeaf). n.id < 2 ^ 32) (sym same) c.id_fits.ensures) k lt

pub returns : goal.returns
returns c = λ n at. all_placed (λ (n : NodeLeaf). n.id < 2 ^ 32) c.args.nodes.now c.loop-index.index (omega (arith, c.loop-index-test.false, c.len-index-end.ensures)) c.loop-index.invariant n at
