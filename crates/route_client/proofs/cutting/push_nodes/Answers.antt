use Rattle.std.proofs.Common.{◌≡◌, ◌<◌, ◌≤◌, length, get_or, arith, sym}
use Rattle.std.proofs.lemmas.Option.{get_or_from_slice_get}
use Rattle.road_leaf.specs.declared.leaf.NodeLeaf.{NodeLeaf}
use Rattle.road_leaf.specs.Leaves.{node_leaf_text}
use Rattle.road_leaf.specs.Seen.{seen}
use Rattle.route_client.proofs.CutLemmas.{next_within, next_cut, all_cut}
use Rattle.route_client.proofs.cutting.push_nodes.Goals as goal

pub overflow_add-next : goal.overflow_add-next
overflow_add-next c =
    let n : NodeLeaf = seen c.at-leaf.result in
    let within : c.loop-index.index < length c.args.leaves.now = omega (arith, c.loop-index-test.true, c.len-index-end.ensures) in
    let same : n ≡ get_or c.args.leaves.now c.loop-index.index n = sym (get_or_from_slice_get c.args.leaves.now c.loop-index.index n n c.at-leaf.ensures) in
    omega (arith, next_within node_leaf_text 6 _ _ _ _ _ _ n n within same c.loop-index.invariant, c.requires)

pub text_length-requires : goal.text_length-requires
text_length-requires c =
    let n : NodeLeaf = seen c.at-leaf.result in
    let within : c.loop-index.index < length c.args.leaves.now = omega (arith, c.loop-index-test.true, c.len-index-end.ensures) in
    let same : n ≡ get_or c.args.leaves.now c.loop-index.index n = sym (get_or_from_slice_get c.args.leaves.now c.loop-index.index n n c.at-leaf.ensures) in
    omega (arith, next_within node_leaf_text 6 _ _ _ _ _ _ n n within same c.loop-index.invariant, c.requires)

pub push_cut-requires : goal.push_cut-requires
push_cut-requires c =
    let n : NodeLeaf = seen c.at-leaf.result in
    let within : c.loop-index.index < length c.args.leaves.now = omega (arith, c.loop-index-test.true, c.len-index-end.ensures) in
    let same : n ≡ get_or c.args.leaves.now c.loop-index.index n = sym (get_or_from_slice_get c.args.leaves.now c.loop-index.index n n c.at-leaf.ensures) in
    omega (arith, next_within node_leaf_text 6 _ _ _ _ _ _ n n within same c.loop-index.invariant, c.text_length.ensures, c.requires)

pub loop-index-preserved : goal.loop-index-preserved
loop-index-preserved c =
    let n : NodeLeaf = seen c.at-leaf.result in
    let within : c.loop-index.index < length c.args.leaves.now = omega (arith, c.loop-index-test.true, c.len-index-end.ensures) in
    let same : n ≡ get_or c.args.leaves.now c.loop-index.index n = sym (get_or_from_slice_get c.args.leaves.now c.loop-index.index n n c.at-leaf.ensures) in
    next_cut node_leaf_text 6 _ _ _ c.push_cut.new.cuts.items _ _ _ n n c.text_length.result c.in_ok-next.next within same c.text_length.ensures c.in_ok-next.ensures.end
    c.in_ok-next.ensures.cut c.loop-index.invariant

pub returns-clause-cuts : goal.returns-clause-cuts
returns-clause-cuts c =
    let past : length c.args.leaves.now ≤ c.loop-index.index = omega (arith, c.loop-index-test.false, c.len-index-end.ensures) in
    (all_cut node_leaf_text 6 _ _ _ _ _ _ past c.loop-index.invariant).all

pub returns-clause-end : goal.returns-clause-end
returns-clause-end c =
    let past : length c.args.leaves.now ≤ c.loop-index.index = omega (arith, c.loop-index-test.false, c.len-index-end.ensures) in
    (all_cut node_leaf_text 6 _ _ _ _ _ _ past c.loop-index.invariant).ends
