use Rattle.std.proofs.Common.{◌≡◌, map, arith}
use Rattle.road_leaf.specs.Leaves.{node_leaf_text, pair_leaf}
use Rattle.route_client.specs.Cutting.{cuts_at, end_at, nodes_at}
use Rattle.route_client.proofs.CutLemmas.{pairs_at, nodes_shown, pairs_shown, items_end}
use Rattle.route_client.proofs.cutting.leaf_cuts.Goals as goal

pub push_nodes-requires : goal.push_nodes-requires
push_nodes-requires c = rw c.nodes_at.ensures (omega (arith, (items_end c.args.answer.now c.args.octets.now c.requires.good c.requires.spelled).nodes, c.requires.short))

pub overflow_add-end : goal.overflow_add-end
overflow_add-end c =
    let here : c.in_ok-end.end ≡ end_at 6 (nodes_at c.args.answer.now) (map node_leaf_text c.args.answer.now.items.nodes) = rw c.nodes_at.ensures at c.in_ok-end.ensures.end in
    omega (arith, here, (items_end c.args.answer.now c.args.octets.now c.requires.good c.requires.spelled).between, c.requires.short)

pub push_pairs-requires : goal.push_pairs-requires
push_pairs-requires c =
    let here : c.in_ok-end.end ≡ end_at 6 (nodes_at c.args.answer.now) (map node_leaf_text c.args.answer.now.items.nodes) = rw c.nodes_at.ensures at c.in_ok-end.ensures.end in
    rw (here, c.as_slice.ensures) (omega (arith, (items_end c.args.answer.now c.args.octets.now c.requires.good c.requires.spelled).pairs, c.requires.short))

pub returns-clause-nodes_in : goal.returns-clause-nodes_in
returns-clause-nodes_in c =
    let cuts : c.push_nodes.new.cuts.items ≡ cuts_at 6 (nodes_at c.args.answer.now) (map node_leaf_text c.args.answer.now.items.nodes) =
    rw (c.new-nodes.ensures.items, c.nodes_at.ensures) at c.in_ok-end.ensures.cuts in
    (nodes_shown c.args.answer.now c.args.octets.now c.push_nodes.new.cuts.items c.requires.good c.requires.spelled cuts).inside

pub returns-clause-nodes : goal.returns-clause-nodes
returns-clause-nodes c =
    let cuts : c.push_nodes.new.cuts.items ≡ cuts_at 6 (nodes_at c.args.answer.now) (map node_leaf_text c.args.answer.now.items.nodes) =
    rw (c.new-nodes.ensures.items, c.nodes_at.ensures) at c.in_ok-end.ensures.cuts in
    (nodes_shown c.args.answer.now c.args.octets.now c.push_nodes.new.cuts.items c.requires.good c.requires.spelled cuts).stand

pub returns-clause-pairs_in : goal.returns-clause-pairs_in
returns-clause-pairs_in c =
    let here : c.in_ok-end.end ≡ end_at 6 (nodes_at c.args.answer.now) (map node_leaf_text c.args.answer.now.items.nodes) = rw c.nodes_at.ensures at c.in_ok-end.ensures.end in
    let cuts : c.push_pairs.new.cuts.items ≡ cuts_at 4 (pairs_at c.args.answer.now) (map pair_leaf.spell c.args.answer.now.items.pairs) =
    rw (c.new-pairs.ensures.items, here, c.as_slice.ensures) at c.in_ok-push_pairs.ensures.cuts in
    (pairs_shown c.args.answer.now c.args.octets.now c.push_pairs.new.cuts.items c.requires.good c.requires.spelled cuts).inside

pub returns-clause-pairs : goal.returns-clause-pairs
returns-clause-pairs c =
    let here : c.in_ok-end.end ≡ end_at 6 (nodes_at c.args.answer.now) (map node_leaf_text c.args.answer.now.items.nodes) = rw c.nodes_at.ensures at c.in_ok-end.ensures.end in
    let cuts : c.push_pairs.new.cuts.items ≡ cuts_at 4 (pairs_at c.args.answer.now) (map pair_leaf.spell c.args.answer.now.items.pairs) =
    rw (c.new-pairs.ensures.items, here, c.as_slice.ensures) at c.in_ok-push_pairs.ensures.cuts in
    (pairs_shown c.args.answer.now c.args.octets.now c.push_pairs.new.cuts.items c.requires.good c.requires.spelled cuts).stand
