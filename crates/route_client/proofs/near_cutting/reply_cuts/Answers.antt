use Rattle.std.proofs.Common.{◌≡◌, map, arith}
use Rattle.road_leaf.specs.Leaves.{node_leaf_text}
use Rattle.route_client.specs.Cutting.{cuts_at}
use Rattle.route_client.proofs.NearCuts.{items_at, reply_cut, reply_shown}
use Rattle.route_client.proofs.near_cutting.reply_cuts.Goals as goal

pub push_nodes-requires : goal.push_nodes-requires
push_nodes-requires c = rw c.as_slice.ensures (omega (arith, (reply_cut c.args.reply.now c.args.octets.now c.requires.good c.requires.spelled).last, c.requires.short))

pub returns-clause-in_octets : goal.returns-clause-in_octets
returns-clause-in_octets c =
    let cuts : c.push_nodes.new.cuts.items ≡ cuts_at 6 (items_at c.args.reply.now) (map node_leaf_text c.args.reply.now.nodes) = rw (c.new-cuts.ensures.items, c.as_slice.ensures) at c.in_ok-push_nodes.ensures.cuts in
    (reply_shown c.args.reply.now c.args.octets.now c.push_nodes.new.cuts.items c.requires.good c.requires.spelled cuts).inside

pub returns-clause-texts : goal.returns-clause-texts
returns-clause-texts c =
    let cuts : c.push_nodes.new.cuts.items ≡ cuts_at 6 (items_at c.args.reply.now) (map node_leaf_text c.args.reply.now.nodes) = rw (c.new-cuts.ensures.items, c.as_slice.ensures) at c.in_ok-push_nodes.ensures.cuts in
    (reply_shown c.args.reply.now c.args.octets.now c.push_nodes.new.cuts.items c.requires.good c.requires.spelled cuts).stand
