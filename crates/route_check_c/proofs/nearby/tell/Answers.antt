use Rattle.std.proofs.Common.{List, ◌∙◌, ap}
use Rattle.road_leaf.specs.declared.leaf.NodeLeaf.{NodeLeaf}
use Rattle.proof_octets.specs.declared.marks.Mark.{Mark}
use Rattle.route_check_c.specs.Listing.{Listed}
use Rattle.route_check_c.specs.Placing.{reached_nodes}
use Rattle.route_check_c.specs.Telling.{filled}
use Rattle.route_check_c.proofs.nearby.tell.Goals as goal

pub returns-in-Ok-pick : goal.returns-in-Ok-pick
returns-in-Ok-pick c =
    Listed c.in-Ok-pick.picked c.in-Ok-pick.ensures.picked c.in-Ok-pick.ensures.leaves c.accepted_listed.ensures
    (c.fill_reached.ensures ∙ (ap (λ (leaves : List NodeLeaf). filled (reached_nodes leaves c.as_slice.result.now) c.args.nodes.now) c.in-Ok.ensures ∙ ap (λ (marks : List Mark). filled (reached_nodes c.args.checked.now.reply.nodes marks) c.args.nodes.now) c.as_slice.ensures))
