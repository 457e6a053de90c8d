use Rattle.std.proofs.Common.{◌≡◌, map, ap, ◌∙◌}
use Rattle.merkle_cover.specs.Cuts.{cut_from}
use Rattle.road_leaf.specs.Leaves.{node_leaf_text}
use Rattle.route_audit.proofs.NearSigned.{folds_items}
use Rattle.route_audit.proofs.near_comparing.compare.Goals as goal

pub clash_under-requires-clause-folds : goal.clash_under-requires-clause-folds
clash_under-requires-clause-folds g c =
    let texts : c.new-texts.result ≡ map node_leaf_text c.args.reply.now.nodes =
    c.new-texts.ensures ∙ ap (map (cut_from c.args.octets.now)) c.as_slice.ensures.value ∙ c.in_ok-cuts.ensures.texts in
    rw (c.as_slice-2.ensures, texts, c.as_slice-3.ensures) (folds_items g.H.Hasher.hash c.args.held.now c.args.reply.now c.requires.same c.requires.covered)
