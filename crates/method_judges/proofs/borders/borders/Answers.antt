use Rattle.std.proofs.Common.{◌≡◌, ◌+◌, ◌<◌, length, take, List, [], ◌∷◌, ◌++◌, arith, ap, ◌∙◌}
use Rattle.std.specs.Ordering.{nat_cmp}
use Rattle.std.specs.BTreeMap.{get}
use Rattle.std.proofs.lemmas.List.{take_more}
use Rattle.std.proofs.lemmas.Option.{get_or_from_slice_get}
use Rattle.road_search.specs.Labelling.{length_at}
use Rattle.road_leaf.specs.declared.leaf.NodeLeaf.{NodeLeaf}
use Rattle.road_leaf.specs.Seen.{seen}
use Rattle.method_judges.specs.Scans.{border_length}
use Rattle.method_judges.proofs.BorderLaws.{border_turn}
use Rattle.method_judges.proofs.borders.borders.Goals as goal

pub loop-index-preserved : goal.loop-index-preserved
loop-index-preserved c =
    let n : NodeLeaf = seen c.at-id.result in
    let within : c.loop-index.index < length c.args.nodes.now = omega arith in
    let xs : List NodeLeaf = take c.loop-index.index c.args.nodes.now in
    let more : take (c.loop-index.index + 1) c.args.nodes.now ≡ xs ++ n ∷ [] = take_more c.args.nodes.now c.loop-index.index n within ∙ ap (λ x. xs ++ x ∷ []) (get_or_from_slice_get c.args.nodes.now c.loop-index.index n n c.at-id.ensures) in
    let here : c.inner_length-length.result ≡ border_length c.args.nodes.now (length_at c.args.labels.now) n.id = c.inner_length-length.ensures ∙ ap (λ s. border_length s (length_at c.args.labels.now) n.id) c.requires in
    rw more (border_turn c.args.nodes.now xs n (length_at c.args.labels.now) (get nat_cmp c.loop-index.near) (get nat_cmp c.note.new.near) c.loop-index.invariant (rw (← here) c.in_ok-note.ensures))
