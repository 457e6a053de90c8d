use Rattle.std.proofs.Common.{◌≡◌, ◌∙◌, ◌+◌, ◌<◌, ◌≤◌, ℕ, take, length, map, List, [], ◌∷◌, ◌++◌, arith, ap, sym}
use Rattle.std.proofs.lemmas.Grind.{common_steps}
use Rattle.std.proofs.lemmas.List.{take_more, map-append}
use Rattle.std.proofs.lemmas.Option.{get_or_from_slice_get}
use Rattle.road_leaf.specs.declared.leaf.NodeLeaf.{NodeLeaf}
use Rattle.road_leaf.specs.Seen.{seen}
use Rattle.proof_judge.proofs.places.ids_of.Goals as goal

pub loop-index-preserved : goal.loop-index-preserved
loop-index-preserved c =
    let n : NodeLeaf = seen c.at.result in
    let within : c.loop-index.index < length c.args.nodes.now = omega arith in
    let xs : List NodeLeaf = take c.loop-index.index c.args.nodes.now in
    let more : take (c.loop-index.index + 1) c.args.nodes.now ≡ xs ++ n ∷ [] = take_more c.args.nodes.now c.loop-index.index n within ∙ ap (λ x. xs ++ x ∷ []) (get_or_from_slice_get c.args.nodes.now c.loop-index.index n n c.at.ensures) in
    c.in_ok-push.ensures.items ∙ (ap (λ is. is ++ n.id ∷ []) c.loop-index.invariant ∙ sym (ap (map (λ (m : NodeLeaf). m.id)) more ∙ map-append (λ (m : NodeLeaf). m.id) xs (n ∷ [])))

all_taken : (xs : List NodeLeaf) (i : ℕ) → length xs ≤ i → take i xs ≡ xs
all_taken xs i h = grind (arith, common_steps, h)

pub returns : goal.returns
returns c = c.loop-index.invariant ∙ ap (map (λ (m : NodeLeaf). m.id)) (all_taken c.args.nodes.now c.loop-index.index (omega arith))
