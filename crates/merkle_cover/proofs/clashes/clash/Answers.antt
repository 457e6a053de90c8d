use Rattle.std.proofs.Common.{◌≡◌, drop, ℕ, List, ◌+◌, subst, ◌^◌, ◌≤◌, length, arith, ap, ◌∙◌, sym, refl}
use Rattle.merkle_cover.specs.Shape.{top}
use Rattle.merkle_cover.specs.Trees.{Levels, tree_of, leaf_count, digest}
use Rattle.merkle_cover.specs.Covers.{cover_of, fold_of, folded}
use Rattle.merkle_cover.specs.Clashes.{AreHashed, folded_text}
use Rattle.merkle_cover.proofs.ShapeLemmas.{top-covers}
use Rattle.merkle_cover.proofs.FoldLemmas.{IsRising-from_fault, rising-first_fault}
use Rattle.merkle_cover.proofs.TreeLemmas.{leaf_count-tree_of}
use Rattle.merkle_cover.proofs.ClashTop.{GoodFold, GoodFold-ok, CanCompare-start, SameBelow-all, IsClash-apart, AreHashed-clash, length-levels-tree_of, root-tree_of}
use Rattle.merkle_cover.proofs.clashes.clash.Given.{Over}
use Rattle.merkle_cover.proofs.clashes.clash.Goals as goal
use Rattle.merkle_cover.proofs.clashes.clash.Goals.{After-from-2, After-top_of-level}

pub are_own-requires-clause-places : goal.are_own-requires-clause-places
are_own-requires-clause-places g c =
    rising-first_fault (length c.args.leaves.now) c.args.places.now
    (GoodFold-ok g.H.Hasher.hash (length c.args.leaves.now) c.args.tree.now.fan c.args.places.now c.args.texts.now c.args.cover.now c.args.tree.now.root c.requires.folds).none

some : (g : Over) (c : After-from-2 g) → 1 ≤ length c.args.leaves.now
some g c =
    omega (arith, c.levels-levels.ensures.shaped.leaves, ap (λ (t : Levels). leaf_count t) c.requires.built, leaf_count-tree_of g.H.Hasher.hash c.args.leaves.now c.args.tree.now.fan)

good : (g : Over) (c : After-from-2 g) → GoodFold g.H.Hasher.hash (length c.args.leaves.now) c.from-2.result c.args.places.now c.args.texts.now c.args.cover.now c.args.tree.now.root
good g c =
    GoodFold-ok g.H.Hasher.hash (length c.args.leaves.now) c.from-2.result c.args.places.now c.args.texts.now c.args.cover.now c.args.tree.now.root
    (ap (λ x. fold_of g.H.Hasher.hash (length c.args.leaves.now) x c.args.places.now c.args.texts.now c.args.cover.now) (c.from-2.ensures ∙ c.fan.ensures) ∙ c.requires.folds)

level_is : (g : Over) (c : After-top_of-level g) → c.top_of-level.result.0 ≡ top (length c.args.leaves.now) c.from-2.result
level_is g c = c.top_of-level.ensures.level ∙ ap (λ x. top x c.from-2.result) (c.from.ensures ∙ c.count.ensures)

pub top_of-level-requires-clause-leaves : goal.top_of-level-requires-clause-leaves
top_of-level-requires-clause-leaves g c = omega (arith, c.from.ensures, c.count.ensures, some g c)

pub compare_place-requires-clause-compare : goal.compare_place-requires-clause-compare
compare_place-requires-clause-compare g c =
    let d = (goal.at.compare_place-requires-clause-compare g c).After-top_of-level in
    let e = (goal.at.compare_place-requires-clause-compare g c).After-from-2 in
    let fan : c.from-2.result ≡ c.args.tree.now.fan = c.from-2.ensures ∙ c.fan.ensures in
    let levels : c.levels-levels.result.now ≡ (tree_of g.H.Hasher.hash c.args.leaves.now c.from-2.result).levels =
    c.levels-levels.ensures.value ∙ ap (λ (t : Levels). t.levels) c.requires.built ∙ ap (λ x. (tree_of g.H.Hasher.hash c.args.leaves.now x).levels) (sym fan) in
    CanCompare-start g.H.Hasher.hash c.args.leaves.now c.from-2.result c.args.places.now c.args.texts.now c.args.cover.now c.levels-levels.result.now c.top_of-level.result.0 c.top_of-level.result.1 c.args.tree.now.root
    (omega (arith, fan, c.levels-levels.ensures.shaped.fan)) (omega (arith, fan, c.levels-levels.ensures.shaped.fan_max)) (some g e)
    (omega (arith, c.levels-levels.ensures.shaped.leaves_max, ap (λ (t : Levels). leaf_count t) c.requires.built, leaf_count-tree_of g.H.Hasher.hash c.args.leaves.now c.args.tree.now.fan))
    c.requires.places c.requires.texts levels (level_is g d) c.top_of-level.ensures.span c.top_of-level.ensures.few (good g e)

pub returns-in-Ok-clause-own : goal.returns-in-Ok-clause-own
returns-in-Ok-clause-own g c =
    let hash = g.H.Hasher.hash in
    let leaves = c.args.leaves.now in
    let f = c.from-2.result in
    let places = c.args.places.now in
    let d = (goal.at.returns-in-Ok-clause-own g c).After-top_of-level in
    let e = (goal.at.returns-in-Ok-clause-own g c).After-from-2 in
    let fan : f ≡ c.args.tree.now.fan = c.from-2.ensures ∙ c.fan.ensures in
    let gf = good g e in
    let level = level_is g d in
    let n = length leaves in
    let k = c.top_of-level.result.0 in
    let w = c.top_of-level.result.1 in
    let folded_is = c.in-Ok.ensures.folded in
    let tree : c.args.tree.now.root ≡ digest hash leaves f (top n f) 0 =
    ap (λ (t : Levels). t.root) c.requires.built ∙ ap (λ x. (tree_of hash leaves x).root) (sym fan) ∙ root-tree_of hash leaves f in
    let value : c.in-Ok.field-0.digest ≡ digest hash leaves f k 0 =
    folded_is.digest ∙ ap (λ x. folded hash n f places c.args.texts.now x 0 c.args.cover.now) level ∙ gf.value ∙ tree ∙ ap (λ x. digest hash leaves f x 0) (sym level) in
    let wide : n ≤ w = omega (arith, top-covers n f (omega (arith, fan, c.levels-levels.ensures.shaped.fan)), c.top_of-level.ensures.span, ap (λ x. f ^ x) level) in
    let both = SameBelow-all hash leaves f places c.args.texts.now c.args.cover.now k w c.in-Ok.field-0.item c.args.tree.now.root c.requires.texts c.requires.places (λ q l. (IsRising-from_fault n 0 0 places gf.none).below q l) level wide gf folded_is.items (c.in-Ok.ensures.same value) in
    (λ _. (both.0, both.1 ∙ ap (λ x. cover_of hash leaves x places) fan), λ _. refl)

pub returns-in_ok-right-in-Err-clause-own : goal.returns-in_ok-right-in-Err-clause-own
returns-in_ok-right-in-Err-clause-own g c =
    let hash = g.H.Hasher.hash in
    let leaves = c.args.leaves.now in
    let places = c.args.places.now in
    let fan : c.from-2.result ≡ c.args.tree.now.fan = c.from-2.ensures ∙ c.fan.ensures in
    (λ h. cc, λ both. absurd (IsClash-apart hash leaves c.from-2.result places c.args.texts.now c.args.cover.now c.levels-levels.result.now (cover_of hash leaves c.from-2.result places) _ _ _ _ _ c.in-Err.ensures.clash both.0 (both.1 ∙ ap (λ x. cover_of hash leaves x places) (sym fan))))

pub returns-in_ok-right-in-Err-clause-sides : goal.returns-in_ok-right-in-Err-clause-sides
returns-in_ok-right-in-Err-clause-sides g c =
    let hash = g.H.Hasher.hash in
    let leaves = c.args.leaves.now in
    let fan : c.from-2.result ≡ c.args.tree.now.fan = c.from-2.ensures ∙ c.fan.ensures in
    let levels : c.levels-levels.result.now ≡ (tree_of hash leaves c.args.tree.now.fan).levels = c.levels-levels.ensures.value ∙ ap (λ (t : Levels). t.levels) c.requires.built in
    let count : length c.levels-levels.result.now ≡ top (length leaves) c.from-2.result + 1 = ap (λ (l : List (List (List ℕ))). length l) levels ∙ length-levels-tree_of hash leaves c.args.tree.now.fan ∙ ap (λ x. top (length leaves) x + 1) (sym fan) in
    subst (λ x. AreHashed hash leaves x c.args.places.now c.args.texts.now c.args.cover.now c.from_vec.result c.from_vec-in-Err.result) fan
    (AreHashed-clash hash leaves c.from-2.result c.args.places.now c.args.texts.now c.args.cover.now c.levels-levels.result.now (cover_of hash leaves c.from-2.result c.args.places.now) _ _ _ _ _ c.from_vec.result c.from_vec-in-Err.result c.in-Err.ensures.clash count
    (c.from_vec.ensures ∙ c.in_ok-left-in-Err.ensures) (c.from_vec-in-Err.ensures ∙ c.in_ok-right-in-Err.ensures ∙ ap (λ n. folded_text hash n c.from-2.result c.args.places.now c.args.texts.now c.in-Err.spot.level c.in-Err.spot.place (drop c.in-Err.spot.taken c.args.cover.now)) (c.from.ensures ∙ c.count.ensures)))
