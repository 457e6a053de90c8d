use Rattle.std.proofs.Common.{◌≡◌, ℕ, ◌<◌, ◌≤◌, List, ◌++◌, length, arith, ap, ◌∙◌, sym, subst}
use Rattle.std.proofs.lemmas.Bool.Decides.{nat_tests}
use Rattle.merkle_cover.specs.Trees.{tree_of, leaf_count, Levels}
use Rattle.merkle_cover.specs.Covers.{cover_below, cover_of, IsRising}
use Rattle.merkle_cover.specs.Folding.{digest_in}
use Rattle.merkle_cover.proofs.FoldLemmas.{CanWalk-start, first_fault-rising}
use Rattle.merkle_cover.proofs.TreeLemmas.{cover_of-walk, fold_of-tree, leaf_count-tree_of}
use Rattle.merkle_cover.proofs.trees.Tree.cover.Given.{Over}
use Rattle.merkle_cover.proofs.trees.Tree.cover.Goals as goal
use Rattle.merkle_cover.proofs.trees.Tree.cover.Goals.{After-top_of-level, In_ok-cover_place}

-- the leaf count
count_is : (g : Over) (c : After-top_of-level g) → c.from.result ≡ leaf_count c.args.self.now
count_is g c = c.from.ensures ∙ c.leaves.ensures

fan_is : (g : Over) (c : After-top_of-level g) → c.from-2.result ≡ c.args.self.now.fan
fan_is g c = c.from-2.ensures ∙ ap (λ (t : Levels). t.fan) c.self.view_is

some : (g : Over) (c : After-top_of-level g) → 1 ≤ c.from.result
some g c = omega (arith, c.self.invariant.leaves, count_is g c, ap (λ (t : Levels). leaf_count t) c.self.view_is)

pub cover_place-requires-clause-walk : goal.cover_place-requires-clause-walk
cover_place-requires-clause-walk g c =
    let d = (goal.at.cover_place-requires-clause-walk g c).After-top_of-level in
    let rises : IsRising c.from.result c.args.places.now = subst (λ n. IsRising n c.args.places.now) (sym (count_is g d)) c.requires in
    CanWalk-start c.from.result c.from-2.result c.args.places.now c.top_of-level.result.0 c.top_of-level.result.1 (omega (arith, c.from-2.ensures, c.self.invariant.fan)) (omega (arith, c.from-2.ensures, c.self.invariant.fan_max)) (some g d) (omega (arith, count_is g d, c.self.invariant.leaves_max, ap (λ (t : Levels). leaf_count t) c.self.view_is)) rises c.top_of-level.ensures.span c.top_of-level.ensures.few

-- the cover is that of the tree's texts
cover_is : (g : Over) (c : In_ok-cover_place g) (texts : List (List ℕ)) → c.args.self.now ≡ tree_of g.H.Hasher.hash texts c.args.self.now.fan → 0 < length c.args.places.now → c.cover_place.new.out.items ≡ cover_of g.H.Hasher.hash texts c.args.self.now.fan c.args.places.now
cover_is g c texts e l =
    let d = (goal.at.returns-clause-cover g c).After-top_of-level in
    let n = c.from.result in
    let f = c.from-2.result in
    let places = c.args.places.now in
    let levels : c.deref.result.now ≡ c.args.self.now.levels = c.deref.ensures.value ∙ ap (λ (t : Levels). t.levels) c.self.view_is in
    c.in_ok-cover_place.ensures.out
    ∙ ap (λ (l : List (List ℕ)). l ++ cover_below (digest_in c.deref.result.now) n f places c.top_of-level.result.0 0) c.new-out.ensures.items
    ∙ ap (λ (ls : List (List (List ℕ))). cover_below (digest_in ls) n f places c.top_of-level.result.0 0) levels
    ∙ cover_of-walk g.H.Hasher.hash texts c.args.self.now n f c.top_of-level.result.0 places e (count_is g d) (fan_is g d) c.top_of-level.ensures.level (omega (arith, c.from-2.ensures, c.self.invariant.fan)) (some g d) l

pub returns-clause-cover : goal.returns-clause-cover
returns-clause-cover g c = λ texts e. cover_is g c texts e (let l : 0 < length c.args.places.now = grind (arith, nat_tests) in l)

pub returns-clause-folds : goal.returns-clause-folds
returns-clause-folds g c = λ texts e l.
    let n : leaf_count c.args.self.now ≡ length texts = ap (λ (t : Levels). leaf_count t) e ∙ leaf_count-tree_of g.H.Hasher.hash texts c.args.self.now.fan in
    rw (cover_is g c texts e l) (fold_of-tree g.H.Hasher.hash texts c.args.self.now.fan c.args.places.now l (first_fault-rising (length texts) c.args.places.now (subst (λ m. IsRising m c.args.places.now) n c.requires)))
