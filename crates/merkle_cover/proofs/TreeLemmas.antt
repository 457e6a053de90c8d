-- The cover of a tree over texts.
use Rattle.std.proofs.Common.{◌≡◌, ℕ, ◌<◌, ◌≤◌, List, [], ◌∷◌, length, get_or, refl, ap, ◌∙◌, arith, Ok, None}
use Rattle.merkle_cover.specs.Shape.{places_at, top}
use Rattle.merkle_cover.specs.Trees.{digest, root, Levels, tree_of, leaf_count}
use Rattle.merkle_cover.specs.Covers.{cover_below, cover_of, chosen_texts, first_fault, fold_of}
use Rattle.merkle_cover.specs.Folding.{digest_in}
use Rattle.merkle_cover.proofs.LevelLemmas.{levels-tree_of, get_or-levels_to, get_or-level, length-level, places_at-some}
use Rattle.merkle_cover.proofs.CoverLemmas.{cover_below-same, fold_of-cover_of}

pub leaf_count-tree_of : (hash : List ℕ → List ℕ) (texts : List (List ℕ)) (f : ℕ) → leaf_count (tree_of hash texts f) ≡ length texts
unfolding places_at
leaf_count-tree_of hash texts f =
    ap (λ (l : List (List (List ℕ))). length (get_or l 0 [])) (levels-tree_of hash texts f) ∙ ap (λ (l : List (List ℕ)). length l) (get_or-levels_to hash texts f (top (length texts) f) 0 [] (omega arith)) ∙ length-level hash texts f 0

-- a tree's levels have the digests of its positions
pub digest_in-tree_of : (hash : List ℕ → List ℕ) (texts : List (List ℕ)) (f k p : ℕ) → k ≤ top (length texts) f → p < places_at (length texts) f k → digest_in (tree_of hash texts f).levels k p ≡ digest hash texts f k p
digest_in-tree_of hash texts f k p le l =
    ap (λ (ls : List (List (List ℕ))). get_or (get_or ls k []) p []) (levels-tree_of hash texts f)
    ∙ ap (λ (ds : List (List ℕ)). get_or ds p []) (get_or-levels_to hash texts f (top (length texts) f) k [] (omega (arith, le)))
    ∙ get_or-level hash texts f k p [] l

pub cover_of-some : (hash : List ℕ → List ℕ) (texts : List (List ℕ)) (f : ℕ) (places : List ℕ) → 0 < length places → cover_below (digest hash texts f) (length texts) f places (top (length texts) f) 0 ≡ cover_of hash texts f places
cover_of-some hash texts f [] l = absurd (omega (arith, l))
cover_of-some hash texts f (c ∷ cs) l = refl

pub cover_of-tree_of : (hash : List ℕ → List ℕ) (texts : List (List ℕ)) (f : ℕ) (places : List ℕ) → 2 ≤ f → 1 ≤ length texts → 0 < length places → cover_below (digest_in (tree_of hash texts f).levels) (length texts) f places (top (length texts) f) 0 ≡ cover_of hash texts f places
cover_of-tree_of hash texts f places f2 n1 l =
    cover_below-same (digest_in (tree_of hash texts f).levels) (digest hash texts f) (length texts) f places (top (length texts) f) 0 (places_at-some (length texts) f (top (length texts) f) (omega (arith, f2)) n1) (λ j q le lt. digest_in-tree_of hash texts f j q le lt)
    ∙ cover_of-some hash texts f places l

pub fold_of-tree : (hash : List ℕ → List ℕ) (texts : List (List ℕ)) (f : ℕ) (places : List ℕ) → 0 < length places → first_fault (length texts) places ≡ None → fold_of hash (length texts) f places (chosen_texts texts places) (cover_of hash texts f places) ≡ Ok (root hash texts f)
fold_of-tree hash texts f [] l e = absurd (omega (arith, l))
fold_of-tree hash texts f (c ∷ cs) l e = fold_of-cover_of hash texts f c cs e

-- the result of a walk over a tree's fields
pub cover_of-walk : (hash : List ℕ → List ℕ) (texts : List (List ℕ)) (t : Levels) (n f k : ℕ) (places : List ℕ) → t ≡ tree_of hash texts t.fan → n ≡ leaf_count t → f ≡ t.fan → k ≡ top n f → 2 ≤ f → 1 ≤ n → 0 < length places → cover_below (digest_in t.levels) n f places k 0 ≡ cover_of hash texts t.fan places
cover_of-walk hash texts t n f k places e en ef ek f2 n1 l =
    let count : n ≡ length texts = en ∙ ap (λ (x : Levels). leaf_count x) e ∙ leaf_count-tree_of hash texts t.fan in
    ap (λ x. cover_below (digest_in t.levels) n f places x 0) ek
    ∙ ap (λ x. cover_below (digest_in t.levels) n x places (top n x) 0) ef
    ∙ ap (λ x. cover_below (digest_in t.levels) x t.fan places (top x t.fan) 0) count
    ∙ ap (λ (x : Levels). cover_below (digest_in x.levels) (length texts) t.fan places (top (length texts) t.fan) 0) e
    ∙ cover_of-tree_of hash texts t.fan places (omega (arith, ef, f2)) (omega (arith, count, n1)) l
