-- A whole tree compared with a recomputed root.
use Rattle.std.proofs.Common.{◌≡◌, ℕ, suc, zero, ◌+◌, ◌*◌, ◌^◌, ◌<◌, ◌≤◌, Bool, true, false, cond, ltb, List, [], ◌∷◌, ◌++◌, length, get_or, drop, refl, sym, ap, ◌∙◌, subst, arith, inl, inr, Option, None, Some, Result, Ok, Err}
use Rattle.std.proofs.lemmas.Bool.{cases_lt}
use Rattle.std.proofs.lemmas.Bool.Decides.{nat_tests}
use Rattle.std.proofs.lemmas.List.{append-nil, take_all, same_lists, get_or-map, length-map, get_or_default}
use Rattle.merkle_cover.specs.Shape.{children, top}
use Rattle.merkle_cover.specs.Trees.{digest, root, tree_of}
use Rattle.merkle_cover.specs.Covers.{has_chosen, left_of, need, cover_below, cover_of, chosen_texts, folded, first_fault, fold_exact, fold_of, after_fault}
use Rattle.merkle_cover.specs.Folding.{SplitsAt, HasLevels, digest_in}
use Rattle.merkle_cover.specs.Clashes.{hashed_text, folded_text, SameBelow, CanCompare, IsClash, CanRead, AreHashed}
use Rattle.merkle_cover.specs.declared.folds.FoldError.{FoldError}
use Rattle.merkle_cover.specs.declared.folds.FoldError.TheVariants.{CoverShort, CoverLong}
use Rattle.merkle_cover.proofs.FoldLemmas.{CanWalk-start, rising-first_fault}
use Rattle.merkle_cover.proofs.CoverLemmas.{cover_below-above, in_turn, folded-cover_below, AreTheirs-chosen_texts, text_for-chosen_texts}
use Rattle.merkle_cover.proofs.TreeLemmas.{digest_in-tree_of, cover_of-some}
use Rattle.merkle_cover.proofs.LevelLemmas.{levels-tree_of, length-levels_to, get_or-levels_to, length-level}
use Rattle.merkle_cover.proofs.WalkLemmas.{walk-some}
use Rattle.merkle_cover.proofs.ClashLemmas.{left-top}
use Rattle.merkle_cover.proofs.ShapeLemmas.{places_at-lt-mul}

-- ---- the meaning of a recomputed root

after-ok : (o : Option ℕ) (r : Result (List ℕ) FoldError) (d : List ℕ) → after_fault o r ≡ Ok d → (o ≡ None) × (r ≡ Ok d)
after-ok None r d e = (refl, e)
after-ok (Some i) r d e = cc

exact-ok : (a b : ℕ) (x d : List ℕ) → ◌≡◌ {A = Result (List ℕ) FoldError} (cond (ltb a b) (Err CoverShort) (cond (ltb b a) (Err CoverLong) (Ok x))) (Ok d) → (a ≡ b) × (x ≡ d)
exact-ok a b x d e =
    elim (cases_lt a b) [
      | inl l ↦ absurd (wrong (ltb a b) (ltb b a) x d e (grind (arith, nat_tests)))
      | inr l ↦ elim (cases_lt b a) [
        | inl m ↦ absurd (wrong' (ltb a b) (ltb b a) x d e (grind (arith, nat_tests)) (grind (arith, nat_tests)))
        | inr m ↦ (omega arith, right (ltb a b) (ltb b a) x d e (grind (arith, nat_tests)) (grind (arith, nat_tests)))
      ]
    ]
  where
    wrong : (p q : Bool) (x d : List ℕ) → ◌≡◌ {A = Result (List ℕ) FoldError} (cond p (Err CoverShort) (cond q (Err CoverLong) (Ok x))) (Ok d) → p ≡ true → ⊥
    wrong true q x d e h = cc
    wrong false q x d e h = cc

    wrong' : (p q : Bool) (x d : List ℕ) → ◌≡◌ {A = Result (List ℕ) FoldError} (cond p (Err CoverShort) (cond q (Err CoverLong) (Ok x))) (Ok d) → p ≡ false → q ≡ true → ⊥
    wrong' true q x d e h k = cc
    wrong' false true x d e h k = cc
    wrong' false false x d e h k = cc

    right : (p q : Bool) (x d : List ℕ) → ◌≡◌ {A = Result (List ℕ) FoldError} (cond p (Err CoverShort) (cond q (Err CoverLong) (Ok x))) (Ok d) → p ≡ false → q ≡ false → x ≡ d
    right true q x d e h k = cc
    right false true x d e h k = cc
    right false false x d e h k = cc

pub record GoodFold (hash : List ℕ → List ℕ) (n f : ℕ) (places : List ℕ) (texts cover : List (List ℕ)) (d : List ℕ) : Type 0 where
  pub none : first_fault n places ≡ None
  pub count : length cover ≡ need n f places (top n f) 0
  pub value : folded hash n f places texts (top n f) 0 cover ≡ d

pub GoodFold-ok : (hash : List ℕ → List ℕ) (n f : ℕ) (places : List ℕ) (texts cover : List (List ℕ)) (d : List ℕ) → fold_of hash n f places texts cover ≡ Ok d → GoodFold hash n f places texts cover d
GoodFold-ok hash n f places texts cover d e =
    let one = after-ok (first_fault n places) (fold_exact hash n f places texts cover) d e in
    let two = exact-ok (length cover) (need n f places (top n f) 0) (folded hash n f places texts (top n f) 0 cover) d one.1 in
    record { none = one.0; count = two.0; value = two.1 }

-- ---- the start

pub length-levels-tree_of : (hash : List ℕ → List ℕ) (leaves : List (List ℕ)) (f : ℕ) → length (tree_of hash leaves f).levels ≡ top (length leaves) f + 1
length-levels-tree_of hash leaves f =
    ap (λ (l : List (List (List ℕ))). length l) (levels-tree_of hash leaves f) ∙ omega (arith, length-levels_to hash leaves f (top (length leaves) f))

pub HasLevels-tree_of : (hash : List ℕ → List ℕ) (leaves : List (List ℕ)) (f : ℕ) → HasLevels (length leaves) f (tree_of hash leaves f).levels (top (length leaves) f)
HasLevels-tree_of hash leaves f = record {
  levels_in = λ j le. omega (arith, ap (λ (l : List (List (List ℕ))). length l) (levels-tree_of hash leaves f), length-levels_to hash leaves f (top (length leaves) f), le);
  sizes = λ j le. ap (λ (ls : List (List (List ℕ))). length (get_or ls j [])) (levels-tree_of hash leaves f) ∙ ap (λ (l : List (List ℕ)). length l) (get_or-levels_to hash leaves f (top (length leaves) f) j [] (omega (arith, le))) ∙ length-level hash leaves f j;
}

pub CanCompare-start : (hash : List ℕ → List ℕ) (leaves : List (List ℕ)) (f : ℕ) (places : List ℕ) (given cover : List (List ℕ)) (levels : List (List (List ℕ))) (k w : ℕ) (d : List ℕ) → 2 ≤ f → f ≤ 32 → 1 ≤ length leaves → length leaves < 2 ^ 32 → 1 ≤ length places → length given ≡ length places → levels ≡ (tree_of hash leaves f).levels → k ≡ top (length leaves) f → w ≡ f ^ k → w < 2 ^ 37 → GoodFold hash (length leaves) f places given cover d → CanCompare hash leaves f places given cover levels (cover_of hash leaves f places) k 0 w 0 0
CanCompare-start hash leaves f places given cover levels k w d f2 f32 n1 n32 p1 l el ek ew small g =
    let n = length leaves in
    record {
      fold = record { walk = CanWalk-start n f places k w f2 f32 n1 n32 (rising-first_fault n places g.none) ew small; texts = l; taken = omega arith };
      levels_in = subst (λ x. HasLevels n f levels x) (sym ek) (subst (λ ls. HasLevels n f ls (top n f)) (sym el) (HasLevels-tree_of hash leaves f));
      digests = λ j q le lt. ap (λ (ls : List (List (List ℕ))). digest_in ls j q) el ∙ digest_in-tree_of hash leaves f j q (omega (arith, le, ek)) lt;
      left = (0, omega (arith, ek), left-top n f places k 0);
      enough = omega (arith, g.count, ap (λ x. need n f places x 0) ek);
      rest = ([], sym (cover_of-some hash leaves f places (omega (arith, p1))) ∙ ap (λ x. cover_below (digest hash leaves f) n f places x 0) (sym ek) ∙ sym (append-nil (cover_below (digest hash leaves f) n f places k 0)));
    }

-- ---- the end

-- the texts are the leaves at the positions, one by one
pub chosen_texts-each : (leaves given : List (List ℕ)) (places : List ℕ) → length given ≡ length places → ((q : ℕ) → q < length places → get_or given q [] ≡ get_or leaves (get_or places q 0) []) → given ≡ chosen_texts leaves places
chosen_texts-each leaves given places l each =
    same_lists given (chosen_texts leaves places) (l ∙ sym (length-map places (λ c. get_or leaves c [])))
    (λ i x q. get_or_default given i x [] q ∙ each i (omega (arith, q, l)) ∙ sym (get_or-map (λ c. get_or leaves c []) places i 0 x (omega (arith, q, l))))

-- all texts and digests are the tree's own
pub SameBelow-all : (hash : List ℕ → List ℕ) (leaves : List (List ℕ)) (f : ℕ) (places : List ℕ) (given cover : List (List ℕ)) (k w next : ℕ) (d : List ℕ) → length given ≡ length places → 1 ≤ length places → ((q : ℕ) → q < length places → get_or places q 0 < length leaves) → k ≡ top (length leaves) f → length leaves ≤ w → GoodFold hash (length leaves) f places given cover d → SplitsAt places ((0 + 1) * w) next → SameBelow hash leaves f places given cover k 0 0 0 next → (given ≡ chosen_texts leaves places) × (cover ≡ cover_of hash leaves f places)
SameBelow-all hash leaves f places given cover k w next d l p1 below ek lw g s b =
    let n = length leaves in
    let all : next ≡ length places = elim (cases_lt next (length places)) [
      | inl q ↦ absurd (omega (arith, s.after next (omega arith) q, below next q, lw))
      | inr q ↦ omega (arith, s.within, q)
    ] in (
      chosen_texts-each leaves given places l (λ q lt. b.texts q (omega arith) (omega (arith, lt, all))),
      sym (take_all (need n f places k 0) cover (omega (arith, g.count, ap (λ x. need n f places x 0) ek))) ∙ b.digests ∙ ap (λ x. cover_below (digest hash leaves f) n f places x 0) ek ∙ cover_of-some hash leaves f places (omega (arith, p1)),
    )

-- if everything is the tree's own, both hash the same text
same_text : (hash : List ℕ → List ℕ) (leaves : List (List ℕ)) (f : ℕ) (places : List ℕ) (k p : ℕ) (more : List (List ℕ)) → has_chosen f places k p ≡ true → folded_text hash (length leaves) f places (chosen_texts leaves places) k p (cover_below (digest hash leaves f) (length leaves) f places k p ++ more) ≡ hashed_text hash leaves f k p
unfolding folded_text hashed_text has_chosen
same_text hash leaves f places zero p more h = ap (λ t. 0 ∷ t) (text_for-chosen_texts leaves f places p h)
same_text hash leaves f places (suc k) p more h =
    rw (cover_below-above (digest hash leaves f) (length leaves) f places k p h) (ap (λ l. 1 ∷ l) (in_turn hash leaves f places (chosen_texts leaves places) k (folded-cover_below hash leaves f places (chosen_texts leaves places) (AreTheirs-chosen_texts hash leaves f places) k) (children (length leaves) f k p) more))

-- if everything is the tree's own, no clash is found
pub IsClash-apart : (hash : List ℕ → List ℕ) (leaves : List (List ℕ)) (f : ℕ) (places : List ℕ) (given cover : List (List ℕ)) (levels : List (List (List ℕ))) (whole : List (List ℕ)) (k p w item start : ℕ) → IsClash hash leaves f places given cover levels whole k p w item start → given ≡ chosen_texts leaves places → cover ≡ whole → ⊥
IsClash-apart hash leaves f places given cover levels whole k p w item start c eg ec =
    let n = length leaves in
    let some = walk-some c.at.fold.walk c.next.0 c.next.1 in
    let piece : drop start cover ≡ cover_below (digest hash leaves f) n f places k p ++ c.at.rest.0 = ap (drop start) ec ∙ c.at.rest.1 in
    c.differ (sym (same_text hash leaves f places k p c.at.rest.0 some) ∙ ap (λ g. folded_text hash n f places g k p (cover_below (digest hash leaves f) n f places k p ++ c.at.rest.0)) (sym eg) ∙ ap (folded_text hash n f places given k p) (sym piece))

pub CanRead-clash : {hash : List ℕ → List ℕ} {leaves : List (List ℕ)} {f : ℕ} {places : List ℕ} {given cover : List (List ℕ)} {levels : List (List (List ℕ))} {whole : List (List ℕ)} {k p w item start : ℕ} → IsClash hash leaves f places given cover levels whole k p w item start → CanRead hash leaves f levels k p w
CanRead-clash c = record {
  fan = c.at.fold.walk.fan;
  fan_max = c.at.fold.walk.fan_max;
  count = c.at.fold.walk.leaves;
  span = c.at.fold.walk.span;
  place = c.at.fold.walk.place;
  levels_in = c.at.levels_in;
  digests = c.at.digests;
}

-- a clash consists of two texts that are hashed at the same position
pub AreHashed-clash : (hash : List ℕ → List ℕ) (leaves : List (List ℕ)) (f : ℕ) (places : List ℕ) (given cover : List (List ℕ)) (levels : List (List (List ℕ))) (whole : List (List ℕ)) (k p w item start : ℕ) (left right : List ℕ) → IsClash hash leaves f places given cover levels whole k p w item start → length levels ≡ top (length leaves) f + 1 → left ≡ hashed_text hash leaves f k p → right ≡ folded_text hash (length leaves) f places given k p (drop start cover) → AreHashed hash leaves f places given cover left right
AreHashed-clash hash leaves f places given cover levels whole k p w item start left right c count el er = record {
  k = k;
  p = p;
  level = omega (arith, c.at.levels_in.levels_in k (omega arith), count);
  place = places_at-lt-mul (length leaves) f k p (omega (arith, c.at.fold.walk.fan)) (omega (arith, c.at.fold.walk.place, ap (λ x. p * x) c.at.fold.walk.span));
  some = walk-some c.at.fold.walk c.next.0 c.next.1;
  of_tree = el;
  of_fold = er ∙ ap (λ s. folded_text hash (length leaves) f places given k p (drop s cover)) (c.at.left.2 ∙ ap (λ d. left_of (length leaves) f places d k p) (omega (arith, c.at.left.1)));
}

pub root-tree_of : (hash : List ℕ → List ℕ) (leaves : List (List ℕ)) (f : ℕ) → (tree_of hash leaves f).root ≡ digest hash leaves f (top (length leaves) f) 0
unfolding tree_of root
root-tree_of hash leaves f = refl
