-- Covers, and the roots recomputed from them.
use Rattle.std.proofs.Common.{◌≡◌, ℕ, suc, zero, ◌+◌, ◌-◌, ◌*◌, ◌^◌, ◌<◌, ◌≤◌, min, Bool, true, false, ◌||◌, List, [], ◌∷◌, ◌++◌, length, get_or, drop, refl, sym, ap, ◌∙◌, arith, cond, inl, inr, ◌⊎◌, ltb, Result, Ok, Err, None}
use Rattle.std.specs.List.{range_with_len, sum_by, list_any, flat_map}
use Rattle.std.proofs.lemmas.Bool.{cases_eq}
use Rattle.std.proofs.lemmas.Bool.Decides.{nat_tests}
use Rattle.std.proofs.lemmas.List.{append_assoc, append-nil, drop_at}
use Rattle.std.proofs.lemmas.List.Concat.{length-flat_map}
use Rattle.std.proofs.lemmas.List.Sums.{sum_by-cons}
use Rattle.std.proofs.Math.Nat.{pow-zero}
use Rattle.merkle_cover.specs.Shape.{places_at, children, top}
use Rattle.merkle_cover.specs.Trees.{digest, root}
use Rattle.merkle_cover.specs.Covers.{is_below, has_chosen, need, cover_below, cover_of, chosen_texts, text_for, folded_in_turn, folded, first_fault, fold_of}
use Rattle.merkle_cover.specs.declared.folds.FoldError.{FoldError}
use Rattle.merkle_cover.specs.declared.folds.FoldError.TheVariants.{CoverShort, CoverLong}

-- ---- lists made over a range of positions

flat_map-range-same : {X : Type 0} (g h : ℕ → List X) (a c : ℕ) → ((i : ℕ) → a ≤ i → i < a + c → g i ≡ h i) → flat_map g (range_with_len a c) ≡ flat_map h (range_with_len a c)
flat_map-range-same g h a zero e = refl
flat_map-range-same g h a (suc c) e =
    ap (λ l. l ++ flat_map g (range_with_len (a + 1) c)) (e a (omega arith) (omega arith))
    ∙ ap (λ l. h a ++ l) (flat_map-range-same g h (a + 1) c (λ i p q. e i (omega (arith, p)) (omega (arith, q))))

pub sum_by-same : (g h : ℕ → ℕ) (xs : List ℕ) → ((x : ℕ) → g x ≡ h x) → sum_by g xs ≡ sum_by h xs
sum_by-same g h [] e = refl
sum_by-same g h (x ∷ xs) e = omega (arith, sum_by-cons g x xs, sum_by-cons h x xs, e x, sum_by-same g h xs e)

-- ---- covers

-- a cover only reads digests of existing positions
pub cover_below-same : (at at' : ℕ → ℕ → List ℕ) (n f : ℕ) (chosen : List ℕ) (k p : ℕ) → p < places_at n f k → ((j q : ℕ) → j ≤ k → q < places_at n f j → at j q ≡ at' j q) → cover_below at n f chosen k p ≡ cover_below at' n f chosen k p
unfolding cover_below children
cover_below-same at at' n f chosen zero p l e = ap (λ d. cond (has_chosen f chosen 0 p) [] (d ∷ [])) (e 0 p (omega arith) l)
cover_below-same at at' n f chosen (suc k) p l e =
    ap (λ d. cond (has_chosen f chosen (suc k) p) (flat_map (cover_below at n f chosen k) (children n f k p)) (d ∷ [])) (e (suc k) p (omega arith) l)
    ∙ ap (λ ds. cond (has_chosen f chosen (suc k) p) ds (at' (suc k) p ∷ [])) (flat_map-range-same (cover_below at n f chosen k) (cover_below at' n f chosen k) (p * f) (min f (places_at n f k - p * f))
    (λ i a b. cover_below-same at at' n f chosen k i (omega (arith, a, b)) (λ j q le lt. e j q (omega (arith, le)) lt)))

-- a cover has as many digests as are needed
pub length-cover_below : (at : ℕ → ℕ → List ℕ) (n f : ℕ) (chosen : List ℕ) (k p : ℕ) → length (cover_below at n f chosen k p) ≡ need n f chosen k p
unfolding cover_below need
length-cover_below at n f chosen zero p =
    elim (has_chosen f chosen 0 p) as (λ b. length (cond b [] (at 0 p ∷ [])) ≡ cond b 0 1) [ true ↦ refl | false ↦ refl ]
length-cover_below at n f chosen (suc k) p =
    let kids = children n f k p in
    let same = length-flat_map (cover_below at n f chosen k) kids ∙ sum_by-same (λ x. length (cover_below at n f chosen k x)) (need n f chosen k) kids (length-cover_below at n f chosen k) in
    elim (has_chosen f chosen (suc k) p) as (λ b. length (cond b (flat_map (cover_below at n f chosen k) kids) (at (suc k) p ∷ [])) ≡ cond b (sum_by (need n f chosen k) kids) 1) [ true ↦ same | false ↦ refl ]

pub cover_below-none : (at : ℕ → ℕ → List ℕ) (n f : ℕ) (chosen : List ℕ) (k p : ℕ) → has_chosen f chosen k p ≡ false → cover_below at n f chosen k p ≡ at k p ∷ []
unfolding cover_below
cover_below-none at n f chosen zero p h = rw h refl
cover_below-none at n f chosen (suc k) p h = rw h refl

pub cover_below-leaf : (at : ℕ → ℕ → List ℕ) (n f : ℕ) (chosen : List ℕ) (k p : ℕ) → k ≡ 0 → has_chosen f chosen k p ≡ true → cover_below at n f chosen k p ≡ []
unfolding cover_below
cover_below-leaf at n f chosen zero p e h = rw h refl
cover_below-leaf at n f chosen (suc k) p e h = absurd (omega (arith, e))

pub cover_below-above : (at : ℕ → ℕ → List ℕ) (n f : ℕ) (chosen : List ℕ) (j p : ℕ) → has_chosen f chosen (suc j) p ≡ true → cover_below at n f chosen (suc j) p ≡ flat_map (cover_below at n f chosen j) (children n f j p)
unfolding cover_below
cover_below-above at n f chosen j p h = rw h refl

-- ---- the digest recomputed from a cover is the position's digest

pub bool_cases : (b : Bool) → (b ≡ true) ⊎ (b ≡ false)
bool_cases true = inl refl
bool_cases false = inr refl

module _ (hash : List ℕ → List ℕ) (texts : List (List ℕ)) (f : ℕ) (chosen : List ℕ) (given : List (List ℕ)) where
  -- the given texts are those of the chosen leaves
  pub AreTheirs : Type 0
  AreTheirs = (p : ℕ) → has_chosen f chosen 0 p ≡ true → text_for chosen given p ≡ get_or texts p []

  pub in_turn : (k : ℕ) → ((p : ℕ) (more : List (List ℕ)) → folded hash (length texts) f chosen given k p (cover_below (digest hash texts f) (length texts) f chosen k p ++ more) ≡ digest hash texts f k p)
      → (ps : List ℕ) (more : List (List ℕ)) → folded_in_turn (need (length texts) f chosen k) (folded hash (length texts) f chosen given k) ps (flat_map (cover_below (digest hash texts f) (length texts) f chosen k) ps ++ more) ≡ flat_map (digest hash texts f k) ps
  unfolding folded_in_turn
  in_turn k one [] more = refl
  in_turn k one (p ∷ ps) more =
      let n = length texts in
      let cov = cover_below (digest hash texts f) n f chosen k in
      let tail = flat_map cov ps ++ more in
      let cut : (cov p ++ flat_map cov ps) ++ more ≡ cov p ++ tail = append_assoc (cov p) (flat_map cov ps) more in
      let left : drop (need n f chosen k p) (cov p ++ tail) ≡ tail = drop_at (cov p) tail (need n f chosen k p) (length-cover_below (digest hash texts f) n f chosen k p) in
      ap (folded_in_turn (need n f chosen k) (folded hash n f chosen given k) (p ∷ ps)) cut
      ∙ ap (λ d. d ++ folded_in_turn (need n f chosen k) (folded hash n f chosen given k) ps (drop (need n f chosen k p) (cov p ++ tail))) (one p tail)
      ∙ ap (λ l. digest hash texts f k p ++ folded_in_turn (need n f chosen k) (folded hash n f chosen given k) ps l) left
      ∙ ap (λ l. digest hash texts f k p ++ l) (in_turn k one ps more)

  pub folded-cover_below : AreTheirs → (k p : ℕ) (more : List (List ℕ)) → folded hash (length texts) f chosen given k p (cover_below (digest hash texts f) (length texts) f chosen k p ++ more) ≡ digest hash texts f k p
  unfolding folded digest AreTheirs
  folded-cover_below theirs zero p more =
      elim (bool_cases (has_chosen f chosen 0 p)) [
        | inl h ↦ rw h (ap (λ t. hash (0 ∷ t)) (theirs p h))
        | inr h ↦ rw (h, cover_below-none (digest hash texts f) (length texts) f chosen 0 p h) refl
      ]
  folded-cover_below theirs (suc k) p more =
      elim (bool_cases (has_chosen f chosen (suc k) p)) [
        | inl h ↦ rw (h, cover_below-above (digest hash texts f) (length texts) f chosen k p h) (ap (λ l. hash (1 ∷ l)) (in_turn k (folded-cover_below theirs k) (children (length texts) f k p) more))
        | inr h ↦ rw (h, cover_below-none (digest hash texts f) (length texts) f chosen (suc k) p h) refl
      ]

or_right : (a b : Bool) → (a || b) ≡ true → a ≡ false → b ≡ true
or_right true b h e = cc
or_right false b h e = h

-- only the leaf itself is at a leaf's position
apart : (f c p : ℕ) → (c ≡ p → ⊥) → is_below f 0 p c ≡ false
apart f c p ne =
    let one : f ^ 0 ≡ 1 = pow-zero f in
    rw one (grind (arith, nat_tests))

text_for-other : (c : ℕ) (cs : List ℕ) (t : List ℕ) (ts : List (List ℕ)) (p : ℕ) → (c ≡ p → ⊥) → text_for (c ∷ cs) (t ∷ ts) p ≡ text_for cs ts p
unfolding text_for
text_for-other c cs t ts p ne = grind (arith, nat_tests)

text_for-same : (c : ℕ) (cs : List ℕ) (t : List ℕ) (ts : List (List ℕ)) (p : ℕ) → c ≡ p → text_for (c ∷ cs) (t ∷ ts) p ≡ t
unfolding text_for
text_for-same c cs t ts p e = grind (arith, nat_tests)

-- the given texts are those of the chosen leaves, in order
pub text_for-chosen_texts : (texts : List (List ℕ)) (f : ℕ) (chosen : List ℕ) (p : ℕ) → list_any (is_below f 0 p) chosen ≡ true → text_for chosen (chosen_texts texts chosen) p ≡ get_or texts p []
text_for-chosen_texts texts f [] p h = cc
text_for-chosen_texts texts f (c ∷ cs) p h =
    elim (cases_eq c p) [
      | inl e ↦ text_for-same c cs (get_or texts c []) (chosen_texts texts cs) p e ∙ ap (λ x. get_or texts x []) e
      | inr ne ↦ text_for-other c cs (get_or texts c []) (chosen_texts texts cs) p ne ∙ text_for-chosen_texts texts f cs p (or_right (is_below f 0 p c) (list_any (is_below f 0 p) cs) h (apart f c p ne))
    ]

pub AreTheirs-chosen_texts : (hash : List ℕ → List ℕ) (texts : List (List ℕ)) (f : ℕ) (chosen : List ℕ) → AreTheirs hash texts f chosen (chosen_texts texts chosen)
unfolding AreTheirs has_chosen
AreTheirs-chosen_texts hash texts f chosen p h = text_for-chosen_texts texts f chosen p h

-- a cover of chosen leaves and their texts recompute the root
pub fold_of-cover_of : (hash : List ℕ → List ℕ) (texts : List (List ℕ)) (f c : ℕ) (cs : List ℕ) → first_fault (length texts) (c ∷ cs) ≡ None → fold_of hash (length texts) f (c ∷ cs) (chosen_texts texts (c ∷ cs)) (cover_of hash texts f (c ∷ cs)) ≡ Ok (root hash texts f)
unfolding root
fold_of-cover_of hash texts f c cs e =
    let n = length texts in
    let chosen = c ∷ cs in
    let given = chosen_texts texts chosen in
    let cover = cover_of hash texts f chosen in
    let len = length-cover_below (digest hash texts f) n f chosen (top n f) 0 in
    let all = folded-cover_below hash texts f chosen given (AreTheirs-chosen_texts hash texts f chosen) (top n f) 0 [] in
    let whole : folded hash n f chosen given (top n f) 0 cover ≡ digest hash texts f (top n f) 0 = ap (folded hash n f chosen given (top n f) 0) (sym (append-nil cover)) ∙ all in
    rw e (exact (length cover) (need n f chosen (top n f) 0) _ len ∙ ap (λ d. Ok d) whole)
  where
    exact : (a b : ℕ) (d : List ℕ) → a ≡ b → ◌≡◌ {A = Result (List ℕ) FoldError} (cond (ltb a b) (Err CoverShort) (cond (ltb b a) (Err CoverLong) (Ok d))) (Ok d)
    exact a b d e = grind (arith, nat_tests)
