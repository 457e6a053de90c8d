-- Positions at which a tree and a recomputed root hash different texts to the same digest.
use Rattle.std.specs.Prelude.{ℕ, true, zero, suc, ◌≡◌, ◌≢◌, ◌+◌, ◌-◌, ◌*◌, ◌^◌, ◌<◌, ◌≤◌, List, [], ◌∷◌, ◌++◌, length, take, drop, slice_index, slice_index_or}
use Rattle.std.specs.List.{flat_map}
use Rattle.merkle_cover.specs.Shape.{places_at, children, top}
use Rattle.merkle_cover.specs.Trees.{digest}
use Rattle.merkle_cover.specs.Covers.{has_chosen, left_of, need, cover_below, text_for, folded_in_turn, folded}
use Rattle.merkle_cover.specs.Folding.{CanFold, HasLevels, digest_in}

-- the text whose hash is the digest of position p of level k
unfoldable pub hashed_text : (List ℕ → List ℕ) → List (List ℕ) → ℕ → ℕ → ℕ → List ℕ
hashed_text hash texts f zero p = 0 ∷ slice_index_or texts p []
hashed_text hash texts f (suc k) p = 1 ∷ flat_map (digest hash texts f k)
    (children (length texts) f k p)

-- the text whose hash is the recomputed digest of a position with a chosen leaf
unfoldable pub folded_text : (List ℕ → List ℕ) → ℕ → ℕ → List ℕ → List (List ℕ) → ℕ → ℕ →
    List (List ℕ) → List ℕ
folded_text hash n f chosen given zero p cover = 0 ∷ text_for chosen given p
folded_text hash n f chosen given (suc k) p cover =
    1 ∷ folded_in_turn (need n f chosen k) (folded hash n f chosen given k) (children n f k p) cover

-- At some existing position above or at a chosen leaf, the tree hashes the left text and the recomputed root hashes
-- the right text. The digests in the right text are given or recomputed. Those from the cover come after all cover
-- digests left of the position.
pub record AreHashed (hash : List ℕ → List ℕ) (leaves : List (List ℕ)) (f : ℕ) (chosen : List ℕ)
    (given cover : List (List ℕ)) (left right : List ℕ) : Type 0 where
  pub k : ℕ
  pub p : ℕ
  pub level : k ≤ top (length leaves) f
  pub place : p < places_at (length leaves) f k
  pub some : has_chosen f chosen k p ≡ true
  pub of_tree : left ≡ hashed_text hash leaves f k p
  pub of_fold : right ≡ folded_text hash (length leaves) f chosen given k p
      (drop (left_of (length leaves) f chosen (top (length leaves) f - k) k p) cover)

-- the texts and digests given below position p of level k equal the tree's own: texts from one index up to another,
-- and digests from an index in the cover on
pub record SameBelow (hash : List ℕ → List ℕ) (leaves : List (List ℕ)) (f : ℕ) (chosen : List ℕ)
    (given cover : List (List ℕ)) (k p start item next : ℕ) : Type 0 where
  pub texts : (q : ℕ) → item ≤ q → q < next →
      slice_index_or given q [] ≡ slice_index_or leaves (slice_index chosen q) []
  pub digests : take (need (length leaves) f chosen k p) (drop start cover) ≡ cover_below
      (digest hash leaves f) (length leaves) f chosen k p

-- the state of a comparison before position p of level k; whole is the cover of the tree itself
pub record CanCompare (hash : List ℕ → List ℕ) (leaves : List (List ℕ)) (f : ℕ) (chosen : List ℕ)
    (given cover : List (List ℕ)) (levels : List (List (List ℕ))) (whole : List (List ℕ))
    (k p w item start : ℕ) : Type 0 where
  pub fold : CanFold (length leaves) f chosen given k p w item start
  pub levels_in : HasLevels (length leaves) f levels k
  pub digests : (j q : ℕ) → j ≤ k → q < places_at (length leaves) f j →
      digest_in levels j q ≡ digest hash leaves f j q
  pub left : (d : ℕ) × (k + d ≡ top (length leaves) f) ×
      (start ≡ left_of (length leaves) f chosen d k p)
  pub enough : start + need (length leaves) f chosen k p ≤ length cover
  pub rest : (more : List (List ℕ)) ×
      (drop start whole ≡ cover_below (digest hash leaves f) (length leaves) f chosen k p ++ more)

-- the tree and the recomputed root hash different texts at position p of level k to the same digest
pub record IsClash (hash : List ℕ → List ℕ) (leaves : List (List ℕ)) (f : ℕ) (chosen : List ℕ)
    (given cover : List (List ℕ)) (levels : List (List (List ℕ))) (whole : List (List ℕ))
    (k p w item start : ℕ) : Type 0 where
  pub at : CanCompare hash leaves f chosen given cover levels whole k p w item start
  pub next : (item < length chosen) × (slice_index chosen item < (p + 1) * w)
  pub differ : hashed_text hash leaves f k p ≢ folded_text hash (length leaves) f chosen given k p
      (drop start cover)
  pub same : hash (hashed_text hash leaves f k p) ≡ hash
      (folded_text hash (length leaves) f chosen given k p (drop start cover))

-- position p of level k can be read from the levels of a tree
pub record CanRead (hash : List ℕ → List ℕ) (leaves : List (List ℕ)) (f : ℕ)
    (levels : List (List (List ℕ))) (k p w : ℕ) : Type 0 where
  pub fan : 2 ≤ f
  pub fan_max : f ≤ 32
  pub count : length leaves < 2 ^ 32
  pub span : w ≡ f ^ k
  pub place : p * w < length leaves
  pub levels_in : HasLevels (length leaves) f levels k
  pub digests : (j q : ℕ) → j ≤ k → q < places_at (length leaves) f j →
      digest_in levels j q ≡ digest hash leaves f j q
