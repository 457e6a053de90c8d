-- Chosen leaves, the cover of all other leaves, and the root recomputed from the texts at chosen positions and a
-- cover.
use Rattle.std.specs.Prelude.{ℕ, zero, suc, ◌+◌, ◌-◌, ◌*◌, ◌/◌, ◌^◌, ◌<◌, ◌==◌, ◌&&◌, Bool, List, [], ◌∷◌, ◌++◌, length, map, drop, replicate, slice_index, slice_index_or, nat_le, nat_lt, if◌then◌else◌, Option, None, Some, Result, Ok, Err}
use Rattle.std.specs.List.{flat_map, list_any, range_with_len, sum_by}
use Rattle.merkle_cover.specs.Shape.{children, top}
use Rattle.merkle_cover.specs.Trees.{digest}
use Rattle.merkle_cover.specs.declared.folds.FoldError.{FoldError}
use Rattle.merkle_cover.specs.declared.folds.FoldError.TheVariants.{Place, CoverShort, CoverLong}

-- strictly ascending positions below n
pub record IsRising (n : ℕ) (places : List ℕ) : Type 0 where
  pub rises : (q r : ℕ) → q < r → r < length places → slice_index places q < slice_index places r
  pub below : (q : ℕ) → q < length places → slice_index places q < n

-- the leaf lies below position p of level k, or is that position
abbrev pub is_below : ℕ → ℕ → ℕ → ℕ → Bool
is_below f k p leaf = nat_le (p * f ^ k) leaf && nat_lt leaf ((p + 1) * f ^ k)

-- some chosen leaf lies below position p of level k
unfoldable pub has_chosen : ℕ → List ℕ → ℕ → ℕ → Bool
has_chosen f chosen k p = list_any (is_below f k p) chosen

-- the cover below position p of level k, over n leaves: the digests of the highest positions without a chosen leaf
-- below them, from left to right, each by its level and position
unfoldable pub cover_below : (ℕ → ℕ → List ℕ) → ℕ → ℕ → List ℕ → ℕ → ℕ → List (List ℕ)
cover_below at n f chosen zero p = if has_chosen f chosen 0 p then [] else at 0 p ∷ []
cover_below at n f chosen (suc k) p =
    if has_chosen f chosen (suc k) p then flat_map (cover_below at n f chosen k)
    (children n f k p) else at (suc k) p ∷ []

-- the cover of the chosen leaves, which is empty if no leaf is chosen
abbrev pub cover_of : (List ℕ → List ℕ) → List (List ℕ) → ℕ → List ℕ → List (List ℕ)
cover_of hash texts f [] = []
cover_of hash texts f (c ∷ cs) =
    cover_below (digest hash texts f) (length texts) f (c ∷ cs) (top (length texts) f) 0

-- the texts of the chosen leaves
abbrev pub chosen_texts : List (List ℕ) → List ℕ → List (List ℕ)
chosen_texts texts chosen = map (λ c. slice_index_or texts c []) chosen

-- the number of digests in the cover below position p of level k, over n leaves
unfoldable pub need : ℕ → ℕ → List ℕ → ℕ → ℕ → ℕ
need n f chosen zero p = if has_chosen f chosen 0 p then 0 else 1
need n f chosen (suc k) p =
    if has_chosen f chosen (suc k) p then sum_by (need n f chosen k) (children n f k p) else 1

-- The number of the cover's digests left of a position, over n leaves. The position is on level k, d levels below
-- the top, and has a chosen leaf. They are the digests left of its parent, together with those of the positions
-- before it below that parent.
unfoldable pub left_of : ℕ → ℕ → List ℕ → ℕ → ℕ → ℕ → ℕ
left_of n f chosen zero k p = 0
left_of n f chosen (suc d) k p =
    left_of n f chosen d (suc k) (p / f) + sum_by (need n f chosen k)
    (range_with_len (p / f * f) (p - p / f * f))

-- the text given for a position
unfoldable pub text_for : List ℕ → List (List ℕ) → ℕ → List ℕ
text_for [] texts p = []
text_for (c ∷ cs) [] p = []
text_for (c ∷ cs) (text ∷ texts) p = if c == p then text else text_for cs texts p

-- the next digest of a cover, or zeros if no digest is left
abbrev pub next_digest : List (List ℕ) → List ℕ
next_digest cover = slice_index_or cover 0 (replicate 32 0)

-- the digests of positions from left to right, each computed from a prefix of the rest of the cover
unfoldable pub folded_in_turn : (ℕ → ℕ) → (ℕ → List (List ℕ) → List ℕ) → List ℕ → List (List ℕ) →
    List ℕ
folded_in_turn taken folded [] cover = []
folded_in_turn taken folded (p ∷ ps) cover = folded p cover ++ folded_in_turn taken folded ps
    (drop (taken p) cover)

-- The digest of position p of level k. A position without a chosen leaf takes the next digest of the cover. A
-- chosen leaf has the digest of its text. Any other position has the digest of its children's digests.
unfoldable pub folded : (List ℕ → List ℕ) → ℕ → ℕ → List ℕ → List (List ℕ) → ℕ → ℕ → List (List ℕ) →
    List ℕ
folded hash n f chosen texts zero p cover =
    if has_chosen f chosen 0 p then hash (0 ∷ text_for chosen texts p) else next_digest cover
folded hash n f chosen texts (suc k) p cover =
    if has_chosen f chosen (suc k) p then hash
    (1 ∷ folded_in_turn (need n f chosen k) (folded hash n f chosen texts k)
    (children n f k p) cover) else next_digest cover

-- the first index at which a position is not below n or is below the least position allowed there
abbrev pub fault_from : ℕ → ℕ → ℕ → List ℕ → Option ℕ
fault_from n least i [] = None
fault_from n least i (p ∷ ps) = if nat_le least p && nat_lt p n then fault_from n (p + 1)
    (i + 1) ps else Some i

-- the first index at which a position is not below n or does not exceed the one before it
abbrev pub first_fault : ℕ → List ℕ → Option ℕ
first_fault n places = fault_from n 0 0 places

-- the result recomputed from a cover with as many digests as the positions need, or the error that it has
-- too few or too many
abbrev pub fold_exact : (List ℕ → List ℕ) → ℕ → ℕ → List ℕ → List (List ℕ) → List (List ℕ) →
    Result (List ℕ) FoldError
fold_exact hash n f places texts cover =
    let needed = need n f places (top n f) 0 in
    if nat_lt (length cover) needed then Err CoverShort
    else (if nat_lt needed (length cover) then Err CoverLong else Ok
    (folded hash n f places texts (top n f) 0 cover))

-- the fault if a fault exists, else the result
abbrev pub after_fault : Option ℕ → Result (List ℕ) FoldError → Result (List ℕ) FoldError
after_fault None r = r
after_fault (Some i) r = Err (Place i)

-- The recomputed root. A faulty position is the first error, and a wrong length of the cover the second. Without an
-- error, the result is the digest of the top level's position.
abbrev pub fold_of : (List ℕ → List ℕ) → ℕ → ℕ → List ℕ → List (List ℕ) → List (List ℕ) →
    Result (List ℕ) FoldError
fold_of hash n f places texts cover = after_fault (first_fault n places)
    (fold_exact hash n f places texts cover)
