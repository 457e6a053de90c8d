-- What each step of a walk over a tree's positions does.
use Rattle.std.proofs.Common.{◌≡◌, ℕ, suc, ◌+◌, ◌-◌, ◌*◌, ◌/◌, ◌^◌, ◌<◌, ◌≤◌, min, true, false, List, [], ◌∷◌, ◌++◌, length, get_or, sym, ap, ◌∙◌, subst, arith, Fits, w32, w64}
use Rattle.std.specs.Int.{div_ceil}
use Rattle.std.specs.List.{range_with_len, flat_map}
use Rattle.std.proofs.lemmas.List.{append_assoc, append-nil}
use Rattle.std.proofs.lemmas.List.Concat.{flat_map-append}
use Rattle.std.proofs.lemmas.Nat.{mul-le}
use Rattle.std.proofs.Math.Nat.{pow-zero, one-le-pow}
use Rattle.merkle_cover.specs.Shape.{places_at}
use Rattle.merkle_cover.specs.Covers.{has_chosen}
use Rattle.merkle_cover.specs.Folding.{SplitsAt, CanWalk, CanFold}
use Rattle.merkle_cover.proofs.ShapeLemmas.{mul-lt-div_ceil, pow-div, places_at-ceil, places_at-lt-mul, range_with_len-push}
use Rattle.merkle_cover.proofs.FoldLemmas.{has_chosen-next, has_chosen-past, SplitsAt-past, SplitsAt-leaf, SplitsAt-children, CanWalk-room, CanWalk-wide, rising-index}

-- ---- levels

pub above-leaves : (k : ℕ) → (k ≡ 0 → ⊥) → 1 ≤ k
above-leaves k ne = omega arith

pub level-up : (k : ℕ) → (k ≡ 0 → ⊥) → k ≡ suc (k - 1)
level-up k ne = omega arith

pub one-below : (k : ℕ) → k - 1 ≤ k
one-below k = omega arith

pub fan-divides : (f : ℕ) → 2 ≤ f → 0 < f
fan-divides f h = omega (arith, h)

-- ---- steps

-- the number of leaves below a child
pub child-room : (f k w : ℕ) → 0 < f → 0 < k → w ≡ f ^ k → w / f ≡ f ^ (k - 1)
child-room f k w h l e =
    let s : k ≡ suc (k - 1) = omega arith in
    ap (λ x. x / f) (e ∙ ap (λ x. f ^ x) s) ∙ pow-div f (k - 1) h

-- the end of the children
pub child-end : (n f j p b : ℕ) → 0 < f → b ≡ f ^ j → min (p * f + f) (div_ceil n b) ≡ min (p * f + f) (places_at n f j)
child-end n f j p b h e = ap (min (p * f + f)) (ap (div_ceil n) e ∙ sym (places_at-ceil n f j h))

module _ {n f : ℕ} {places : List ℕ} {k p w item : ℕ} (q : CanWalk n f places k p w item) where
  at : SplitsAt places (p * f ^ k) item
  at = subst (λ x. SplitsAt places (p * x) item) q.span q.items

  -- the fan-out divides the number of leaves
  pub walk-fan : 0 < f
  walk-fan = fan-divides f q.fan

  -- the position has leaves below it, and each number on the way fits its type
  pub walk-there : p < n
  walk-there = omega (arith, (CanWalk-room q).1, q.place)

  pub fits-place : Fits w32 p
  fits-place = omega (arith, walk-there, q.leaves)

  pub fits-behind : Fits w64 ((p + 1) * w)
  fits-behind = omega (arith, q.place, q.leaves, q.small)

  pub fits-first : Fits w64 (p * f)
  fits-first = omega (arith, mul-le p f (2 ^ 32 - 1) 32 (omega (arith, walk-there, q.leaves)) q.fan_max)

  pub fits-end : Fits w64 (p * f + f)
  fits-end = omega (arith, mul-le p f (2 ^ 32 - 1) 32 (omega (arith, walk-there, q.leaves)) q.fan_max, q.fan_max)

  pub fits-item : item < length places → Fits w32 item
  fits-item l = omega (arith, rising-index n places q.rising item l, q.rising.below item l, q.leaves)

  pub fits-next-item : item < length places → Fits w64 (item + 1)
  fits-next-item l = omega (arith, rising-index n places q.rising item l, q.rising.below item l, q.leaves)

  -- the number of leaves below a child is that of its level
  pub walk-room : (k ≡ 0 → ⊥) → w / f ≡ f ^ (k - 1)
  walk-room ne = child-room f k w walk-fan (above-leaves k ne) q.span

  -- the end of the children
  pub walk-end : (k ≡ 0 → ⊥) → min (p * f + f) (div_ceil n (w / f)) ≡ min (p * f + f) (places_at n f (k - 1))
  walk-end ne = child-end n f (k - 1) p (w / f) walk-fan (walk-room ne)

  pub room-above : (k ≡ 0 → ⊥) → 0 < w / f
  room-above ne = omega (arith, walk-room ne, one-le-pow (k - 1) f walk-fan)

  pub walk-none : (item < length places → (p + 1) * w ≤ get_or places item 0) → has_chosen f places k p ≡ false
  walk-none past = has_chosen-past n f places k p item q.rising at (subst (λ x. item < length places → (p + 1) * x ≤ get_or places item 0) q.span past)

  pub walk-some : item < length places → get_or places item 0 < (p + 1) * w → has_chosen f places k p ≡ true
  walk-some l b = has_chosen-next n f places k p item at l (subst (λ x. get_or places item 0 < (p + 1) * x) q.span b)

  pub walk-past : (item < length places → (p + 1) * w ≤ get_or places item 0) → SplitsAt places ((p + 1) * w) item
  walk-past past = SplitsAt-past n places (p * w) ((p + 1) * w) item q.rising q.items (omega arith) past

  -- before the first child
  pub walk-first : (j b : ℕ) → k ≡ suc j → b ≡ f ^ j → SplitsAt places ((p * f) * b) item
  walk-first j b e eb =
      let wide = CanWalk-wide q j b e eb in
      subst (λ x. SplitsAt places x item) (let same : p * w ≡ (p * f) * b = ap (λ x. p * x) wide ∙ omega arith in same) q.items

  -- there is a child
  pub walk-child : (j b : ℕ) → k ≡ suc j → b ≡ f ^ j → p * f < places_at n f j
  walk-child j b e eb =
      let wide = CanWalk-wide q j b e eb in
      places_at-lt-mul n f j (p * f) (omega (arith, q.fan)) (omega (arith, q.place, ap (λ x. p * x) wide, ap (λ x. (p * f) * x) eb))

  -- after the last child
  pub walk-behind : (j b end item' : ℕ) → k ≡ suc j → b ≡ f ^ j → end ≡ min (p * f + f) (places_at n f j) → SplitsAt places (end * b) item' → SplitsAt places ((p + 1) * w) item'
  walk-behind j b end item' e eb ee s =
      let s1 : SplitsAt places (end * f ^ j) item' = subst (λ x. SplitsAt places (end * x) item') eb s in
      let s2 : SplitsAt places ((p + 1) * f ^ suc j) item' = SplitsAt-children n f places j p item' end (omega (arith, q.fan)) q.rising ee s1 in
      subst (λ x. SplitsAt places ((p + 1) * x) item') (let room : f ^ suc j ≡ w = sym (q.span ∙ ap (λ x. f ^ x) e) in room) s2

  -- after a chosen leaf
  pub walk-leaf : k ≡ 0 → item < length places → get_or places item 0 < (p + 1) * w → SplitsAt places ((p + 1) * w) (item + 1)
  walk-leaf z l b =
      let one : w ≡ 1 = q.span ∙ ap (λ x. f ^ x) z ∙ pow-zero f in
      let at1 : SplitsAt places (p * 1) item = subst (λ x. SplitsAt places (p * x) item) one q.items in
      let at' : SplitsAt places p item = subst (λ x. SplitsAt places x item) (let m : p * 1 ≡ p = omega arith in m) at1 in
      let b1 : get_or places item 0 < (p + 1) * 1 = subst (λ x. get_or places item 0 < (p + 1) * x) one b in
      subst (λ x. SplitsAt places x (item + 1)) (let m : p + 1 ≡ (p + 1) * w = rw one (omega arith) in m) (SplitsAt-leaf n places p item q.rising at' l (omega (arith, b1)))

module _ {n f : ℕ} {places : List ℕ} {given : List (List ℕ)} {k p w item start : ℕ} (q : CanFold n f places given k p w item start) where
  -- a digest or a text is left to take, and the next position fits its type
  pub fits-taken : Fits w64 (start + 1)
  fits-taken = omega (arith, q.taken, q.walk.place, q.walk.leaves)

  pub given-there : item < length places → item < length given
  given-there l = omega (arith, l, q.texts)

-- the part of a list that one more child gives
pub flat_map-child : {X : Type 0} (g : ℕ → List X) (first child : ℕ) (before now : List X) → first ≤ child → now ≡ before ++ flat_map g (range_with_len first (child - first)) → now ++ g child ≡ before ++ flat_map g (range_with_len first (child + 1 - first))
flat_map-child g first child before now l e =
    let m = child - first in
    let count : m + 1 ≡ child + 1 - first = omega arith in
    let here : child ≡ first + m = omega arith in
    let more : flat_map g (range_with_len first (m + 1)) ≡ flat_map g (range_with_len first m) ++ g (first + m) =
    ap (flat_map g) (range_with_len-push first m) ∙ flat_map-append g (range_with_len first m) ((first + m) ∷ []) ∙ ap (λ x. flat_map g (range_with_len first m) ++ x) (append-nil (g (first + m))) in
    ap (λ x. x ++ g child) e ∙ append_assoc before (flat_map g (range_with_len first m)) (g child)
    ∙ ap (λ x. before ++ (flat_map g (range_with_len first m) ++ x)) (ap g here)
    ∙ ap (λ x. before ++ x) (sym more ∙ ap (λ i. flat_map g (range_with_len first i)) count)

-- a position above the leaves has a child
pub child-there : (n f j k p : ℕ) → 0 < f → k ≡ suc j → p < places_at n f k → p * f < places_at n f j
unfolding places_at
child-there n f j k p h e l =
    let l' : p < places_at n f (suc j) = subst (λ x. p < places_at n f x) e l in
    mul-lt-div_ceil p (places_at n f j) f h l'
