-- The positions of a cover's digests.
use Rattle.std.proofs.Common.{◌≡◌, ℕ, suc, zero, ◌+◌, ◌-◌, ◌*◌, ◌^◌, ◌<◌, ◌≤◌, min, true, false, List, [], ◌∷◌, ◌++◌, map, length, slice_get, Some, None, refl, sym, ap, ◌∙◌, subst, arith, cond}
use Rattle.std.specs.List.{range_with_len, flat_map}
use Rattle.std.proofs.lemmas.List.{map-append}
use Rattle.std.proofs.lemmas.Nat.{mul-le}
use Rattle.std.proofs.Math.Nat.{pow-suc, le_refl}
use Rattle.merkle_cover.specs.Shape.{places_at, children, top}
use Rattle.merkle_cover.specs.Trees.{digest}
use Rattle.merkle_cover.specs.Covers.{has_chosen, cover_below, cover_of}
use Rattle.merkle_cover.specs.Spots.{spots_below, spots_of}
use Rattle.merkle_cover.specs.declared.spots.Spot.{Spot}
use Rattle.merkle_cover.proofs.ShapeLemmas.{mul-lt-places_at}
use Rattle.merkle_cover.proofs.LevelLemmas.{places_at-some}

pub spots_below-none : (n f : ℕ) (chosen : List ℕ) (k p : ℕ) → has_chosen f chosen k p ≡ false → spots_below n f chosen k p ≡ record { level = k; place = p } ∷ []
unfolding spots_below
spots_below-none n f chosen zero p h = rw h refl
spots_below-none n f chosen (suc k) p h = rw h refl

pub spots_below-leaf : (n f : ℕ) (chosen : List ℕ) (k p : ℕ) → k ≡ 0 → has_chosen f chosen k p ≡ true → spots_below n f chosen k p ≡ []
unfolding spots_below
spots_below-leaf n f chosen zero p e h = rw h refl
spots_below-leaf n f chosen (suc k) p e h = absurd (omega (arith, e))

pub spots_below-above : (n f : ℕ) (chosen : List ℕ) (j p : ℕ) → has_chosen f chosen (suc j) p ≡ true → spots_below n f chosen (suc j) p ≡ flat_map (spots_below n f chosen j) (children n f j p)
unfolding spots_below
spots_below-above n f chosen j p h = rw h refl

-- ---- a cover has the digests of its spots

map-flat_map : {X Y : Type 0} (h : X → Y) (g : ℕ → List X) (g' : ℕ → List Y) → ((p : ℕ) → map h (g p) ≡ g' p) → (ps : List ℕ) → map h (flat_map g ps) ≡ flat_map g' ps
map-flat_map h g g' e [] = refl
map-flat_map h g g' e (p ∷ ps) = map-append h (g p) (flat_map g ps) ∙ ap (λ l. l ++ map h (flat_map g ps)) (e p) ∙ ap (λ l. g' p ++ l) (map-flat_map h g g' e ps)

pub cover_below-spots : (at : ℕ → ℕ → List ℕ) (n f : ℕ) (chosen : List ℕ) (k p : ℕ) → map (λ (s : Spot). at s.level s.place) (spots_below n f chosen k p) ≡ cover_below at n f chosen k p
unfolding spots_below cover_below
cover_below-spots at n f chosen zero p =
    let h : Spot → List ℕ = λ s. at s.level s.place in
    elim (has_chosen f chosen 0 p) as (λ b. map h (cond b [] (record { level = 0; place = p } ∷ [])) ≡ cond b [] (at 0 p ∷ [])) [ true ↦ refl | false ↦ refl ]
cover_below-spots at n f chosen (suc k) p =
    let h : Spot → List ℕ = λ s. at s.level s.place in
    let kids = children n f k p in
    let same = map-flat_map h (spots_below n f chosen k) (cover_below at n f chosen k) (cover_below-spots at n f chosen k) kids in
    elim (has_chosen f chosen (suc k) p) as (λ b. map h (cond b (flat_map (spots_below n f chosen k) kids) (record { level = suc k; place = p } ∷ [])) ≡ cond b (flat_map (cover_below at n f chosen k) kids) (at (suc k) p ∷ [])) [ true ↦ same | false ↦ refl ]

pub cover_of-spots : (hash : List ℕ → List ℕ) (texts : List (List ℕ)) (f : ℕ) (places : List ℕ) → map (λ (s : Spot). digest hash texts f s.level s.place) (spots_of (length texts) f places) ≡ cover_of hash texts f places
cover_of-spots hash texts f [] = refl
cover_of-spots hash texts f (c ∷ cs) = cover_below-spots (digest hash texts f) (length texts) f (c ∷ cs) (top (length texts) f) 0

-- ---- spots are ordered from left to right

-- the spots from one leaf up to another; no position of them begins after the last of n leaves or is above the
-- given level
pub Ranged : ℕ → ℕ → ℕ → ℕ → ℕ → List Spot → Type 0
Ranged n f t a b [] = a ≤ b
Ranged n f t a b (s ∷ ss) = (a ≤ s.place * f ^ s.level) × (s.place * f ^ s.level < n) × (s.level ≤ t) × Ranged n f t ((s.place + 1) * f ^ s.level) b ss

Ranged-append : (n f t a b c : ℕ) (xs ys : List Spot) → Ranged n f t a b xs → Ranged n f t b c ys → Ranged n f t a c (xs ++ ys)
unfolding Ranged
Ranged-append n f t a b c [] [] h k = omega (arith, h, k)
Ranged-append n f t a b c [] (y ∷ ys) h k = (omega (arith, h, k.0), k.1, k.2, k.3)
Ranged-append n f t a b c (x ∷ xs) ys h k = (h.0, h.1, h.2, Ranged-append n f t ((x.place + 1) * f ^ x.level) b c xs ys h.3 k)

Ranged-wide : (n f t u a b c : ℕ) (xs : List Spot) → Ranged n f t a b xs → b ≤ c → t ≤ u → Ranged n f u a c xs
unfolding Ranged
Ranged-wide n f t u a b c [] h l m = omega (arith, h, l)
Ranged-wide n f t u a b c (x ∷ xs) h l m = (h.0, h.1, omega (arith, h.2, m), Ranged-wide n f t u ((x.place + 1) * f ^ x.level) b c xs h.3 l m)

Ranged-one : (n f k p : ℕ) → p * f ^ k < n → Ranged n f k (p * f ^ k) ((p + 1) * f ^ k) (record { level = k; place = p } ∷ [])
unfolding Ranged
Ranged-one n f k p l = (le_refl (p * f ^ k), l, le_refl k, le_refl ((p + 1) * f ^ k))

Ranged-none : (n f k p : ℕ) → Ranged n f k (p * f ^ k) ((p + 1) * f ^ k) []
unfolding Ranged
Ranged-none n f k p = omega arith

Ranged-range : (n f t w : ℕ) (g : ℕ → List Spot) (a c : ℕ) → ((q : ℕ) → a ≤ q → q < a + c → Ranged n f t (q * w) ((q + 1) * w) (g q)) → Ranged n f t (a * w) ((a + c) * w) (flat_map g (range_with_len a c))
unfolding Ranged
Ranged-range n f t w g a zero h = omega arith
Ranged-range n f t w g a (suc c) h =
    let here = h a (omega arith) (omega arith) in
    let rest = Ranged-range n f t w g (a + 1) c (λ q l m. h q (omega (arith, l)) (omega (arith, m))) in
    let end : (a + 1 + c) * w ≡ (a + suc c) * w = omega arith in
    Ranged-append n f t (a * w) ((a + 1) * w) ((a + suc c) * w) (g a) (flat_map g (range_with_len (a + 1) c)) here (subst (λ x. Ranged n f t ((a + 1) * w) x (flat_map g (range_with_len (a + 1) c))) end rest)

pub Ranged-spots_below : (n f : ℕ) (chosen : List ℕ) (k p : ℕ) → 0 < f → p < places_at n f k → Ranged n f k (p * f ^ k) ((p + 1) * f ^ k) (spots_below n f chosen k p)
unfolding spots_below children
Ranged-spots_below n f chosen zero p pos l =
    let there = mul-lt-places_at n f 0 p pos l in
    elim (has_chosen f chosen 0 p) as (λ b. Ranged n f 0 (p * f ^ 0) ((p + 1) * f ^ 0) (cond b [] (record { level = 0; place = p } ∷ []))) [ true ↦ Ranged-none n f 0 p | false ↦ Ranged-one n f 0 p there ]
Ranged-spots_below n f chosen (suc k) p pos l =
    let there = mul-lt-places_at n f (suc k) p pos l in
    let c = min f (places_at n f k - p * f) in
    let power : f ^ suc k ≡ f ^ k * f = pow-suc f k in
    let all = Ranged-range n f k (f ^ k) (spots_below n f chosen k) (p * f) c (λ q a m. Ranged-spots_below n f chosen k q pos (omega (arith, a, m))) in
    let wide : (p * f + c) * f ^ k ≤ (p + 1) * f ^ suc k = omega (arith, ap (λ x. (p + 1) * x) power, mul-le (p * f + c) (f ^ k) (p * f + f) (f ^ k) (omega arith) (le_refl (f ^ k))) in
    let first : (p * f) * f ^ k ≡ p * f ^ suc k = omega (arith, ap (λ x. p * x) power) in
    let whole = subst (λ x. Ranged n f (suc k) x ((p + 1) * f ^ suc k) (flat_map (spots_below n f chosen k) (range_with_len (p * f) c))) first (Ranged-wide n f k (suc k) ((p * f) * f ^ k) ((p * f + c) * f ^ k) ((p + 1) * f ^ suc k) (flat_map (spots_below n f chosen k) (range_with_len (p * f) c)) all wide (omega arith)) in
    elim (has_chosen f chosen (suc k) p) as (λ b. Ranged n f (suc k) (p * f ^ suc k) ((p + 1) * f ^ suc k) (cond b (flat_map (spots_below n f chosen k) (range_with_len (p * f) c)) (record { level = suc k; place = p } ∷ []))) [ true ↦ whole | false ↦ Ranged-one n f (suc k) p there ]

-- a spot's position exists, and is not above the top
pub Ranged-at : (n f t a b : ℕ) (ss : List Spot) → Ranged n f t a b ss → (i : ℕ) (s : Spot) → slice_get ss i ≡ Some s → (a ≤ s.place * f ^ s.level) × (s.place * f ^ s.level < n) × (s.level ≤ t)
unfolding Ranged
Ranged-at n f t a b [] h i s e = cc
Ranged-at n f t a b (x ∷ xs) h zero s e =
    let same : x ≡ s = cc in
    subst (λ (y : Spot). (a ≤ y.place * f ^ y.level) × (y.place * f ^ y.level < n) × (y.level ≤ t)) same (h.0, h.1, h.2)
Ranged-at n f t a b (x ∷ xs) h (suc i) s e =
    let rest = Ranged-at n f t ((x.place + 1) * f ^ x.level) b xs h.3 i s e in
    (omega (arith, rest.0, h.0), rest.1, rest.2)

-- the next spot begins at the end of the previous one, or after it
pub Ranged-next : (n f t a b : ℕ) (ss : List Spot) → Ranged n f t a b ss → (i : ℕ) (s s' : Spot) → slice_get ss i ≡ Some s → slice_get ss (i + 1) ≡ Some s' → (s.place + 1) * f ^ s.level ≤ s'.place * f ^ s'.level
unfolding Ranged
Ranged-next n f t a b [] h i s s' e e' = cc
Ranged-next n f t a b (x ∷ xs) h zero s s' e e' =
    let same : x ≡ s = cc in
    let next = (Ranged-at n f t ((x.place + 1) * f ^ x.level) b xs h.3 0 s' e').0 in
    subst (λ (y : Spot). (y.place + 1) * f ^ y.level ≤ s'.place * f ^ s'.level) same next
Ranged-next n f t a b (x ∷ xs) h (suc i) s s' e e' =
    Ranged-next n f t ((x.place + 1) * f ^ x.level) b xs h.3 i s s' e (let at : suc i + 1 ≡ suc (i + 1) = omega arith in let e'' : slice_get (x ∷ xs) (suc (i + 1)) ≡ Some s' = subst (λ j. slice_get (x ∷ xs) j ≡ Some s') at e' in e'')

pub Ranged-spots_of : (n f : ℕ) (places : List ℕ) → 0 < f → 1 ≤ n → (b : ℕ) × Ranged n f (top n f) 0 b (spots_of n f places)
unfolding Ranged
Ranged-spots_of n f [] pos some = (0, omega arith)
Ranged-spots_of n f (c ∷ cs) pos some =
    let all = Ranged-spots_below n f (c ∷ cs) (top n f) 0 pos (places_at-some n f (top n f) pos some) in
    let first : 0 * f ^ top n f ≡ 0 = omega arith in
    ((0 + 1) * f ^ top n f, subst (λ x. Ranged n f (top n f) x ((0 + 1) * f ^ top n f) (spots_below n f (c ∷ cs) (top n f) 0)) first all)
