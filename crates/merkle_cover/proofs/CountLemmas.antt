-- The number of digests in a cover, and their length.
use Rattle.std.proofs.Common.{◌≡◌, ℕ, suc, zero, ◌+◌, ◌-◌, ◌*◌, ◌^◌, ◌<◌, ◌≤◌, min, true, false, List, [], ◌∷◌, ◌++◌, length, refl, arith, cond}
use Rattle.std.specs.Prelude.{All}
use Rattle.std.specs.List.{range_with_len, sum_by, flat_map, AllByRecursion}
use Rattle.std.proofs.lemmas.List.Elements.{All-from_recursion}
use Rattle.std.proofs.lemmas.List.Sums.{sum_by-cons}
use Rattle.std.proofs.lemmas.Nat.{mul-le}
use Rattle.std.proofs.Math.Nat.{pow-suc, pow-zero, one-le-pow, le_refl}
use Rattle.merkle_cover.specs.Shape.{places_at, children, top}
use Rattle.merkle_cover.specs.Trees.{digest, root}
use Rattle.merkle_cover.specs.Covers.{has_chosen, need, cover_below, cover_of}
use Rattle.merkle_cover.proofs.ShapeLemmas.{levels_above-before, mul-lt-places_at}
use Rattle.merkle_cover.proofs.CoverLemmas.{length-cover_below}

-- a sum over a range whose terms are at most m
sum_by-most : (g : ℕ → ℕ) (a n m : ℕ) → ((x : ℕ) → g x ≤ m) → sum_by g (range_with_len a n) ≤ n * m
sum_by-most g a zero m h = omega arith
sum_by-most g a (suc n) m h =
    let one = h a in
    let more = sum_by-most g (a + 1) n m h in
    omega (arith, sum_by-cons g a (range_with_len (a + 1) n), one, more)

-- a position needs at most as many digests as leaves fit below it
pub need-most : (n f : ℕ) (chosen : List ℕ) (k p : ℕ) → 0 < f → need n f chosen k p ≤ f ^ k
unfolding need children
need-most n f chosen zero p pos =
    let one : f ^ zero ≡ 1 = pow-zero f in
    rw one (elim (has_chosen f chosen 0 p) as (λ b. cond b 0 1 ≤ 1) [ true ↦ omega arith | false ↦ omega arith ])
need-most n f chosen (suc k) p pos =
    let kids = min f (places_at n f k - p * f) in
    let all = sum_by-most (need n f chosen k) (p * f) kids (f ^ k) (λ x. need-most n f chosen k x pos) in
    let wide : kids * f ^ k ≤ f * f ^ k = mul-le kids (f ^ k) f (f ^ k) (omega arith) (le_refl (f ^ k)) in
    let one : 1 ≤ f ^ suc k = one-le-pow (suc k) f pos in
    let power : f ^ suc k ≡ f ^ k * f = pow-suc f k in
    elim (has_chosen f chosen (suc k) p) as (λ b. cond b (sum_by (need n f chosen k) (range_with_len (p * f) kids)) 1 ≤ f ^ suc k) [ true ↦ omega (arith, all, wide, power) | false ↦ one ]

-- fewer leaves fit below the top level's position than the number of leaves times the fan-out
top-room : (n f t : ℕ) → 2 ≤ f → 1 ≤ n → t ≡ top n f → f ^ t < n * f
unfolding top
top-room n f zero f2 n1 e =
    let one : f ^ zero ≡ 1 = pow-zero f in
    omega (arith, one, mul-le 1 2 n f n1 f2)
top-room n f (suc k) f2 n1 e =
    let many : 1 < places_at n f k = levels_above-before f n n k f2 (omega (arith, e)) in
    let here : 1 * f ^ k < n = mul-lt-places_at n f k 1 (omega arith) many in
    let power : f ^ suc k ≡ f ^ k * f = pow-suc f k in
    let wide : (f ^ k + 1) * f ≤ n * f = mul-le (f ^ k + 1) f n f (omega (arith, here)) (le_refl f) in
    omega (arith, power, wide)

pub length-cover_of : (hash : List ℕ → List ℕ) (texts : List (List ℕ)) (f : ℕ) (places : List ℕ) → 2 ≤ f → 1 ≤ length texts → length (cover_of hash texts f places) < length texts * f
length-cover_of hash texts f [] f2 n1 = omega (arith, mul-le 1 2 (length texts) f n1 f2)
length-cover_of hash texts f (c ∷ cs) f2 n1 =
    let count = length-cover_below (digest hash texts f) (length texts) f (c ∷ cs) (top (length texts) f) 0 in
    let most = need-most (length texts) f (c ∷ cs) (top (length texts) f) 0 (omega arith) in
    let room = top-room (length texts) f (top (length texts) f) f2 n1 refl in
    omega (arith, count, most, room)

-- ---- the lengths of digests

All32 : List (List ℕ) → Type 0
All32 = AllByRecursion (λ d. length d ≡ 32)

sizes-append : (xs ys : List (List ℕ)) → All32 xs → All32 ys → All32 (xs ++ ys)
unfolding All32
sizes-append [] ys a b = b
sizes-append (x ∷ xs) ys a b = (a.0, sizes-append xs ys a.1 b)

sizes-flat_map : (g : ℕ → List (List ℕ)) (xs : List ℕ) → ((x : ℕ) → All32 (g x)) → All32 (flat_map g xs)
unfolding All32
sizes-flat_map g [] h = tt
sizes-flat_map g (x ∷ xs) h = sizes-append (g x) (flat_map g xs) (h x) (sizes-flat_map g xs h)

size-digest : (hash : List ℕ → List ℕ) (texts : List (List ℕ)) (f k p : ℕ) → ((text : List ℕ) → length (hash text) ≡ 32) → length (digest hash texts f k p) ≡ 32
unfolding digest
size-digest hash texts f zero p size = size _
size-digest hash texts f (suc k) p size = size _

sizes-cover_below : (at : ℕ → ℕ → List ℕ) (n f : ℕ) (chosen : List ℕ) (k p : ℕ) → ((k p : ℕ) → length (at k p) ≡ 32) → All32 (cover_below at n f chosen k p)
unfolding cover_below All32
sizes-cover_below at n f chosen zero p size = elim (has_chosen f chosen 0 p) as (λ b. All32 (cond b [] (at 0 p ∷ []))) [ true ↦ tt | false ↦ (size 0 p, tt) ]
sizes-cover_below at n f chosen (suc k) p size =
    let below = sizes-flat_map (cover_below at n f chosen k) (children n f k p) (λ q. sizes-cover_below at n f chosen k q size) in
    elim (has_chosen f chosen (suc k) p) as (λ b. All32 (cond b (flat_map (cover_below at n f chosen k) (children n f k p)) (at (suc k) p ∷ []))) [ true ↦ below | false ↦ (size (suc k) p, tt) ]

pub sizes-cover_of : (hash : List ℕ → List ℕ) (texts : List (List ℕ)) (f : ℕ) (places : List ℕ) → ((text : List ℕ) → length (hash text) ≡ 32) → All (λ d. length d ≡ 32) (cover_of hash texts f places)
unfolding All32
sizes-cover_of hash texts f [] size = All-from_recursion (λ d. length d ≡ 32) [] tt
sizes-cover_of hash texts f (c ∷ cs) size =
    All-from_recursion (λ d. length d ≡ 32) (cover_of hash texts f (c ∷ cs)) (sizes-cover_below (digest hash texts f) (length texts) f (c ∷ cs) (top (length texts) f) 0 (λ k p. size-digest hash texts f k p size))

pub size-root : (hash : List ℕ → List ℕ) (texts : List (List ℕ)) (f : ℕ) → ((text : List ℕ) → length (hash text) ≡ 32) → length (root hash texts f) ≡ 32
unfolding root
size-root hash texts f size = size-digest hash texts f (top (length texts) f) 0 size
