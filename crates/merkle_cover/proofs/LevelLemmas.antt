-- The levels of a tree.
use Rattle.std.proofs.Common.{◌≡◌, ℕ, suc, zero, ◌+◌, ◌-◌, ◌*◌, ◌<◌, ◌≤◌, min, List, [], ◌∷◌, ◌++◌, length, get_or, take, drop, map, refl, sym, ap, ◌∙◌, subst, arith, inl, inr}
use Rattle.std.specs.Int.{div_ceil}
use Rattle.std.specs.List.{range_with_len, flat_map}
use Rattle.std.proofs.lemmas.Bool.{cases_eq}
use Rattle.std.proofs.lemmas.List.{same_lists, get_or-map, drop-map, length-map}
use Rattle.std.proofs.lemmas.List.Folds.{flat_map-map}
use Rattle.std.proofs.lemmas.List.FromFn.{take-map-range_with_len, map-range_with_len_more, get_or-map-range_with_len, length-map-range_with_len}
use Rattle.merkle_cover.specs.Shape.{places_at, children, top}
use Rattle.merkle_cover.specs.Trees.{digest, root, level, level_over, group_digest, tree_of, IsShaped}
use Rattle.merkle_cover.proofs.ShapeLemmas.{levels_above-last, levels_above-before, places_at-lt-mul}

-- the lowest level
pub level-leaves : (hash : List ℕ → List ℕ) (texts : List (List ℕ)) (f : ℕ) → map (λ (text : List ℕ). hash (0 ∷ text)) texts ≡ level hash texts f 0
unfolding level digest places_at
level-leaves hash texts f =
    let g : ℕ → List ℕ = λ p. hash (0 ∷ get_or texts p []) in
    let n = length texts in
    same_lists (map (λ (text : List ℕ). hash (0 ∷ text)) texts) (map g (range_with_len 0 n))
    (length-map texts (λ (text : List ℕ). hash (0 ∷ text)) ∙ sym (length-map-range_with_len g 0 n))
    (λ k d l.
    let l' : k < length texts = omega (arith, l, length-map texts (λ (text : List ℕ). hash (0 ∷ text))) in
    get_or-map (λ (text : List ℕ). hash (0 ∷ text)) texts k [] d l' ∙ sym (get_or-map-range_with_len g 0 n k k d l' (omega arith)))

drop-range : (a s m : ℕ) → drop a (range_with_len s m) ≡ range_with_len (s + a) (m - a)
drop-range zero s m =
    let e : s + 0 ≡ s = omega arith in
    let e' : m - 0 ≡ m = omega arith in
    sym (ap (λ x. range_with_len x (m - 0)) e ∙ ap (range_with_len s) e')
drop-range (suc a) s zero =
    let e : 0 - suc a ≡ 0 = omega arith in
    sym (ap (range_with_len (s + suc a)) e)
drop-range (suc a) s (suc m) =
    let e : (s + 1) + a ≡ s + suc a = omega arith in
    let e' : m - a ≡ suc m - suc a = omega arith in
    drop-range a (s + 1) m ∙ ap (λ x. range_with_len x (m - a)) e ∙ ap (range_with_len (s + suc a)) e'

-- a group of a level
group : (g : ℕ → List ℕ) (m a c : ℕ) → c ≤ m - a → flat_map (λ (d : List ℕ). d) (take c (drop a (map g (range_with_len 0 m)))) ≡ flat_map g (range_with_len a c)
group g m a c l =
    let e : 0 + a ≡ a = omega arith in
    ap (λ xs. flat_map (λ (d : List ℕ). d) (take c xs)) (drop-map g a (range_with_len 0 m) ∙ ap (map g) (drop-range a 0 m ∙ ap (λ x. range_with_len x (m - a)) e))
    ∙ ap (flat_map (λ (d : List ℕ). d)) (take-map-range_with_len g a (m - a) c l)
    ∙ flat_map-map (λ (d : List ℕ). d) g (range_with_len a c)

map-same : {X Y : Type 0} (f g : X → Y) (xs : List X) → ((x : X) → f x ≡ g x) → map f xs ≡ map g xs
map-same f g [] h = refl
map-same f g (x ∷ xs) h = ap (λ y. y ∷ map f xs) (h x) ∙ ap (λ ys. g x ∷ ys) (map-same f g xs h)

-- the next level
pub level_over-level : (hash : List ℕ → List ℕ) (texts : List (List ℕ)) (f k : ℕ) → level_over hash f (level hash texts f k) ≡ level hash texts f (suc k)
unfolding level level_over group_digest digest children places_at
level_over-level hash texts f k =
    let n = length texts in
    let m = places_at n f k in
    let g = digest hash texts f k in
    let ds = map g (range_with_len 0 m) in
    let len : length ds ≡ m = length-map-range_with_len g 0 m in
    map-same (λ (p : ℕ). hash (1 ∷ flat_map (λ (d : List ℕ). d) (take (min f (length ds - p * f)) (drop (p * f) ds)))) (digest hash texts f (suc k)) (range_with_len 0 (div_ceil (length ds) f))
    (λ p. ap (λ c. hash (1 ∷ flat_map (λ (d : List ℕ). d) (take (min f (c - p * f)) (drop (p * f) ds)))) len ∙ ap (λ l. hash (1 ∷ l)) (group g m (p * f) (min f (m - p * f)) (omega arith)))
    ∙ ap (λ c. map (digest hash texts f (suc k)) (range_with_len 0 (div_ceil c f))) len

pub length-level : (hash : List ℕ → List ℕ) (texts : List (List ℕ)) (f k : ℕ) → length (level hash texts f k) ≡ places_at (length texts) f k
unfolding level
length-level hash texts f k = length-map-range_with_len (digest hash texts f k) 0 (places_at (length texts) f k)

pub get_or-level : (hash : List ℕ → List ℕ) (texts : List (List ℕ)) (f k p : ℕ) (d : List ℕ) → p < places_at (length texts) f k → get_or (level hash texts f k) p d ≡ digest hash texts f k p
unfolding level
get_or-level hash texts f k p d l = get_or-map-range_with_len (digest hash texts f k) 0 (places_at (length texts) f k) p p d l (omega arith)

-- a level with one position is the top
pub top-single : (n f k : ℕ) → 2 ≤ f → k ≤ top n f → places_at n f k ≤ 1 → k ≡ top n f
unfolding top
top-single n f k h le l =
    elim (cases_eq k (top n f)) [
      | inl e ↦ e
      | inr ne ↦ absurd (let b : 1 < places_at n f k = levels_above-before f n n k h (omega (arith, ne, le)) in omega (arith, b, l))
    ]

-- a level with more positions is below the top
pub top-more : (n f k : ℕ) → 2 ≤ f → k ≤ top n f → 1 < places_at n f k → k + 1 ≤ top n f
unfolding top
top-more n f k h le l =
    elim (cases_eq k (top n f)) [
      | inl e ↦ absurd (let last : places_at n f (top n f) ≤ 1 = levels_above-last f n n h (omega arith) in let there : 1 < places_at n f (top n f) = subst (λ x. 1 < places_at n f x) e l in omega (arith, last, there))
      | inr ne ↦ omega (arith, ne, le)
    ]

-- the levels up to one
pub levels_to : (List ℕ → List ℕ) → List (List ℕ) → ℕ → ℕ → List (List (List ℕ))
levels_to hash texts f k = map (level hash texts f) (range_with_len 0 (k + 1))

pub levels_to-zero : (hash : List ℕ → List ℕ) (texts : List (List ℕ)) (f : ℕ) → levels_to hash texts f 0 ≡ level hash texts f 0 ∷ []
unfolding levels_to
levels_to-zero hash texts f = refl

pub levels_to-push : (hash : List ℕ → List ℕ) (texts : List (List ℕ)) (f k : ℕ) → levels_to hash texts f (k + 1) ≡ levels_to hash texts f k ++ level hash texts f (k + 1) ∷ []
unfolding levels_to
levels_to-push hash texts f k = map-range_with_len_more (level hash texts f) 0 (k + 1) (k + 1) (omega arith)

pub length-levels_to : (hash : List ℕ → List ℕ) (texts : List (List ℕ)) (f k : ℕ) → length (levels_to hash texts f k) ≡ k + 1
unfolding levels_to
length-levels_to hash texts f k = length-map-range_with_len (level hash texts f) 0 (k + 1)

pub get_or-levels_to : (hash : List ℕ → List ℕ) (texts : List (List ℕ)) (f k i : ℕ) (d : List (List ℕ)) → i < k + 1 → get_or (levels_to hash texts f k) i d ≡ level hash texts f i
unfolding levels_to
get_or-levels_to hash texts f k i d l = get_or-map-range_with_len (level hash texts f) 0 (k + 1) i i d l (omega arith)

pub levels-tree_of : (hash : List ℕ → List ℕ) (texts : List (List ℕ)) (f : ℕ) → (tree_of hash texts f).levels ≡ levels_to hash texts f (top (length texts) f)
unfolding tree_of levels_to
levels-tree_of hash texts f = refl

-- a tree over texts has the right lengths
pub IsShaped-levels_to : (hash : List ℕ → List ℕ) (texts : List (List ℕ)) (f k : ℕ) (levels : List (List (List ℕ))) → 2 ≤ f → f ≤ 32 → 1 ≤ length texts → length texts ≤ 2097152 → k ≡ top (length texts) f → levels ≡ levels_to hash texts f k → IsShaped f levels
unfolding places_at
IsShaped-levels_to hash texts f k levels f2 f32 n1 nm e el =
    let n = length texts in
    let first : length (get_or levels 0 []) ≡ n = ap (λ (l : List (List (List ℕ))). length (get_or l 0 [])) el ∙ ap (λ (l : List (List ℕ)). length l) (get_or-levels_to hash texts f k 0 [] (omega arith)) ∙ length-level hash texts f 0 in
    let count : length levels ≡ k + 1 = ap (λ (l : List (List (List ℕ))). length l) el ∙ length-levels_to hash texts f k in
    record {
      fan = f2;
      fan_max = f32;
      leaves = omega (arith, first, n1);
      leaves_max = omega (arith, first, nm);
      count = count ∙ ap (λ x. x + 1) (e ∙ ap (λ x. top x f) (sym first));
      sizes = λ i l. ap (λ (l : List (List (List ℕ))). length (get_or l i [])) el ∙ ap (λ (l : List (List ℕ)). length l) (get_or-levels_to hash texts f k i [] (omega (arith, l, count))) ∙ length-level hash texts f i ∙ ap (λ x. places_at x f i) (sym first);
    }

pub tree_of-is : (hash : List ℕ → List ℕ) (texts : List (List ℕ)) (f k : ℕ) (d : List ℕ) (levels : List (List (List ℕ))) → k ≡ top (length texts) f → levels ≡ levels_to hash texts f k → d ≡ digest hash texts f k 0 → record { fan = f; root = d; levels = levels } ≡ tree_of hash texts f
unfolding tree_of root levels_to
tree_of-is hash texts f k d levels e el ed =
    ap (λ (x : List ℕ). record { fan = f; root = x; levels = levels }) (ed ∙ ap (λ x. digest hash texts f x 0) e)
    ∙ ap (λ (l : List (List (List ℕ))). record { fan = f; root = digest hash texts f (top (length texts) f) 0; levels = l }) (el ∙ ap (levels_to hash texts f) e)

pub places_at-some : (n f k : ℕ) → 0 < f → 1 ≤ n → 0 < places_at n f k
places_at-some n f k h l = places_at-lt-mul n f k 0 h (omega (arith, l))

pub fan-tree_of : (hash : List ℕ → List ℕ) (texts : List (List ℕ)) (f : ℕ) → (tree_of hash texts f).fan ≡ f
unfolding tree_of
fan-tree_of hash texts f = refl
