-- Rows of lengths, with one more length at each step.
use Rattle.std.proofs.Common.{◌≡◌, ℕ, zero, suc, ◌+◌, ◌≤◌, ◌<◌, Option, None, Some, List, [], ◌∷◌, ◌++◌, refl, arith, ap, sym, ◌∙◌, map, length, take, take_all, slice_get, get_or}
use Rattle.std.proofs.lemmas.List.{take_more, map-append, length-map}
use Rattle.std.proofs.lemmas.Grind.{take_at_read}
use Rattle.std.proofs.lemmas.Option.{slice_get_within, get_or_from_slice_get}
use Rattle.road_map.specs.declared.parts.Node.{Node}
use Rattle.road_map.specs.Walks.{ids}
use Rattle.road_map.proofs.Among.{place_map}

pub map_same : {X Y : Type 0} (f g : X → Y) (xs : List X) → ((x : X) → f x ≡ g x) → map f xs ≡ map g xs
map_same f g [] same = refl
map_same f g (x ∷ xs) same = ap (λ y. y ∷ map f xs) (same x) ∙ ap (λ ys. g x ∷ ys) (map_same f g xs same)

abbrev pub nones : List ℕ → List (Option ℕ)
nones xs = map (λ _. None) xs

pub none_more : (xs : List ℕ) (k : ℕ) (old new : List (Option ℕ)) → k < length xs → old ≡ nones (take k xs) → new ≡ old ++ None ∷ [] → new ≡ nones (take (k + 1) xs)
none_more xs k old new lt is grown =
    let here : nones (take (k + 1) xs) ≡ nones (take k xs) ++ None ∷ [] = ap nones (take_more xs k 0 lt) ∙ map-append (λ _. None) (take k xs) (get_or xs k 0 ∷ []) in
    grown ∙ ap (λ (l : List (Option ℕ)). l ++ None ∷ []) is ∙ sym here

-- one more length, to the node at the next position
next_length : (f g : ℕ → Option ℕ) (order : List Node) (k : ℕ) → ((p : ℕ) (n : Node) → slice_get order p ≡ Some n → g p ≡ f n.id) → k < length order → map f (take (suc k) (ids order)) ≡ map f (take k (ids order)) ++ g k ∷ []
next_length f g [] k gives lt = absurd (omega (arith, lt))
next_length f g (n ∷ ns) zero gives lt = ap (λ d. d ∷ []) (sym (gives zero n refl))
next_length f g (n ∷ ns) (suc k) gives lt = ap (λ ds. f n.id ∷ ds) (next_length f (λ p. g (suc p)) ns k (λ p m at. gives (suc p) m at) (omega (arith, lt)))

pub length_more : (f g : ℕ → Option ℕ) (order : List Node) (k : ℕ) (old new : List (Option ℕ)) → ((p : ℕ) (n : Node) → slice_get order p ≡ Some n → g p ≡ f n.id) → k < length order → old ≡ map f (take k (ids order)) → new ≡ old ++ g k ∷ [] → new ≡ map f (take (k + 1) (ids order))
length_more f g order k old new gives lt is pushed =
    let next : suc k ≡ k + 1 = omega arith in
    pushed ∙ (ap (λ ds. ds ++ g k ∷ []) is ∙ (sym (next_length f g order k gives lt) ∙ ap (λ j. map f (take j (ids order))) next))

pub all_lengths : (f : ℕ → Option ℕ) (order : List Node) (k : ℕ) (found : List (Option ℕ)) → found ≡ map f (take k (ids order)) → length order ≤ k → found ≡ map f (ids order)
all_lengths f order k found is ends = is ∙ ap (map f) (take_all k (ids order) (omega (arith, length-map order (λ (n : Node). n.id), ends)))

-- the values made from one more item
pub map_more : {X Y : Type 0} (f : X → Y) (xs : List X) (k : ℕ) (x : X) (old new : List Y) → k < length xs → x ≡ get_or xs k x → old ≡ map f (take k xs) → new ≡ old ++ f x ∷ [] → new ≡ map f (take (k + 1) xs)
map_more f xs k x old new lt at is grown =
    let here : map f (take (k + 1) xs) ≡ map f (take k xs) ++ f (get_or xs k x) ∷ [] = ap (map f) (take_more xs k x lt) ∙ map-append f (take k xs) (get_or xs k x ∷ []) in
    grown ∙ ap (λ ys. ys ++ f x ∷ []) is ∙ ap (λ y. map f (take k xs) ++ f y ∷ []) at ∙ sym here
