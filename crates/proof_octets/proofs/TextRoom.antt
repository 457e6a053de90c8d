-- The texts of some leaves fit into one list.
use Rattle.std.proofs.Common.{◌≡◌, ◌+◌, ◌*◌, ◌++◌, ℕ, ◌^◌, ◌<◌, List, [], ◌∷◌, length, map, take, get_or, refl, ap, sym, ◌∙◌, arith}
use Rattle.std.specs.List.{flat_map}
use Rattle.std.proofs.lemmas.List.{length-append, length-map, length-take, map-append, take_more}
use Rattle.std.proofs.lemmas.List.Concat.{flat_map-cons}
use Rattle.std.proofs.lemmas.List.Folds.{length-flat_map-take}
use Rattle.merkle_cover.specs.Texts.{total_length, HasRoom}

total_length-map : {X : Type 0} (f : X → List ℕ) (xs : List X) → total_length (map f xs) ≡ length (flat_map f xs)
total_length-map f [] = refl
total_length-map f (x ∷ xs) = omega (arith, total_length-map f xs, ap length (flat_map-cons f x xs), length-append (f x) (flat_map f xs))

pub has_room : {X : Type 0} (f : X → List ℕ) (xs : List X) (i : ℕ) (d : X) (texts : List (List ℕ)) (text : List ℕ) → i < length xs → length xs + length (flat_map f xs) < 2 ^ 32
    → texts ≡ map f (take i xs) → text ≡ f (get_or xs i d) → HasRoom texts text
has_room f xs i d texts text lt few is same =
    let count : length (map f (take i xs)) ≡ length (take i xs) = simp length-map refl in
    record {
      count = omega (arith, ap length is, count, length-take i xs, lt, few);
      octets = omega (arith, ap total_length is, total_length-map f (take i xs), ap length same, length-flat_map-take f xs i d lt, few);
    }

-- the total number of octets of the texts, if each has this many
pub all_short : {X : Type 0} (f : X → List ℕ) (n : ℕ) → ((x : X) → length (f x) ≡ n) → (xs : List X) → length (flat_map f xs) ≡ n * length xs
all_short f n each [] = omega arith
all_short f n each (x ∷ xs) = omega (arith, all_short f n each xs, each x, ap length (flat_map-cons f x xs), length-append (f x) (flat_map f xs))

-- one more text
pub texts_more : {X : Type 0} (f : X → List ℕ) (xs : List X) (i : ℕ) (d : X) (old new : List (List ℕ)) (text : List ℕ) → i < length xs → old ≡ map f (take i xs) → new ≡ old ++ text ∷ [] → text ≡ f (get_or xs i d) → new ≡ map f (take (i + 1) xs)
texts_more f xs i d old new text lt is pushed same =
    pushed
    ∙ (ap (λ ts. ts ++ text ∷ []) is
    ∙ (ap (λ t. map f (take i xs) ++ t ∷ []) same ∙ sym (ap (map f) (take_more xs i d lt) ∙ map-append f (take i xs) (get_or xs i d ∷ []))))
