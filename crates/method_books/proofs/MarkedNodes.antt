-- Marks of nodes by position.
use Rattle.std.proofs.Common.{◌≡◌, ℕ, ◌+◌, ◌<◌, ◌≤◌, Bool, false, Some, List, [], ◌∷◌, ◌++◌, arith, ap, sym, ◌∙◌, map, length, take, take_all, slice_get, get_or}
use Rattle.std.specs.Option.{unwrap_or}
use Rattle.std.proofs.lemmas.List.{take_more, map-append, length-map}
use Rattle.std.proofs.lemmas.Option.{slice_get_within, get_or_from_slice_get}
use Rattle.road_map.specs.declared.parts.Node.{Node}
use Rattle.road_map.specs.Walks.{ids}
use Rattle.road_map.proofs.Among.{place_map}

-- one more mark
pub one_marked : (p : ℕ → Bool) (order : List Node) (k : ℕ) (n : Node) (b : Bool) (before after : List Bool) → slice_get order k ≡ Some n → b ≡ p n.id → before ≡ map p (take k (ids order)) → after ≡ before ++ b ∷ [] → after ≡ map p (take (k + 1) (ids order))
one_marked p order k n b before after is told so_far pushed =
    let at : slice_get (ids order) k ≡ Some n.id = place_map (λ (n : Node). n.id) order k n is in
    let lt : k < length (ids order) = slice_get_within (ids order) k n.id at in
    let here : get_or (ids order) k 0 ≡ n.id = get_or_from_slice_get (ids order) k n.id 0 at in
    let more : map p (take (k + 1) (ids order)) ≡ map p (take k (ids order)) ++ p (get_or (ids order) k 0) ∷ [] = ap (map p) (take_more (ids order) k 0 lt) ∙ map-append p (take k (ids order)) (get_or (ids order) k 0 ∷ []) in
    pushed ∙ (ap (λ xs. xs ++ b ∷ []) so_far ∙ (ap (λ c. map p (take k (ids order)) ++ c ∷ []) (told ∙ ap p (sym here)) ∙ sym more))

pub all_marked : (p : ℕ → Bool) (order : List Node) (k : ℕ) (marks : List Bool) → marks ≡ map p (take k (ids order)) → length order ≤ k → marks ≡ map p (ids order)
all_marked p order k marks so_far ends = so_far ∙ ap (map p) (take_all k (ids order) (omega (arith, length-map order (λ (n : Node). n.id), ends)))

-- the mark at the position of a node
pub marked_at : (p : ℕ → Bool) (order : List Node) (marks : List Bool) (k : ℕ) (n : Node) → slice_get order k ≡ Some n → marks ≡ map p (ids order) → unwrap_or (slice_get marks k) false ≡ p n.id
marked_at p order marks k n is all =
    let at : slice_get (ids order) k ≡ Some n.id = place_map (λ (n : Node). n.id) order k n is in
    ap (λ (xs : List Bool). unwrap_or (slice_get xs k) false) all ∙ ap (λ o. unwrap_or o false) (place_map p (ids order) k n.id at)
