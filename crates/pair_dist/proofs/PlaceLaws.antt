-- Positions of ids, and the leaves of a row.
use Rattle.std.proofs.Common.{◌≡◌, ℕ, suc, ◌+◌, ◌<◌, Option, Some, List, [], ◌∷◌, ◌++◌, inl, inr, map, length, drop, drop-cons, slice_get, get_or, arith, ap, sym, ◌∙◌, subst}
use Rattle.std.proofs.lemmas.List.{append_assoc, length-append}
use Rattle.std.proofs.lemmas.Option.{slice_get-get_or, slice_get_within}
use Rattle.road_map.specs.declared.parts.Node.{Node}
use Rattle.road_leaf.specs.declared.pair.PairLeaf.{PairLeaf}
use Rattle.road_map.specs.Nets.{IsPlace}
use Rattle.road_map.proofs.NetLaws.{last_or_before}
use Rattle.book_model.specs.Pairs.{pair_leaf, said}
use Rattle.pair_dist.specs.Placing.{ArePlaces}

beyond : (xs : List ℕ) (p r : ℕ) → p ≡ length xs → slice_get xs p ≡ Some r → ⊥
beyond xs p r e h = let lt : p < length xs = slice_get_within xs p r h in omega (arith, lt, e)

-- the ids with one more
pub places-snoc : (order : List Node) (chosen places : List ℕ) (id p : ℕ) → ArePlaces order chosen places → IsPlace order id p → ArePlaces order (chosen ++ id ∷ []) (places ++ p ∷ [])
places-snoc order chosen places id p h at = record {
  long = (let a : length (chosen ++ id ∷ []) ≡ length chosen + 1 = length-append chosen (id ∷ []) in let b : length (places ++ p ∷ []) ≡ length places + 1 = length-append places (p ∷ []) in omega (arith, a, b, h.long));
  each = λ i id' p' x y. elim (last_or_before chosen id i id' x) [
    | inl s ↦ elim (last_or_before places p i p' y) [ inl t ↦ h.each i id' p' s t | inr t ↦ absurd (beyond chosen i id' (t.0 ∙ h.long) s) ]
    | inr s ↦ elim (last_or_before places p i p' y) [ inl t ↦ absurd (beyond places i p' (s.0 ∙ sym h.long) t) | inr t ↦ subst (λ k. IsPlace order k p') s.1 (subst (IsPlace order id) t.1 at) ]
  ];
}

-- the position of one of the ids
pub place_for : (order : List Node) (chosen places : List ℕ) (i d e : ℕ) → ArePlaces order chosen places → i < length chosen → IsPlace order (get_or chosen i d) (get_or places i e)
place_for order chosen places i d e h lt = h.each i (get_or chosen i d) (get_or places i e) (slice_get-get_or chosen i d lt) (slice_get-get_or places i e (omega (arith, lt, h.long)))

abbrev leaf_with : ℕ → ℕ → ℕ → PairLeaf
leaf_with a b d = record { a = a; b = b; distance = d }

-- the length that was found is the one in the leaf
pub leaf_found : (dist : ℕ → ℕ → Option ℕ) (found : ℕ → Option ℕ) (a b p d : ℕ) → found p ≡ dist a b → d ≡ said (found p) → leaf_with a b d ≡ pair_leaf dist a b
leaf_found dist found a b p d e is = ap (leaf_with a b) (is ∙ ap said e)

-- a position belongs to a node
pub place_within : (order : List Node) (chosen places : List ℕ) (i p : ℕ) → ArePlaces order chosen places → slice_get places i ≡ Some p → p < length order
place_within order chosen places i p h at =
    let lt : i < length places = slice_get_within places i p at in
    let is : IsPlace order (get_or chosen i 0) p = h.each i (get_or chosen i 0) p (slice_get-get_or chosen i 0 (omega (arith, lt, h.long))) at in
    slice_get_within order p is.0 is.1

-- one more leaf of a row
pub row_more : (f : ℕ → PairLeaf) (xs : List ℕ) (i : ℕ) (old new all : List PairLeaf) (leaf : PairLeaf) → i < length xs → leaf ≡ f (get_or xs i 0) → old ++ map f (drop i xs) ≡ all → new ≡ old ++ leaf ∷ [] → new ++ map f (drop (i + 1) xs) ≡ all
row_more f xs i old new all leaf lt is so_far pushed =
    let next : suc i ≡ i + 1 = omega arith in
    let cut : drop i xs ≡ get_or xs i 0 ∷ drop (i + 1) xs = subst (λ k. drop i xs ≡ get_or xs i 0 ∷ drop k xs) next (drop-cons xs i 0 lt) in
    let row : map f (drop i xs) ≡ leaf ∷ map f (drop (i + 1) xs) = ap (map f) cut ∙ ap (λ (l : PairLeaf). l ∷ map f (drop (i + 1) xs)) (sym is) in
    ap (λ (ys : List PairLeaf). ys ++ map f (drop (i + 1) xs)) pushed ∙ (append_assoc old (leaf ∷ []) (map f (drop (i + 1) xs)) ∙ (ap (λ (ys : List PairLeaf). old ++ ys) (sym row) ∙ so_far))
