-- The least and the greatest coordinates, and the parts of a range.
use Rattle.std.proofs.Common.{◌≡◌, ℕ, zero, suc, ◌+◌, ◌*◌, ◌/◌, ◌<◌, ◌≤◌, Bool, true, false, cond, List, [], ◌∷◌, ℤ, pos, ◌-ℤ◌, ◌≤ℤ◌, refl, arith, ap, sym, ◌∙◌, subst, map, length, get_or, take, take_all, SFits, w32, w64, to_z, of_z}
use Rattle.std.specs.List.{All, fold}
use Rattle.std.specs.Prelude.{int_lt, unsigned_abs}
use Rattle.std.specs.Int.{int_min, int_max}
use Rattle.std.proofs.lemmas.Int.{to_z-of_z, ints, fold-int_min_bounds, fold-int_max_bounds}
use Rattle.std.proofs.lemmas.List.Sums.{fold_more}
use Rattle.std.proofs.lemmas.List.Folds.{fold-map}
use Rattle.std.proofs.lemmas.List.{length-map}
use Rattle.std.proofs.Math.ListN.{get_or-map}
use Rattle.std.proofs.Math.Nat.{div-lt_iff_lt-mul, mul-le-mul_left}
use Rattle.road_map.specs.declared.parts.Node.{Node}
use Rattle.book_model.specs.Orders.{int_least, int_greatest, frame_of}
use Rattle.book_model.specs.Frames.{IsFrame, InFrame}
use Rattle.book_model.specs.declared.frame.Frame.{Frame}

-- the step of a loop
pub fold_step : (h : ℤ → Node → ℤ) (start : ℤ) (xs : List Node) (i : ℕ) (d : Node) (z next : ℤ) → i < length xs → z ≡ fold h start (take i xs) → next ≡ h z (get_or xs i d) → next ≡ fold h start (take (i + 1) xs)
fold_step h start xs i d z next lt is step = step ∙ (ap (λ t. h t (get_or xs i d)) is ∙ sym (fold_more h start xs i d lt))

either : (b : Bool) (z : ℤ) → cond b z z ≡ z
either true z = refl
either false z = refl

pub least_all : (coordinate : Node → ℤ) (xs : List Node) (i : ℕ) (d : Node) (start z : ℤ) → 0 < length xs → length xs ≤ i → start ≡ coordinate (get_or xs 0 d) → z ≡ fold (λ low n. int_min low (coordinate n)) start (take i xs) → z ≡ int_least (map coordinate xs)
least_all coordinate [] i d start z some all first is = absurd (omega (arith, some))
least_all coordinate (x ∷ xs) i d start z some all first is =
    is
    ∙ (ap (fold (λ low n. int_min low (coordinate n)) start) (take_all i (x ∷ xs) all)
    ∙ (ap (λ s. fold (λ low n. int_min low (coordinate n)) s (x ∷ xs)) first
    ∙ (sym (fold-map int_min coordinate (int_min (coordinate x) (coordinate x)) xs)
    ∙ ap (λ s. fold int_min s (map coordinate xs)) (either (int_lt (coordinate x) (coordinate x)) (coordinate x)))))

pub greatest_all : (coordinate : Node → ℤ) (xs : List Node) (i : ℕ) (d : Node) (start z : ℤ) → 0 < length xs → length xs ≤ i → start ≡ coordinate (get_or xs 0 d) → z ≡ fold (λ high n. int_max high (coordinate n)) start (take i xs) → z ≡ int_greatest (map coordinate xs)
greatest_all coordinate [] i d start z some all first is = absurd (omega (arith, some))
greatest_all coordinate (x ∷ xs) i d start z some all first is =
    is
    ∙ (ap (fold (λ high n. int_max high (coordinate n)) start) (take_all i (x ∷ xs) all)
    ∙ (ap (λ s. fold (λ high n. int_max high (coordinate n)) s (x ∷ xs)) first
    ∙ (sym (fold-map int_max coordinate (int_max (coordinate x) (coordinate x)) xs)
    ∙ ap (λ s. fold int_max s (map coordinate xs)) (either (int_lt (coordinate x) (coordinate x)) (coordinate x)))))

pub share_below : (offset span parts : ℕ) → 0 < parts → offset ≤ span → offset * parts / (span + 1) < parts
share_below offset span parts some le =
    let more : parts * offset ≤ parts * span = mul-le-mul_left parts le in
    let here : 0 < span + 1 = omega arith in
    (div-lt_iff_lt-mul here).1 (omega (arith, more))

pub abs_le : (low z high : ℤ) → low ≤ℤ z → z ≤ℤ high → unsigned_abs (z -ℤ low) ≤ unsigned_abs (high -ℤ low)
abs_le low z high le ge = grind (arith, ints)

-- the arguments have the intended meaning
pub passed : (low z : ℤ) (n : ℕ) → SFits w32 low → SFits w32 z → n ≡ unsigned_abs (to_z w32 (of_z w32 z) -ℤ to_z w32 (of_z w32 low)) → n ≡ unsigned_abs (z -ℤ low)
passed low z n a b is = is ∙ (ap (λ t. unsigned_abs (t -ℤ to_z w32 (of_z w32 low))) (to_z-of_z w32 z b) ∙ ap (λ t. unsigned_abs (z -ℤ t)) (to_z-of_z w32 low a))

-- no coordinate is below the least or above the greatest
pub above_least : (coordinate : Node → ℤ) (xs : List Node) (k : ℕ) (d : Node) → k < length xs → int_least (map coordinate xs) ≤ℤ coordinate (get_or xs k d)
above_least coordinate [] k d lt = absurd (omega (arith, lt))
above_least coordinate (x ∷ xs) zero d lt = (fold-int_min_bounds (coordinate x) (map coordinate xs) _ refl).0
above_least coordinate (x ∷ xs) (suc k) d lt =
    let long : k < length (map coordinate xs) = omega (arith, lt, length-map xs coordinate) in
    subst (λ z. int_least (map coordinate (x ∷ xs)) ≤ℤ z) (get_or-map coordinate xs k d) ((fold-int_min_bounds (coordinate x) (map coordinate xs) _ refl).1 k (coordinate d) long)

pub below_greatest : (coordinate : Node → ℤ) (xs : List Node) (k : ℕ) (d : Node) → k < length xs → coordinate (get_or xs k d) ≤ℤ int_greatest (map coordinate xs)
below_greatest coordinate [] k d lt = absurd (omega (arith, lt))
below_greatest coordinate (x ∷ xs) zero d lt = (fold-int_max_bounds (coordinate x) (map coordinate xs) _ refl).0
below_greatest coordinate (x ∷ xs) (suc k) d lt =
    let long : k < length (map coordinate xs) = omega (arith, lt, length-map xs coordinate) in
    subst (λ z. z ≤ℤ int_greatest (map coordinate (x ∷ xs))) (get_or-map coordinate xs k d) ((fold-int_max_bounds (coordinate x) (map coordinate xs) _ refl).1 k (coordinate d) long)

pub all_in_frame : (xs : List Node) (frame : Frame) → IsFrame (frame_of xs) frame → All (InFrame frame) xs
all_in_frame xs frame is k d lt = record {
  left = subst (λ z. z ≤ℤ (get_or xs k d).x) (sym is.low_x) (above_least (λ n. n.x) xs k d lt);
  right = subst (λ z. (get_or xs k d).x ≤ℤ z) (sym is.high_x) (below_greatest (λ n. n.x) xs k d lt);
  below = subst (λ z. z ≤ℤ (get_or xs k d).y) (sym is.low_y) (above_least (λ n. n.y) xs k d lt);
  above = subst (λ z. (get_or xs k d).y ≤ℤ z) (sym is.high_y) (below_greatest (λ n. n.y) xs k d lt);
}
