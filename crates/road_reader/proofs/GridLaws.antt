-- Grids, one index at a time.
use Rattle.std.proofs.Common.{◌≡◌, ℕ, zero, suc, ◌+◌, ◌*◌, ◌/◌, ◌%◌, ◌<◌, ◌≤◌, pos, w32, to_z, List, [], ◌∷◌, ◌++◌, refl, arith, ap, sym, ◌∙◌, map, length, append_assoc, length-append}
use Rattle.std.specs.List.{flat_map, range_with_len}
use Rattle.std.proofs.lemmas.Grind.{flat_map-append}
use Rattle.std.proofs.lemmas.List.FromFn.{map-range_with_len_more}
use Rattle.std.proofs.lemmas.Int.{to_z_pos}
use Rattle.road_map.specs.declared.parts.Node.{Node}
use Rattle.road_map.specs.declared.parts.Road.{Road}
use Rattle.road_reader.specs.Grid.{grid_node, next_state, drawn, after_draws, right_of, below_of, ends_of, with_lengths}

map-id : (xs : List ℕ) → map (λ x. x) xs ≡ xs
map-id [] = refl
map-id (x ∷ xs) = ap (λ t. x ∷ t) (map-id xs)

range_more : (n : ℕ) → range_with_len 0 (n + 1) ≡ range_with_len 0 n ++ n ∷ []
range_more n = sym (map-id (range_with_len 0 (n + 1))) ∙ (map-range_with_len_more (λ x. x) 0 n n (omega arith) ∙ ap (λ t. t ++ n ∷ []) (map-id (range_with_len 0 n)))

append-none : {X : Type 0} (xs : List X) → xs ++ [] ≡ xs
append-none [] = refl
append-none (x ∷ xs) = ap (λ t. x ∷ t) (append-none xs)

one_more : {X : Type 0} (f : ℕ → List X) (n : ℕ) → flat_map f (range_with_len 0 (n + 1)) ≡ flat_map f (range_with_len 0 n) ++ f n
one_more f n = ap (flat_map f) (range_more n) ∙ (flat_map-append f (range_with_len 0 n) (n ∷ []) ∙ ap (λ t. flat_map f (range_with_len 0 n) ++ t) (append-none (f n)))

after-after : (s m n : ℕ) → after_draws (after_draws s m) n ≡ after_draws s (m + n)
after-after s zero n = let e : n ≡ 0 + n = omega arith in ap (after_draws s) e
after-after s (suc m) n = after-after (next_state s) m n ∙ (let e : suc m + n ≡ suc (m + n) = omega arith in ap (after_draws s) (sym e))

lengths-append : (s : ℕ) (xs ys : List (ℕ × ℕ)) → with_lengths s (xs ++ ys) ≡ with_lengths s xs ++ with_lengths (after_draws s (length xs)) ys
lengths-append s [] ys = refl
lengths-append s (x ∷ xs) ys = ap (λ (t : List Road). record { a = x.0; b = x.1; length = 1 + drawn (next_state s) % 1000 } ∷ t) (lengths-append (next_state s) xs ys)

-- the ends that an index adds
module _ (s width index : ℕ) where
  so_far : List (ℕ × ℕ)
  so_far = flat_map (ends_of width) (range_with_len 0 index)

  pub draws_more : (before middle after : ℕ) → before ≡ after_draws s (length (flat_map (ends_of width) (range_with_len 0 index))) → middle ≡ after_draws before (length (right_of width index)) → after ≡ after_draws middle (length (below_of width index)) → after ≡ after_draws s (length (flat_map (ends_of width) (range_with_len 0 (index + 1))))
  unfolding so_far
  draws_more before middle after is first second =
      second
      ∙ (ap (λ t. after_draws t (length (below_of width index))) (first ∙ (ap (λ t. after_draws t (length (right_of width index))) is ∙ after-after s (length so_far) (length (right_of width index))))
      ∙ (after-after s (length so_far + length (right_of width index)) (length (below_of width index))
      ∙ ap (after_draws s) (count ∙ ap length (sym (one_more (ends_of width) index)))))
    where
      count : length so_far + length (right_of width index) + length (below_of width index) ≡ length (so_far ++ ends_of width index)
      count = omega (arith, length-append so_far (ends_of width index), length-append (right_of width index) (below_of width index))

  pub roads_more : (before middle after : List Road) (start between : ℕ) → start ≡ after_draws s (length (flat_map (ends_of width) (range_with_len 0 index))) → between ≡ after_draws start (length (right_of width index)) → before ≡ with_lengths s (flat_map (ends_of width) (range_with_len 0 index)) → middle ≡ before ++ with_lengths start (right_of width index) → after ≡ middle ++ with_lengths between (below_of width index) → after ≡ with_lengths s (flat_map (ends_of width) (range_with_len 0 (index + 1)))
  unfolding so_far
  roads_more before middle after start between start_is between_is is first second =
      second
      ∙ (ap (λ t. t ++ with_lengths between (below_of width index)) first
      ∙ (append_assoc before (with_lengths start (right_of width index)) (with_lengths between (below_of width index))
      ∙ (ap (λ t. before ++ (with_lengths start (right_of width index) ++ with_lengths t (below_of width index))) between_is
      ∙ (ap (λ t. before ++ t) (sym (lengths-append start (right_of width index) (below_of width index)))
      ∙ (ap (λ t. t ++ with_lengths start (ends_of width index)) is
      ∙ (ap (λ t. with_lengths s so_far ++ with_lengths t (ends_of width index)) start_is
      ∙ (sym (lengths-append s so_far (ends_of width index)) ∙ ap (with_lengths s) (sym (one_more (ends_of width) index)))))))))

-- one more node
pub nodes_more : (width index : ℕ) (before after : List Node) → 0 < width → width ≤ 256 → index < 65536 → before ≡ map (grid_node width) (range_with_len 0 index) → after ≡ before ++ record { id = index + 1; x = to_z w32 (index % width); y = to_z w32 (index / width) } ∷ [] → after ≡ map (grid_node width) (range_with_len 0 (index + 1))
nodes_more width index before after some narrow few is pushed =
    let column : index % width < 2147483648 = omega arith in
    let row : index / width < 2147483648 = omega arith in
    pushed
    ∙ (ap (λ t. t ++ record { id = index + 1; x = to_z w32 (index % width); y = to_z w32 (index / width) } ∷ []) is
    ∙ (ap (λ x. map (grid_node width) (range_with_len 0 index) ++ record { id = index + 1; x = x; y = to_z w32 (index / width) } ∷ []) (to_z_pos w32 (index % width) column)
    ∙ (ap (λ y. map (grid_node width) (range_with_len 0 index) ++ record { id = index + 1; x = pos (index % width); y = y } ∷ []) (to_z_pos w32 (index / width) row)
    ∙ sym (map-range_with_len_more (grid_node width) 0 index index (omega arith)))))

pub square_small : (width : ℕ) → width ≤ 256 → width * width ≤ 65536
square_small width le = grind arith
