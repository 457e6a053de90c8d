-- Counting items with an id.
use Rattle.std.proofs.Common.{◌≡◌, ℕ, ◌+◌, ◌≤◌, ◌==◌, Bool, true, false, cond, Option, Some, List, [], ◌∷◌, ◌++◌, arith, ap, ◌∙◌, count_by}
use Rattle.std.specs.List.{find}
use Rattle.std.proofs.lemmas.List.Sums.{sum_by-append}

module _ {X : Type 0} (key : X → ℕ) where
  abbrev pub is_at : ℕ → X → Bool
  is_at id x = key x == id

  abbrev pub Twice : List X → ℕ → Type 0
  Twice xs id = 2 ≤ count_by (is_at id) xs

  count-append : (id : ℕ) (xs ys : List X) → count_by (is_at id) (xs ++ ys) ≡ count_by (is_at id) xs + count_by (is_at id) ys
  count-append id xs ys = sum_by-append (λ x. cond (is_at id x) 1 0) xs ys

  pub count-cons : (id : ℕ) (x : X) (xs : List X) → count_by (is_at id) (x ∷ xs) ≡ cond (is_at id x) 1 0 + count_by (is_at id) xs
  count-cons id x xs = count-append id (x ∷ []) xs ∙ ap (λ k. k + count_by (is_at id) xs) (omega arith)

  some_here : (b : Bool) (x n : X) (rest : Option X) (k : ℕ) → (rest ≡ Some n → 1 ≤ k) → cond b (Some x) rest ≡ Some n → 1 ≤ cond b 1 0 + k
  some_here true x n rest k deeper g = omega arith
  some_here false x n rest k deeper g = omega (arith, deeper g)

  pub find-count : (id : ℕ) (xs : List X) (n : X) → find (is_at id) xs ≡ Some n → 1 ≤ count_by (is_at id) xs
  find-count id [] n h = cc
  find-count id (x ∷ xs) n h = rw (count-cons id x xs) (some_here (is_at id x) x n (find (is_at id) xs) (count_by (is_at id) xs) (find-count id xs n) h)

  -- the count when one more item is added
  pub one_more : (id : ℕ) (xs : List X) (n : X) → count_by (is_at id) (xs ++ n ∷ []) ≡ count_by (is_at id) xs + cond (is_at id n) 1 0
  one_more id xs n = count-append id xs (n ∷ []) ∙ ap (λ k. count_by (is_at id) xs + k) (omega arith)
