-- The first number of a range that passes a test.
use Rattle.std.proofs.Common.{◌≡◌, ℕ, zero, suc, ◌+◌, ◌<◌, ◌≤◌, Bool, true, false, cond, None, Some, refl, sym, ap, subst, ⊎_elim, arith}
use Rattle.std.specs.List.{find, range_with_len}
use Rattle.std.proofs.lemmas.Bool.{cases_lt}

pub find_some : (p : ℕ → Bool) (a n i : ℕ) → a ≤ i → i < a + n → p i ≡ true → ((k : ℕ) → a ≤ k → k < i → p k ≡ false) → find p (range_with_len a n) ≡ Some i
find_some p a zero i low high here before = absurd (omega arith)
find_some p a (suc n) i low high here before =
    ⊎_elim
    (λ (lt : a < i).
    let fails : p a ≡ false = before a (omega arith) lt in
    rw fails (find_some p (a + 1) n i (omega arith) (omega arith) here (λ k le. before k (omega (arith, le)))))
    (λ (ge : i ≤ a).
    let same : a ≡ i = omega arith in
    let passes : p a ≡ true = subst (λ k. p k ≡ true) (sym same) here in
    rw passes (ap Some same))
    (cases_lt a i)

pub find_none : (p : ℕ → Bool) (a n : ℕ) → ((k : ℕ) → a ≤ k → k < a + n → p k ≡ false) → find p (range_with_len a n) ≡ None
find_none p a zero all = refl
find_none p a (suc n) all =
    let fails : p a ≡ false = all a (omega arith) (omega arith) in
    rw fails (find_none p (a + 1) n (λ k low high. all k (omega (arith, low)) (omega (arith, high))))

pub none_found : (p : ℕ → Bool) (a n : ℕ) → find p (range_with_len a n) ≡ None → (k : ℕ) → a ≤ k → k < a + n → p k ≡ false
none_found p a zero e k low high = absurd (omega arith)
none_found p a (suc n) e k low high = by_head (p a) refl e (none_found p (a + 1) n)
  where
    by_head : (b : Bool) → p a ≡ b → cond b (Some a) (find p (range_with_len (a + 1) n)) ≡ None → (find p (range_with_len (a + 1) n) ≡ None → (k : ℕ) → a + 1 ≤ k → k < a + 1 + n → p k ≡ false) → p k ≡ false
    by_head true is found later = cc
    by_head false is found later =
        ⊎_elim
        (λ (lt : a < k). later found k (omega arith) (omega arith))
        (λ (ge : k ≤ a). let same : a ≡ k = omega arith in subst (λ j. p j ≡ false) same is)
        (cases_lt a k)
