-- The greatest difference of codes gives the greatest bound.
use Rattle.std.proofs.Common.{◌≡◌, ℕ, ◌+◌, ◌-◌, ◌*◌, ◌≤◌, ◌==◌, ◌||◌, max, Bool, true, false, cond, List, [], ◌∷◌, ◌⊎◌, inl, inr, refl, arith, mul-le-mul_left, mul-zero}
use Rattle.book_model.specs.Landmarks.{no_code}
use Rattle.book_model.specs.Bounds.{gap, greatest_bound}
use Rattle.method_judges.specs.Widest.{widest}

module _ (step e : ℕ) where
  -- the gap of a difference
  abbrev low : ℕ → ℕ
  low d = gap e d 0

  one_is_wider : (a b w : ℕ) → ((gap e a b ≤ low w) × (low (max ((a - b) + (b - a)) w) ≡ low w)) ⊎
      ((low w ≤ gap e a b) × (low (max ((a - b) + (b - a)) w) ≡ gap e a b))
  one_is_wider a b w = grind arith

  times : (m n k : ℕ) → ((m ≤ n) × (k ≡ n)) ⊎ ((n ≤ m) × (k ≡ m)) → step * k ≡ max (step * m) (step * n)
  times m n k (inl h) = let le : step * m ≤ step * n = mul-le-mul_left step h.0 in rw h.1 (omega (arith, le))
  times m n k (inr h) = let le : step * n ≤ step * m = mul-le-mul_left step h.0 in rw h.1 (omega (arith, le))

  further : (c : Bool) (a b w rest : ℕ) → step * low w ≡ rest →
      step * low (cond c w (max ((a - b) + (b - a)) w)) ≡ cond c rest (max (step * gap e a b) rest)
  further true a b w rest is = is
  further false a b w rest is = rw (← is) (times (gap e a b) (low w) (low (max ((a - b) + (b - a)) w)) (one_is_wider a b w))

  none : step * low 0 ≡ 0
  none = let no : low 0 ≡ 0 = omega arith in rw no (mul-zero step)

  pub bound_by_widest : (v t : List ℕ) → step * gap e (widest v t) 0 ≡ greatest_bound step e v t
  bound_by_widest [] t = none
  bound_by_widest (a ∷ v) [] = none
  bound_by_widest (a ∷ v) (b ∷ t) = further ((a == no_code) || (b == no_code)) a b (widest v t) (greatest_bound step e v t) (bound_by_widest v t)
