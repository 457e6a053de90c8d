-- The facts about an image that remain if it changes only within a range.
use Rattle.std.proofs.Common.{◌≡◌, ◌⊎◌, ℕ, ◌+◌, ◌<◌, ◌≤◌, min, List, length, get_or, take, drop, arith, inl, inr, sym, ◌∙◌, ap, length-drop, length-take}
use Rattle.std.proofs.lemmas.List.{ext_get_or, get_or-take, get_or-drop}
use Rattle.desk_areas.specs.Layout.{gate_at, text_at, kind_at, AgreesOutside}

-- two ranges do not overlap
abbrev pub Apart : ℕ → ℕ → ℕ → ℕ → Type 0
Apart at end from to = (end ≤ from) ⊎ (to ≤ at)

range_same : (i d : List ℕ) (a n : ℕ) → length i ≡ length d → ((k : ℕ) → k < n → get_or i (a + k) 0 ≡ get_or d (a + k) 0) → take n (drop a i) ≡ take n (drop a d)
range_same i d a n long same = ext_get_or 0 _ _ (omega (arith, length-take n (drop a i), length-take n (drop a d), length-drop a i, length-drop a d))
    (λ k lt. let below : k < n = omega (arith, lt, length-take n (drop a i)) in get_or-take n (drop a i) k 0 below ∙ get_or-drop a i k 0 ∙ same k below ∙ sym (get_or-drop a d k 0) ∙ sym (get_or-take n (drop a d) k 0 below))

module _ (from to : ℕ) (d i : List ℕ) (outside : AgreesOutside from to d i) where
  pub back : AgreesOutside from to i d
  back = record { long = sym outside.long; same = λ k h. sym (outside.same k h) }

  pub range_apart : (a n : ℕ) → Apart a (a + n) from to → take n (drop a i) ≡ take n (drop a d)
  range_apart a n apart = range_same i d a n outside.long (λ k lt. outside.same (a + k) (elim apart [
    | inl before ↦ inl (omega arith)
    | inr after ↦ inr (omega arith)
  ]))

  pub text_apart : (p : ℕ) → Apart p (p + 128) from to → text_at i p ≡ text_at d p
  text_apart p apart =
      let len : get_or i (p + 1) 0 ≡ get_or d (p + 1) 0 = outside.same (p + 1) (elim apart [ inl before ↦ inl (omega arith) | inr after ↦ inr (omega arith) ]) in
      let n = min (get_or d (p + 1) 0) 126 in
      ap (λ (l : ℕ). take (min l 126) (drop (p + 2) i)) len ∙ range_apart (p + 2) n (elim apart [ inl before ↦ inl (omega arith) | inr after ↦ inr (omega arith) ])

  pub gate_apart : (p : ℕ) → Apart p (p + 1) from to → gate_at i p ≡ gate_at d p
  gate_apart p apart = outside.same p (elim apart [ inl before ↦ inl (omega arith) | inr after ↦ inr (omega arith) ])

  pub kind_kept : (base : ℕ) → Apart base (base + 64) from to → kind_at i base ≡ kind_at d base
  kind_kept base apart =
      let a : get_or i (base + 1) 0 ≡ get_or d (base + 1) 0 = outside.same (base + 1) (elim apart [ inl before ↦ inl (omega arith) | inr after ↦ inr (omega arith) ]) in
      let b : get_or i (base + 2) 0 ≡ get_or d (base + 2) 0 = outside.same (base + 2) (elim apart [ inl before ↦ inl (omega arith) | inr after ↦ inr (omega arith) ]) in
      let e : get_or i (base + 3) 0 ≡ get_or d (base + 3) 0 = outside.same (base + 3) (elim apart [ inl before ↦ inl (omega arith) | inr after ↦ inr (omega arith) ]) in
      let f : get_or i (base + 4) 0 ≡ get_or d (base + 4) 0 = outside.same (base + 4) (elim apart [ inl before ↦ inl (omega arith) | inr after ↦ inr (omega arith) ]) in
      cc

-- if only the gate changes, the text after it is unchanged
pub text_behind : (p : ℕ) (d i : List ℕ) → AgreesOutside p (p + 1) d i → text_at i p ≡ text_at d p
text_behind p d i h =
    let len : get_or i (p + 1) 0 ≡ get_or d (p + 1) 0 = h.same (p + 1) (inr (omega arith)) in
    let n = min (get_or d (p + 1) 0) 126 in
    ap (λ (l : ℕ). take (min l 126) (drop (p + 2) i)) len ∙ range_apart p (p + 1) d i h (p + 2) n (inr (omega arith))

-- a range within another
pub apart_within : (a b at end from to : ℕ) → at ≤ a → b ≤ end → Apart at end from to → Apart a b from to
apart_within a b at end from to low high apart = elim apart [ inl before ↦ inl (omega arith) | inr after ↦ inr (omega arith) ]
