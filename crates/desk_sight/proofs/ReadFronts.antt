-- Reading the prefix of a disk.
use Rattle.std.proofs.Common.{◌≡◌, ℕ, ◌≤◌, List, length, take, drop, min, arith, inl, inr, ◌∙◌, ap, sym}
use Rattle.std.proofs.lemmas.Bool.{cases_lt}
use Rattle.std.proofs.lemmas.List.{take_all}

pub read_front : (c into : List ℕ) (n most : ℕ) → n ≡ min (length c) most → into ≡ take n (drop 0 c) → into ≡ take most c
read_front c into n most is read = elim (cases_lt most (length c)) [
  | inl long ↦ let same : n ≡ most = omega (arith, is, long) in read ∙ ap (λ (k : ℕ). take k c) same
  | inr short ↦
      let same : n ≡ length c = omega (arith, is, short) in
      read ∙ ap (λ (k : ℕ). take k c) same ∙ take_all (length c) c (omega arith) ∙ sym (take_all most c (omega (arith, short)))
]
