-- The octets that a sink which expects a key writes.
use Rattle.std.proofs.Common.{◌≡◌, ◌⊎◌, true, false, Bool, ℕ, ◌<◌, ◌≤◌, List, [], length, take, Option, Some, None, inl, inr, refl, sym, ◌∙◌, ap, subst, arith}
use Rattle.std.specs.Prelude.{IsSome}
use Rattle.std.proofs.lemmas.Bool.{cases_lt}
use Rattle.std.proofs.lemmas.List.{length-take-le, take_all, take-take}
use Rattle.signed_out.specs.Fronts.{is_signed, is_signed_by, IsSignedOut, GoesOut}

-- a prefix has its own length
take_own : (t : ℕ) (xs : List ℕ) → take (length (take t xs)) xs ≡ take t xs
take_own t xs = elim (cases_lt t (length xs)) [
  | inl lt ↦ ap (λ (n : ℕ). take n xs) (length-take-le t xs (omega arith))
  | inr le ↦
      let all : take t xs ≡ xs = take_all t xs (omega arith) in
      ap (λ (ys : List ℕ). take (length ys) xs) all ∙ take_all (length xs) xs (omega arith) ∙ sym all
]

own_short : (t : ℕ) (xs : List ℕ) → length (take t xs) ≤ t
own_short t xs = elim (cases_lt t (length xs)) [
  | inl lt ↦ let e = length-take-le t xs (omega arith) in omega (arith, e)
  | inr le ↦ let e : length (take t xs) ≡ length xs = ap length (take_all t xs (omega arith)) in omega (arith, e, le)
]

out_part : (key out front : List ℕ) (taken shown : ℕ) → taken ≤ shown → out ≡ take taken front → (0 < shown → is_signed key (take shown front) ≡ true) → (out ≡ []) ⊎ IsSignedOut key out
out_part key out front taken shown behind part signed = elim (cases_lt 0 shown) [
  | inl some ↦
      let short : length out ≤ taken = subst (λ (ys : List ℕ). length ys ≤ taken) (sym part) (own_short taken front) in
      let same : take (length out) (take shown front) ≡ out =
      take-take (length out) shown front (omega (arith, short, behind)) ∙ ap (λ (ys : List ℕ). take (length ys) front) part ∙ take_own taken front ∙ sym part in
      inr (record { front = take shown front; signed = signed some; agrees = inl (sym same) })
  | inr none ↦
      let zero : taken ≡ 0 = omega (arith, none, behind) in
      inl (part ∙ ap (λ (n : ℕ). take n front) zero)
]

out_whole : (key out front : List ℕ) (shown : ℕ) → shown ≤ length out → take shown out ≡ take shown front → is_signed key (take shown front) ≡ true → IsSignedOut key out
out_whole key out front shown long whole signed =
    let size : length (take shown front) ≡ shown = ap length (sym whole) ∙ length-take-le shown out long in
    record { front = take shown front; signed = signed; agrees = inr (sym whole ∙ ap (λ (n : ℕ). take n out) (sym size)) }

pub goes_out : (awaited : Option (List ℕ)) (is_open : Bool) (out front : List ℕ) (taken shown : ℕ) → taken ≤ shown
    → (is_open ≡ false → out ≡ take taken front)
    → (is_open ≡ true → IsSome awaited → shown ≤ length out)
    → (is_open ≡ true → IsSome awaited → take shown out ≡ take shown front)
    → (0 < shown → is_signed_by awaited (take shown front) ≡ true)
    → (is_open ≡ true → is_signed_by awaited (take shown front) ≡ true)
    → GoesOut awaited out
goes_out None is_open out front taken shown behind part long whole signed opened = tt
goes_out (Some key) false out front taken shown behind part long whole signed opened = out_part key out front taken shown behind (part refl) signed
goes_out (Some key) true out front taken shown behind part long whole signed opened = inr (out_whole key out front shown (long refl refl) (whole refl refl) (opened refl))
