-- The promises of a mirror in memory.
use Rattle.std.proofs.Common.{◌≡◌, ℕ, ◌+◌, ◌-◌, ◌^◌, ◌<◌, ◌≤◌, List, [], ◌∷◌, arith, refl, true, false, Bool, nat_eq, inl, inr, ◌||◌, ◌⊎◌}
use Rattle.std.specs.List.{list_any}
use Rattle.std.proofs.lemmas.Bool.{eqb-true}
use Rattle.std.proofs.lemmas.Bool.Decides.{nat_tests}
use Rattle.mirror_out.specs.Promises.{puts_before}

-- one call takes at most one put from the promise
pub puts_before_step : (fails : List ℕ) (calls : ℕ) → puts_before fails calls ≤ puts_before fails (calls + 1) + 1
puts_before_step [] calls = omega arith
puts_before_step (f ∷ fs) calls = let h : puts_before fs calls ≤ puts_before fs (calls + 1) + 1 = puts_before_step fs calls in grind (arith, nat_tests)

-- at the end of a u64 nothing is promised
pub puts_before_end : (fails : List ℕ) (calls : ℕ) → 2 ^ 64 - 1 ≤ calls → puts_before fails calls ≡ 0
puts_before_end [] calls h = omega arith
puts_before_end (f ∷ fs) calls h = let k : puts_before fs calls ≡ 0 = puts_before_end fs calls h in grind (arith, nat_tests)

either : (a b : Bool) → (a || b) ≡ true → (a ≡ true) ⊎ (b ≡ true)
either true b h = inl refl
either false b h = inr h

neither : (a b : Bool) → (a || b) ≡ false → (a ≡ false) × (b ≡ false)
neither true b h = cc
neither false b h = (refl, h)

at_first : (fs : List ℕ) (f calls : ℕ) → f ≡ calls → puts_before (f ∷ fs) calls ≡ 0
at_first fs f calls e = grind (arith, nat_tests)

after_first : (fs : List ℕ) (f calls : ℕ) → puts_before fs calls ≡ 0 → puts_before (f ∷ fs) calls ≡ 0
after_first fs f calls e = grind (arith, nat_tests)

-- at a planned failure nothing is promised
pub puts_before_planned : (fails : List ℕ) (calls : ℕ) → list_any (λ y. nat_eq y calls) fails ≡ true → puts_before fails calls ≡ 0
puts_before_planned [] calls h = cc
puts_before_planned (f ∷ fs) calls h =
    elim (either (nat_eq f calls) (list_any (λ y. nat_eq y calls) fs) h) [
      | inl this ↦ at_first fs f calls (eqb-true f calls this)
      | inr later ↦ after_first fs f calls (puts_before_planned fs calls later)
    ]

-- before a call that is not planned to fail, at least one put is promised
pub puts_before_unplanned : (fails : List ℕ) (calls : ℕ) → calls < 2 ^ 64 - 1 → list_any (λ y. nat_eq y calls) fails ≡ false → 0 < puts_before fails calls
puts_before_unplanned [] calls l h = omega arith
puts_before_unplanned (f ∷ fs) calls l h =
    let parts = neither (nat_eq f calls) (list_any (λ y. nat_eq y calls) fs) h in
    let k : 0 < puts_before fs calls = puts_before_unplanned fs calls l parts.1 in
    let ne : nat_eq f calls ≡ false = parts.0 in
    grind (arith, nat_tests)
