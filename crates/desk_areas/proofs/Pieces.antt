-- Ranges within ranges.
use Rattle.std.proofs.Common.{◌≡◌, ◌⊎◌, ℕ, ◌+◌, ◌<◌, ◌≤◌, List, length, get_or, arith, sym, ◌∙◌, inl, inr}
use Rattle.std.proofs.lemmas.Bool.{cases_lt}
use Rattle.std.proofs.lemmas.List.{get_or_past}
use Rattle.road_io.specs.Disk.{Torn}
use Rattle.desk_areas.specs.Layout.{AgreesOutside, slots_of}
use Rattle.std.proofs.lemmas.Bool.Decides.{nat_tests}

pub widen : (a b from to : ℕ) (d i : List ℕ) → from ≤ a → b ≤ to → AgreesOutside a b d i → AgreesOutside from to d i
widen a b from to d i low high h = record {
  long = h.long;
  same = λ k out. h.same k (elim out [ inl before ↦ inl (omega arith) | inr after ↦ inr (omega arith) ]);
}

pub slots_few : (kind : ℕ) → slots_of kind ≤ 1024
unfolding slots_of
slots_few kind = grind (arith, nat_tests)

-- a write within the length changes nothing outside it
pub torn_within : (at n : ℕ) (d i : List ℕ) → at + n ≤ length d → Torn at n d i → AgreesOutside at (at + n) d i
torn_within at n d i within torn =
    let long : length i ≡ length d = omega (arith, torn.no_shorter, torn.no_longer) in
    record { long = long; same = λ k out. outside k (cases_lt k (length d)) out }
  where
    outside : (k : ℕ) → (k < length d) ⊎ (length d ≤ k) → (k < at) ⊎ (at + n ≤ k) → get_or i k 0 ≡ get_or d k 0
    outside k (inl below) out = torn.outside k below out
    outside k (inr past) out = get_or_past i k 0 (omega (arith, torn.no_shorter, torn.no_longer)) ∙ sym (get_or_past d k 0 past)
