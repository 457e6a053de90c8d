-- A block that does not lie within the image has no known kind.
use Rattle.std.proofs.Common.{◌≡◌, ◌≢◌, ℕ, ◌+◌, ◌*◌, ◌<◌, ◌≤◌, List, length, get_or, arith, inl, inr, ap, ◌∙◌}
use Rattle.std.proofs.lemmas.Bool.{cases_eq}
use Rattle.std.proofs.lemmas.Bool.Decides.{nat_tests}
use Rattle.std.proofs.lemmas.List.{get_or_past}
use Rattle.desk_areas.specs.Layout.{slots_of, slots_at, kind_at}

unknown : (kind : ℕ) → kind ≢ 5 → kind ≢ 6 → slots_of kind ≡ 0
unfolding slots_of
unknown kind five six = grind (arith, nat_tests)

no_slots : (high kind : ℕ) → kind ≡ high * 256 → slots_of kind ≡ 0
no_slots high kind is = unknown kind (λ e. omega (arith, e, is)) (λ e. omega (arith, e, is))

pub short_slots : (image : List ℕ) (base : ℕ) → length image < base + 5 → slots_at image base ≡ 0
short_slots image base short =
    let last : get_or image (base + 4) 0 ≡ 0 = get_or_past image (base + 4) 0 (omega arith) in
    no_slots ((get_or image (base + 1) 0 * 256 + get_or image (base + 2) 0) * 256 + get_or image (base + 3) 0) (kind_at image base) (omega (arith, last))
