use Rattle.std.proofs.Common.{◌≡◌, ℕ, Bool, true, false, not, Option, None, Some, IsTrue, refl, ap, ◌∙◌, sym}
use Rattle.std.specs.Prelude.{is_some}
use Rattle.merkle_cover.specs.Covers.{first_fault}
use Rattle.merkle_cover.proofs.FoldLemmas.{first_fault-rising, rising-first_fault}
use Rattle.merkle_cover.proofs.folds.are_rising.Goals as goal

-- the test tells whether there is no fault
none-tells : (o : Option ℕ) (b : Bool) → is_some o ≡ not b → (IsTrue b → o ≡ None) × (o ≡ None → IsTrue b)
none-tells None true e = (λ t. refl, λ n. refl)
none-tells None false e = absurd cc
none-tells (Some x) true e = absurd cc
none-tells (Some x) false e = (λ t. absurd cc, λ n. absurd cc)

pub returns : goal.returns
returns c =
    let n = c.args.leaves in
    let places = c.args.places.now in
    let tells = none-tells (first_fault n places) c.is_none.result (ap is_some (sym c.fault_of.ensures) ∙ c.is_none.ensures) in (
      λ t. rising-first_fault n places (tells.0 t),
      λ r. tells.1 (first_fault-rising n places r),
    )
