-- When a version is doubtful, in small cases.
use Rattle.std.proofs.Common.{◌≡◌, refl, arith, Some}
use Rattle.desk_guard.specs.declared.doubt.Doubt.TheVariants.{NotRisen, RisenFar}
use Rattle.desk_guard.specs.Doubts.{IsDoubt}

-- the greatest version that was signed before is doubtful; the next one is not, nor is any above another greatest
same_version : IsDoubt 4 (Some 4) (Some 3) (NotRisen 4)
same_version = (refl, omega arith)

next_version : IsDoubt 5 (Some 4) (Some 3) (NotRisen 4) → ⊥
next_version h = absurd (omega (arith, h.1))

other_greatest : IsDoubt 4 (Some 3) (Some 3) (NotRisen 4) → ⊥
other_greatest h = let e = h.0 in absurd (cc)

-- more than 2^32 above the last version is doubtful; just so far is not, nor is it above another last version
too_far : IsDoubt 4294967300 (Some 9) (Some 3) (RisenFar 3)
too_far = (refl, omega arith)

just_so_far : IsDoubt 4294967299 (Some 9) (Some 3) (RisenFar 3) → ⊥
just_so_far h = absurd (omega (arith, h.1))

other_last : IsDoubt 4294967300 (Some 9) (Some 4) (RisenFar 3) → ⊥
other_last h = let e = h.0 in absurd (cc)
