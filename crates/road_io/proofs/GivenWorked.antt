-- When a source has ended, in small cases.
use Rattle.std.proofs.Common.{[], ◌∷◌, refl, arith}
use Rattle.road_io.specs.Given.{IsEnd}

-- a read with room that gave nothing has ended, whatever came before
at_the_end : IsEnd ((4 ∷ [], []) ∷ [])
at_the_end = (omega arith, refl)

behind_octets : IsEnd ((1 ∷ [], []) ∷ (4 ∷ [], 7 ∷ 8 ∷ []) ∷ [])
behind_octets = (omega arith, refl)

-- a read without room does not end the source; nor does a read that gave an octet; nor does no read at all
without_room : IsEnd ((0 ∷ [], []) ∷ []) → ⊥
without_room h = absurd (omega (arith, h.0))

gave_an_octet : IsEnd ((4 ∷ [], 7 ∷ []) ∷ []) → ⊥
gave_an_octet h = let e = h.1 in absurd (cc)

was_not_read : IsEnd [] → ⊥
was_not_read h = h
