-- The definitions of a tree whose texts come one at a time, evaluated for some counts. A changed definition fails
-- here.
use Rattle.std.proofs.Common.{◌≡◌, [], ◌∷◌, Some, None, refl}
use Rattle.merkle_cover.specs.Shape.{places_at}
use Rattle.merkle_cover.specs.Rising.{first_rising_refusal, whole_places, end_of}
use Rattle.merkle_cover.specs.declared.rising.RisingError.TheVariants.{Fan, Empty, TooMany}

-- ---- refusals

fan_of_one : first_rising_refusal 3 1 [] ≡ Some Fan
fan_of_one = refl

fan_of_two : first_rising_refusal 3 2 (0 ∷ []) ≡ None
fan_of_two = refl

fan_of_32 : first_rising_refusal 3 32 (0 ∷ []) ≡ None
fan_of_32 = refl

fan_of_33 : first_rising_refusal 3 33 [] ≡ Some Fan
fan_of_33 = refl

no_leaf : first_rising_refusal 0 2 [] ≡ Some Empty
no_leaf = refl

most_leaves : first_rising_refusal 2097152 2 (0 ∷ []) ≡ None
most_leaves = refl

too_many_leaves : first_rising_refusal 2097153 2 (0 ∷ []) ≡ Some TooMany
too_many_leaves = refl

-- ---- a tree of five leaves and a fan-out of 2

-- after three texts one pair is complete; after all five every position is
pairs_of_three : whole_places 5 2 3 1 ≡ 1
pairs_of_three = refl

all_of_five : whole_places 5 2 5 1 ≡ places_at 5 2 1
all_of_five = refl

-- the second pair ends after the fourth leaf, and the third pair ends with the leaves
end_of_the_second : end_of 5 2 1 1 ≡ 4
end_of_the_second = refl

end_of_the_third : end_of 5 2 1 2 ≡ 5
end_of_the_third = refl
