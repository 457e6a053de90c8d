-- The greatest difference of two lists of codes.
use Rattle.std.specs.Prelude.{ℕ, ◌+◌, ◌-◌, ◌==◌, ◌||◌, max, if◌then◌else◌, List, ◌∷◌}
use Rattle.book_model.specs.Landmarks.{no_code}

-- the greatest difference over the landmarks for which both lists have a code, or 0 if there are none
abbrev pub widest : List ℕ → List ℕ → ℕ
widest (a ∷ as') (b ∷ bs) = if (a == no_code) || (b == no_code) then widest as' bs else max ((a - b) + (b - a))
    (widest as' bs)
widest _ _ = 0
