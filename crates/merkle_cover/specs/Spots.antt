-- The positions of a cover's digests in their tree.
use Rattle.std.specs.Prelude.{ℕ, zero, suc, List, [], ◌∷◌, if◌then◌else◌}
use Rattle.std.specs.List.{flat_map}
use Rattle.merkle_cover.specs.Shape.{children, top}
use Rattle.merkle_cover.specs.Covers.{has_chosen}
use Rattle.merkle_cover.specs.declared.spots.Spot.{Spot}

-- from left to right, the highest positions below position p of level k without a chosen leaf below them
unfoldable pub spots_below : ℕ → ℕ → List ℕ → ℕ → ℕ → List Spot
spots_below n f chosen zero p = if has_chosen f chosen 0 p then [] else
    record { level = 0; place = p } ∷ []
spots_below n f chosen (suc k) p =
    if has_chosen f chosen (suc k) p then flat_map (spots_below n f chosen k) (children n f k p)
    else record { level = suc k; place = p } ∷ []

-- the positions of the cover of chosen leaves, among n
abbrev pub spots_of : ℕ → ℕ → List ℕ → List Spot
spots_of n f [] = []
spots_of n f (c ∷ cs) = spots_below n f (c ∷ cs) (top n f) 0
