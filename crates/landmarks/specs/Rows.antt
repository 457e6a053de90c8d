-- Distances from landmarks, in rows.
use Rattle.std.specs.Prelude.{◌≡◌, ℕ, ◌/◌, ◌^◌, ◌<◌, max, Option, None, Some, IfSome, List, [], ◌∷◌, map, length, Contains, slice_get, slice_index_or}
use Rattle.std.specs.List.{fold}
use Rattle.road_map.specs.Least.{lesser}
use Rattle.road_map.specs.declared.parts.Node.{Node}
use Rattle.road_search.specs.Nets.{Surveyed, length_to}
use Rattle.book_model.specs.Landmarks.{nearest, greatest_of, no_code, code_of}

-- a survey has these lengths to all nodes, by id
abbrev pub Gives : Surveyed → (ℕ → Option ℕ) → Type 0
Gives s f = (p : ℕ) (n : Node) → slice_get s.map.order p ≡ Some n → length_to s p ≡ f n.id

-- the distances from a landmark to these ids
abbrev pub row_of : (ℕ → ℕ → Option ℕ) → List ℕ → ℕ → List (Option ℕ)
row_of dist ids c = map (dist c) ids

-- one row for each landmark
abbrev pub rows_of : (ℕ → ℕ → Option ℕ) → List ℕ → List ℕ → List (List (Option ℕ))
rows_of dist ids chosen = map (row_of dist ids) chosen

-- the distance of each of these ids to the nearest landmark
abbrev pub nearest_row : (ℕ → ℕ → Option ℕ) → List ℕ → List ℕ → List (Option ℕ)
nearest_row dist ids chosen = map (nearest dist chosen) ids

-- the lesser of two lengths at each index
abbrev pub lessers : List (Option ℕ) → List (Option ℕ) → List (Option ℕ)
lessers (d ∷ more) (e ∷ es) = lesser d e ∷ lessers more es
lessers _ _ = []

-- the greatest of all lengths, or 0 if there are none
abbrev pub greatest_row : List (List (Option ℕ)) → ℕ
greatest_row rows = fold (λ m row. max m (greatest_of row)) 0 rows

-- the code of the length at an index
abbrev pub code_in : ℕ → ℕ → List (Option ℕ) → ℕ
code_in step place row = code_of step (slice_index_or row place None)

-- the length at an index does not get the code for no walk
pub record IsCodable (step place : ℕ) (row : List (Option ℕ)) : Type 0 where
  pub within : place < length row
  pub below : IfSome (slice_index_or row place None) (λ d. d / step < no_code)

-- the same for all indices below this number
abbrev pub AreCodable : ℕ → ℕ → List (List (Option ℕ)) → Type 0
AreCodable step count rows = (k place : ℕ) (row : List (Option ℕ)) → place < count →
    slice_get rows k ≡ Some row → IsCodable step place row

-- rows of this many lengths, all below 2 to the 48th
pub record AreShort (count : ℕ) (rows : List (List (Option ℕ))) : Type 0 where
  pub long : (row : List (Option ℕ)) → Contains rows row → length row ≡ count
  pub short : (row : List (Option ℕ)) (d : ℕ) → Contains rows row → Contains row (Some d) →
      d < 2 ^ 48
