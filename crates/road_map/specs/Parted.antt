-- Lists that follow one another in one list, each up to its end.
use Rattle.std.specs.Prelude.{◌≡◌, ℕ, ◌-◌, ◌≤◌, List, [], ◌∷◌, get_or, take, drop}

-- the parts of the list: each goes from the previous end, or from a start for the first part, up to its own end
abbrev pub parted : {X : Type 0} → ℕ → List ℕ → List X → List (List X)
parted start [] xs = []
parted start (end ∷ ends) xs = take (end - start) (drop start xs) ∷ parted end ends xs

-- no end precedes the one before it, and the last end is the length of the list
abbrev pub AreEnds : ℕ → List ℕ → ℕ → Type 0
AreEnds start [] long = start ≡ long
AreEnds start (end ∷ ends) long = (start ≤ end) × AreEnds end ends long

-- the index at which the part with an index begins
abbrev pub start_at : ℕ → List ℕ → ℕ → ℕ
start_at start ends index = get_or (start ∷ ends) index 0
