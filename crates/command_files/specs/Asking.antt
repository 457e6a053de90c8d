-- Which files a library is asked to load.
use Rattle.std.specs.Prelude.{◌≡◌, ℕ, ◌≤◌, List, [], ◌∷◌, ◌++◌, length, take}
use Rattle.std.specs.declared.option.Option.{Option}
use Rattle.std.specs.declared.option.Option.TheVariants.{None, Some}

-- the name of an optional file, if given
abbrev pub if_named : Option (List ℕ) → List (List ℕ)
if_named None = []
if_named (Some name) = name ∷ []

-- a prefix of this list of names was loaded, in its order, and no other name
pub record AsksFront (names before now : List (List ℕ)) : Type 0 where
  pub n : ℕ
  pub within : n ≤ length names
  pub asked : now ≡ before ++ take n names
