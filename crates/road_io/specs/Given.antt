-- The octets that a source has given.
use Rattle.std.specs.Prelude.{◌≡◌, ℕ, ◌<◌, List, [], ◌∷◌, ◌++◌, slice_index}

-- some more octets were given, and they satisfy P
pub record Gave (before now : List ℕ) (P : List ℕ → Type 0) : Type 0 where
  pub octets : List ℕ
  pub gave : now ≡ before ++ octets
  pub is : P octets

-- the last of these reads, each with its room, had room and gave nothing
abbrev pub IsEnd : List (List ℕ × List ℕ) → Type 0
IsEnd [] = ⊥
IsEnd (read ∷ before) = (0 < slice_index read.0 0) × (read.1 ≡ [])
