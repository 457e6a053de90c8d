-- Texts in one buffer, each up to its end.
use Rattle.std.specs.Prelude.{ℕ, ◌≡◌, ◌+◌, ◌-◌, ◌<◌, ◌≤◌, ◌^◌, List, [], ◌∷◌, length, take, drop}

-- the octets of all texts together
abbrev pub total_length : List (List ℕ) → ℕ
total_length [] = 0
total_length (text ∷ texts) = length text + total_length texts

-- one more text fits: there are fewer than 2 ^ 32 - 1 texts, and with the new one they have fewer than 2 ^ 32
-- octets in all
pub record HasRoom (texts : List (List ℕ)) (text : List ℕ) : Type 0 where
  pub count : length texts < 2 ^ 32 - 1
  pub octets : total_length texts + length text < 2 ^ 32

-- the texts of a buffer from an offset on, each up to the next end
abbrev pub texts_of : List ℕ → ℕ → List ℕ → List (List ℕ)
texts_of octets start [] = []
texts_of octets start (end ∷ ends) = take (end - start)
    (drop start octets) ∷ texts_of octets end ends

-- the ends ascend, from an offset up to the last end
abbrev pub EndsAt : ℕ → List ℕ → ℕ → Type 0
EndsAt start [] last = start ≡ last
EndsAt start (end ∷ ends) last = (start ≤ end) × EndsAt end ends last

-- the ends cut the whole buffer
pub record IsCut (octets : List ℕ) (ends : List ℕ) : Type 0 where
  pub whole : EndsAt 0 ends (length octets)
  pub few : length octets < 2 ^ 32
  pub count : length ends < 2 ^ 32
