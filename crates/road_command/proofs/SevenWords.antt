-- Seven arguments: a command's name, five arguments, and an optional one.
use Rattle.std.proofs.Common.{◌≡◌, ℕ, List, [], ◌∷◌, length, drop, Option, Some, arith, sym, ap, ◌∙◌}
use Rattle.road_command.specs.Requests.{Request, word_at}

-- the request of six arguments after the name, in terms of the arguments at their positions
pub seven_words : (W : List (List ℕ) → Option Request) (F : List ℕ → List ℕ → List ℕ → List ℕ → List ℕ → Option (List ℕ) → Option Request)
    → ((a b c d e f : List ℕ) → W (a ∷ b ∷ c ∷ d ∷ e ∷ f ∷ []) ≡ F a b c d e (Some f)) → (words : List (List ℕ)) (chain : List ℕ) → length words ≡ 7 → chain ≡ word_at words 6
    → F (word_at words 1) (word_at words 2) (word_at words 3) (word_at words 4) (word_at words 5) (Some chain) ≡ W (drop 1 words)
seven_words W F law [] chain long is = absurd (omega (arith, long))
seven_words W F law (v ∷ []) chain long is = absurd (omega (arith, long))
seven_words W F law (v ∷ a ∷ []) chain long is = absurd (omega (arith, long))
seven_words W F law (v ∷ a ∷ b ∷ []) chain long is = absurd (omega (arith, long))
seven_words W F law (v ∷ a ∷ b ∷ c ∷ []) chain long is = absurd (omega (arith, long))
seven_words W F law (v ∷ a ∷ b ∷ c ∷ d ∷ []) chain long is = absurd (omega (arith, long))
seven_words W F law (v ∷ a ∷ b ∷ c ∷ d ∷ e ∷ []) chain long is = absurd (omega (arith, long))
seven_words W F law (v ∷ a ∷ b ∷ c ∷ d ∷ e ∷ f ∷ []) chain long is = ap (λ (x : List ℕ). F a b c d e (Some x)) is ∙ sym (law a b c d e f)
seven_words W F law (v ∷ a ∷ b ∷ c ∷ d ∷ e ∷ f ∷ g ∷ rest) chain long is = absurd (omega (arith, long))
