-- The arguments after `serve`: a publication's file or, with it, a public key's file and, optionally, a chain file.
use Rattle.std.proofs.Common.{◌≡◌, ℕ, List, [], ◌∷◌, length, drop, Some, None, arith, refl, ap}
use Rattle.road_command.specs.Requests.{Serve, ServeSigned, serve_words, word_at}

pub two_words : (words : List (List ℕ)) → length words ≡ 2 → Some (Serve (word_at words 1)) ≡ serve_words (drop 1 words)
two_words [] long = absurd (omega (arith, long))
two_words (v ∷ []) long = absurd (omega (arith, long))
two_words (v ∷ a ∷ []) long = refl
two_words (v ∷ a ∷ b ∷ rest) long = absurd (omega (arith, long))

pub three_words : (words : List (List ℕ)) → length words ≡ 3 → Some (ServeSigned (word_at words 1) (word_at words 2) None) ≡ serve_words (drop 1 words)
three_words [] long = absurd (omega (arith, long))
three_words (v ∷ []) long = absurd (omega (arith, long))
three_words (v ∷ a ∷ []) long = absurd (omega (arith, long))
three_words (v ∷ a ∷ b ∷ []) long = refl
three_words (v ∷ a ∷ b ∷ d ∷ rest) long = absurd (omega (arith, long))

pub four_words : (words : List (List ℕ)) (chain : List ℕ) → length words ≡ 4 → chain ≡ word_at words 3
    → Some (ServeSigned (word_at words 1) (word_at words 2) (Some chain)) ≡ serve_words (drop 1 words)
four_words [] chain long is = absurd (omega (arith, long))
four_words (v ∷ []) chain long is = absurd (omega (arith, long))
four_words (v ∷ a ∷ []) chain long is = absurd (omega (arith, long))
four_words (v ∷ a ∷ b ∷ []) chain long is = absurd (omega (arith, long))
four_words (v ∷ a ∷ b ∷ d ∷ []) chain long is = ap (λ (x : List ℕ). Some (ServeSigned a b (Some x))) is
four_words (v ∷ a ∷ b ∷ d ∷ e ∷ rest) chain long is = absurd (omega (arith, long))
