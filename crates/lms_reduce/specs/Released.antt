-- The values of a one-time key that a slot has released. A signature shows one value of each chain, as many steps
-- from the secret value as the digit of the signed text. Its holder can compute all later values of the chain, but
-- no earlier one. RFC 8554, § 4.5 and § 9.1.
use Rattle.std.specs.Prelude.{ℕ, ⊤, ◌<◌, List, take, drop, slice_index, Option, Some, None}
use Rattle.lms_ots.specs.Chains.{chain_of, secret_of, digits_of, randomiser_of}
use Rattle.lms_tree.specs.Signatures.{KeyOf, number_at}

-- the digits of the text of a signature, under the signature's own C
abbrev pub claimed_digits : KeyOf → List ℕ → List ℕ → List ℕ
claimed_digits key text sig = digits_of key.i (number_at sig 0) (take 32 (drop 8 sig)) text

-- the digits of the text that a slot signed, under the C that the key makes for this text
abbrev pub signed_digits : KeyOf → ℕ → List ℕ → List ℕ
signed_digits key slot text = digits_of key.i slot (randomiser_of key.i slot key.seed) text

-- the key's own value of chain at after this many steps
abbrev pub own_value : KeyOf → ℕ → ℕ → ℕ → List ℕ
own_value key slot at step = chain_of key.i slot at 0 step (secret_of key.i slot key.seed at)

-- the slot has not released the value of chain at after this many steps: it signed no text, or a text whose
-- signature shows a later value of that chain
abbrev pub IsUnreleased : KeyOf → ℕ → Option (List ℕ) → ℕ → ℕ → Type 0
IsUnreleased key slot None at step = ⊤
IsUnreleased key slot (Some text) at step = step < slice_index (signed_digits key slot text) at
