-- The desk's key and the key of the trees.
use Rattle.std.proofs.Common.{◌≡◌, ◌⊎◌, ℕ, ◌+◌, ◌*◌, ◌^◌, ◌<◌, true, List, ◌++◌, length, get_or, take, drop, sym, ap, subst, ◌∙◌, arith, inl, inr}
use Rattle.std.specs.Int.{w32, from_be_bytes}
use Rattle.std.proofs.lemmas.Bool.{cases_eq}
use Rattle.std.proofs.lemmas.Bool.Decides.{nat_tests}
use Rattle.std.proofs.lemmas.List.{take_all, take-append-drop, length-drop, length-take}
use Rattle.std.proofs.lemmas.Nat.{from_be_bytes-to_be_bytes_4}
use Rattle.lms_tree.specs.Signatures.{KeyOf, height_of, is_kind, number_at, sealed}
use Rattle.desk_areas.specs.Layout.{slots_of}
use Rattle.desk_areas.specs.Keys.{key_from}

-- the number that four octets encode
pub four_octets : (octets : List ℕ) → from_be_bytes w32 octets ≡ ((get_or octets 0 0 * 256 + get_or octets 1 0) * 256 + get_or octets 2 0) * 256 + get_or octets 3 0
four_octets octets = omega arith

-- a kind that has slots is known
pub known_kind : (kind : ℕ) → 0 < slots_of kind → is_kind kind ≡ true
unfolding slots_of
known_kind kind some = grind (arith, nat_tests)

-- the slots are the leaves of the tree
pub slot_is_leaf : (kind q : ℕ) → q < slots_of kind → q < 2 ^ height_of kind
unfolding slots_of
slot_is_leaf kind q lt = elim (cases_eq kind 5) [
  | inl five ↦ subst (λ (k : ℕ). q < 2 ^ height_of k) (sym five) (subst (λ (k : ℕ). q < slots_of k) five lt)
  | inr other ↦ elim (cases_eq kind 6) [
    | inl six ↦ subst (λ (k : ℕ). q < 2 ^ height_of k) (sym six) (subst (λ (k : ℕ). q < slots_of k) six lt)
    | inr unknown ↦ let none : slots_of kind ≡ 0 = grind (arith, nat_tests) in absurd (omega (arith, lt, none))
  ]
]

-- the number in the signature
pub sealed-number : (key : KeyOf) (q : ℕ) (text : List ℕ) → q < 2 ^ 32 → number_at (sealed key q text) 0 ≡ q
unfolding sealed number_at
sealed-number key q text l = from_be_bytes-to_be_bytes_4 q l

-- the key of a secret has the secret's 48 octets
pub key_from-secret : (kind : ℕ) (secret : List ℕ) → secret ≡ take 16 secret ++ drop 16 secret
key_from-secret kind secret = sym (take-append-drop 16 secret)

-- its name has 16 octets
pub length-key_from : (kind : ℕ) (secret : List ℕ) → length secret ≡ 48 → length (take 16 secret) ≡ 16
length-key_from kind secret l = omega (arith, length-take 16 secret, l)

-- the two parts of a secret make its key
pub key_of_parts : (kind : ℕ) (secret i seed : List ℕ) → length secret ≡ 48 → i ≡ take 16 (drop 0 secret) → seed ≡ take 32 (drop 16 secret) → record { kind = kind; i = i; seed = seed } ≡ key_from kind secret
key_of_parts kind secret i seed l is_i is_seed =
    let rest : take 32 (drop 16 secret) ≡ drop 16 secret = take_all 32 (drop 16 secret) (omega (arith, length-drop 16 secret, l)) in
    let f : List ℕ → List ℕ → KeyOf = λ x y. record { kind = kind; i = x; seed = y } in
    ap (λ (x : List ℕ). f x seed) is_i ∙ ap (λ (y : List ℕ). f (take 16 secret) y) (is_seed ∙ rest)

-- a known kind has slots
pub some_slots : (kind : ℕ) → (kind ≡ 5) ⊎ (kind ≡ 6) → 0 < slots_of kind
unfolding slots_of
some_slots kind (inl five) = subst (λ (k : ℕ). 0 < slots_of k) (sym five) (omega arith)
some_slots kind (inr six) = subst (λ (k : ℕ). 0 < slots_of k) (sym six) (omega arith)
