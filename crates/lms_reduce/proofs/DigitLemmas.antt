-- Digits and their checksum: if no digit of one text is less than the digit of another text, the two hashes are
-- equal.
use Rattle.std.proofs.Common.{◌≡◌, ℕ, suc, ◌+◌, ◌-◌, ◌*◌, ◌^◌, ◌<◌, ◌≤◌, List, [], ◌∷◌, ◌++◌, length, get_or, refl, sym, ap, ◌∙◌, arith}
use Rattle.std.specs.Int.{w16, to_be_bytes}
use Rattle.std.proofs.lemmas.List.{get_or_append_left, get_or-append-add}
use Rattle.std.proofs.lemmas.List.Sums.{sum_by-cons}
use Rattle.std.proofs.lemmas.Nat.{from_be_bytes-to_be_bytes_2}
use Rattle.octet_text.specs.Sha.{length-sha256}
use Rattle.lms_ots.specs.Chains.{prefix, checksum, digits_of, text_hash}
use Rattle.lms_ots.proofs.OtsLemmas.{octets-sha256}
use Rattle.lms_reduce.specs.Comparing.{HasNoLesser}

-- ---- octets and their checksum

checksum-cons : (x : ℕ) (xs : List ℕ) → checksum (x ∷ xs) ≡ 255 - x + checksum xs
checksum-cons x xs = sum_by-cons (λ o. 255 - o) x xs

-- if no octet is less than that of another list, the checksum is not greater
checksum-le : (xs ys : List ℕ) → length xs ≡ length ys → ((b : ℕ) → b < length xs → get_or ys b 0 ≤ get_or xs b 0) → checksum xs ≤ checksum ys
checksum-le [] ys l p = omega arith
checksum-le (x ∷ xs) [] l p = absurd (omega (arith, l))
checksum-le (x ∷ xs) (y ∷ ys) l p =
    let rest : checksum xs ≤ checksum ys = checksum-le xs ys (omega (arith, l)) (λ b h. p (suc b) (omega (arith, h))) in
    let first : y ≤ x = p 0 (omega arith) in
    omega (arith, rest, first, checksum-cons x xs, checksum-cons y ys)

-- octets that are nowhere less, with a checksum that is not less, are equal
octets-same : (xs ys : List ℕ) → length xs ≡ length ys → ((b : ℕ) → get_or xs b 0 < 256) → ((b : ℕ) → b < length xs → get_or ys b 0 ≤ get_or xs b 0) → checksum ys ≤ checksum xs → xs ≡ ys
octets-same [] [] l o p c = refl
octets-same [] (y ∷ ys) l o p c = absurd (omega (arith, l))
octets-same (x ∷ xs) [] l o p c = absurd (omega (arith, l))
octets-same (x ∷ xs) (y ∷ ys) l o p c =
    let size : length xs ≡ length ys = omega (arith, l) in
    let rest : (b : ℕ) → b < length xs → get_or ys b 0 ≤ get_or xs b 0 = λ b h. p (suc b) (omega (arith, h)) in
    let below : checksum xs ≤ checksum ys = checksum-le xs ys size rest in
    let first : y ≤ x = p 0 (omega arith) in
    let small : x < 256 = o 0 in
    let here : x ≡ y = omega (arith, below, first, small, c, checksum-cons x xs, checksum-cons y ys) in
    let there : xs ≡ ys = octets-same xs ys size (λ b. o (suc b)) rest (omega (arith, below, first, small, c, checksum-cons x xs, checksum-cons y ys)) in
    ap (λ n. n ∷ xs) here ∙ ap (λ (l : List ℕ). y ∷ l) there

-- ---- the digits of a text

length-text_hash : (i : List ℕ) (q : ℕ) (c text : List ℕ) → length (text_hash i q c text) ≡ 32
unfolding text_hash
length-text_hash i q c text = length-sha256 (prefix i q 0x8181 ++ c ++ text)

octets-text_hash : (i : List ℕ) (q : ℕ) (c text : List ℕ) (b : ℕ) → get_or (text_hash i q c text) b 0 < 256
unfolding text_hash
octets-text_hash i q c text b = octets-sha256 (prefix i q 0x8181 ++ c ++ text) b

-- the checksum of 32 octets is small
checksum-small : (xs : List ℕ) → checksum xs ≤ 255 * length xs
checksum-small [] = omega arith
checksum-small (x ∷ xs) = omega (arith, checksum-small xs, checksum-cons x xs)

-- a number in two octets
in-two : (n : ℕ) → n < 2 ^ 16 → n ≡ 256 * get_or (to_be_bytes w16 n) 0 0 + get_or (to_be_bytes w16 n) 1 0
in-two n l = omega (arith, from_be_bytes-to_be_bytes_2 n l)

-- if no digit is less, the hashes are equal
pub text_hash-same : (i j : List ℕ) (q r : ℕ) (c d text other : List ℕ) → HasNoLesser (digits_of i q c text) (digits_of j r d other) → text_hash i q c text ≡ text_hash j r d other
unfolding digits_of
text_hash-same i j q r c d text other h =
    let xs = text_hash i q c text in
    let ys = text_hash j r d other in
    let lx : length xs ≡ 32 = length-text_hash i q c text in
    let ly : length ys ≡ 32 = length-text_hash j r d other in
    let m : ℕ = checksum xs in
    let n : ℕ = checksum ys in
    let sm : m < 2 ^ 16 = omega (arith, checksum-small xs, lx) in
    let sn : n < 2 ^ 16 = omega (arith, checksum-small ys, ly) in
    let first : (b : ℕ) → b < length xs → get_or ys b 0 ≤ get_or xs b 0 =
    λ b l. omega (arith, h.none b (omega (arith, l, lx)), get_or_append_left xs (to_be_bytes w16 m) 0 b l, get_or_append_left ys (to_be_bytes w16 n) 0 b (omega (arith, l, lx, ly))) in
    let high : get_or (to_be_bytes w16 n) 0 0 ≤ get_or (to_be_bytes w16 m) 0 0 =
    omega (arith, rest xs ys m n 0 lx ly, h.none 32 (omega arith)) in
    let low : get_or (to_be_bytes w16 n) 1 0 ≤ get_or (to_be_bytes w16 m) 1 0 =
    omega (arith, rest xs ys m n 1 lx ly, h.none 33 (omega arith)) in
    octets-same xs ys (omega (arith, lx, ly)) (octets-text_hash i q c text) first (omega (arith, in-two m sm, in-two n sn, high, low))
  where
    rest : (xs ys : List ℕ) (m n k : ℕ) → length xs ≡ 32 → length ys ≡ 32 → (get_or (xs ++ to_be_bytes w16 m) (32 + k) 0 ≡ get_or (to_be_bytes w16 m) k 0) × (get_or (ys ++ to_be_bytes w16 n) (32 + k) 0 ≡ get_or (to_be_bytes w16 n) k 0)
    rest xs ys m n k lx ly =
        (ap (λ s. get_or (xs ++ to_be_bytes w16 m) (s + k) 0) (sym lx) ∙ get_or-append-add xs (to_be_bytes w16 m) k 0, ap (λ s. get_or (ys ++ to_be_bytes w16 n) (s + k) 0) (sym ly) ∙ get_or-append-add ys (to_be_bytes w16 n) k 0)
