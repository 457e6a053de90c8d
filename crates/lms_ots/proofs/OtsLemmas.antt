-- One-time signatures.
use Rattle.std.proofs.Common.{◌≡◌, ℕ, suc, zero, ◌+◌, ◌-◌, ◌*◌, ◌<◌, ◌≤◌, List, [], ◌∷◌, ◌++◌, length, get_or, take, drop, refl, sym, ap, ◌∙◌, arith}
use Rattle.std.specs.List.{range_with_len, flat_map}
use Rattle.std.proofs.lemmas.List.{append_assoc, append-nil, map-id, take_at, take_all, drop_at, drop-drop, length-drop, length-append}
use Rattle.std.proofs.lemmas.List.Concat.{flat_map-append}
use Rattle.std.proofs.lemmas.List.FromFn.{map-range_with_len_more}
use Rattle.std.specs.Int.{w16, w32, to_be_bytes}
use Rattle.octet_text.specs.Sha.{length-sha256}
use Rattle.sha2.specs.Sha256.{sha256, digest_bytes, final_hash, initial_hash_256}
use Rattle.lms_ots.specs.Chains.{checksum, prefix, chain_of, step_of, secret_of, shown_value, ended_value, public_value, randomiser_of, digits_of, text_hash, signature_of, candidate_of, public_of, key_of}

pub range-push : (n : ℕ) → range_with_len 0 (n + 1) ≡ range_with_len 0 n ++ n ∷ []
range-push n = sym (map-id (range_with_len 0 (n + 1))) ∙ map-range_with_len_more (λ x. x) 0 n n (omega arith) ∙ ap (λ l. l ++ n ∷ []) (map-id (range_with_len 0 n))

-- one more piece
pub pieces-more : (g : ℕ → List ℕ) (before : List ℕ) (n : ℕ) → (before ++ flat_map g (range_with_len 0 n)) ++ g n ≡ before ++ flat_map g (range_with_len 0 (n + 1))
pieces-more g before n =
    append_assoc before (flat_map g (range_with_len 0 n)) (g n)
    ∙ ap (λ l. before ++ l) (sym (ap (flat_map g) (range-push n) ∙ flat_map-append g (range_with_len 0 n) (n ∷ []) ∙ ap (λ l. flat_map g (range_with_len 0 n) ++ l) (append-nil (g n))))

-- ---- the 55 octets that a step hashes

-- hashing the text of a step gives the step
pub sha256-step_of : (i : List ℕ) (q at j : ℕ) (text : List ℕ) → take 22 text ≡ prefix i q at → sha256 (take 22 text ++ j ∷ drop 23 text) ≡ step_of i q at j (drop 23 text)
unfolding step_of
sha256-step_of i q at j text p =
    ap (λ (l : List ℕ). sha256 (l ++ j ∷ drop 23 text)) p ∙ ap sha256 (sym (append_assoc (prefix i q at) (j ∷ []) (drop 23 text)))

-- hashing the text of a secret value gives the secret value
pub sha256-secret_of : (i : List ℕ) (q : ℕ) (seed : List ℕ) (at : ℕ) (text : List ℕ) → take 22 text ≡ prefix i q at → drop 23 text ≡ seed → sha256 (take 22 text ++ 0xff ∷ drop 23 text) ≡ secret_of i q seed at
unfolding secret_of
sha256-secret_of i q seed at text p v =
    ap (λ (l : List ℕ). sha256 (l ++ 0xff ∷ drop 23 text)) p ∙ ap (λ (l : List ℕ). sha256 (prefix i q at ++ 0xff ∷ l)) v
    ∙ ap sha256 (sym (append_assoc (prefix i q at) (0xff ∷ []) seed))

-- the value at the end of the text
pub value-whole : (text : List ℕ) → length text ≡ 55 → take 32 (drop 23 text) ≡ drop 23 text
value-whole text l = take_all 32 (drop 23 text) (omega (arith, length-drop 23 text, l))

-- ---- chains

-- one more step
pub chain_of-more : (i : List ℕ) (q at from number : ℕ) (x : List ℕ) → from ≤ number → step_of i q at number (chain_of i q at from (number - from) x) ≡ chain_of i q at from (number + 1 - from) x
unfolding chain_of
chain_of-more i q at from number x l =
    let n : ℕ = number - from in
    let here : number ≡ from + n = omega arith in
    let count : suc n ≡ number + 1 - from = omega arith in
    ap (λ j. step_of i q at j (chain_of i q at from n x)) here ∙ ap (λ c. chain_of i q at from c x) count

pub chain_of-none : (i : List ℕ) (q at from : ℕ) (x : List ℕ) → chain_of i q at from (from - from) x ≡ x
unfolding chain_of
chain_of-none i q at from x =
    let z : from - from ≡ 0 = omega arith in
    ap (λ c. chain_of i q at from c x) z

-- ---- a signature that was made verifies

pub chain_of-chain_of : (i : List ℕ) (q at from m n : ℕ) (x : List ℕ) → chain_of i q at (from + m) n (chain_of i q at from m x) ≡ chain_of i q at from (m + n) x
unfolding chain_of
chain_of-chain_of i q at from m zero x =
    let e : m ≡ m + 0 = omega arith in
    ap (λ c. chain_of i q at from c x) e
chain_of-chain_of i q at from m (suc n) x =
    let e : (from + m) + n ≡ from + (m + n) = omega arith in
    let e' : suc (m + n) ≡ m + suc n = omega arith in
    ap (λ j. step_of i q at j (chain_of i q at (from + m) n (chain_of i q at from m x))) e
    ∙ ap (step_of i q at (from + (m + n))) (chain_of-chain_of i q at from m n x)
    ∙ ap (λ c. chain_of i q at from c x) e'

length-step_of : (i : List ℕ) (q at j : ℕ) (x : List ℕ) → length (step_of i q at j x) ≡ 32
unfolding step_of
length-step_of i q at j x = length-sha256 (prefix i q at ++ j ∷ [] ++ x)

pub length-chain_of : (i : List ℕ) (q at from n : ℕ) (x : List ℕ) → length x ≡ 32 → length (chain_of i q at from n x) ≡ 32
unfolding chain_of
length-chain_of i q at from zero x l = l
length-chain_of i q at from (suc n) x l = length-step_of i q at (from + n) (chain_of i q at from n x)

pub length-secret_of : (i : List ℕ) (q : ℕ) (seed : List ℕ) (at : ℕ) → length (secret_of i q seed at) ≡ 32
unfolding secret_of
length-secret_of i q seed at = length-sha256 (prefix i q at ++ 0xff ∷ [] ++ seed)

length-shown_value : (i : List ℕ) (q : ℕ) (seed digits : List ℕ) (at : ℕ) → length (shown_value i q seed digits at) ≡ 32
unfolding shown_value
length-shown_value i q seed digits at = length-chain_of i q at 0 (get_or digits at 0) (secret_of i q seed at) (length-secret_of i q seed at)

pub length-randomiser_of : (i : List ℕ) (q : ℕ) (seed : List ℕ) → length (randomiser_of i q seed) ≡ 32
unfolding randomiser_of
length-randomiser_of i q seed = length-sha256 (prefix i q 0xfffd ++ 0xff ∷ [] ++ seed)

-- the number of octets of several pieces of 32 octets
pub length-pieces : (g : ℕ → List ℕ) → ((a : ℕ) → length (g a) ≡ 32) → (from n : ℕ) → length (flat_map g (range_with_len from n)) ≡ 32 * n
length-pieces g l from zero = refl
length-pieces g l from (suc n) =
    let rest = flat_map g (range_with_len (from + 1) n) in
    omega (arith, length-append (g from) rest, l from, length-pieces g l (from + 1) n)

-- the piece at an index, if all pieces have 32 octets
pub piece-at : (g : ℕ → List ℕ) → ((a : ℕ) → length (g a) ≡ 32) → (from n at : ℕ) → at < n → take 32 (drop (32 * at) (flat_map g (range_with_len from n))) ≡ g (from + at)
piece-at g l from zero at h = absurd (omega (arith, h))
piece-at g l from (suc n) zero h =
    let z : 32 * 0 ≡ 0 = refl in
    let e : from ≡ from + 0 = omega arith in
    take_at (g from) (flat_map g (range_with_len (from + 1) n)) 32 (l from) ∙ ap g e
piece-at g l from (suc n) (suc at) h =
    let rest = flat_map g (range_with_len (from + 1) n) in
    let e : 32 * suc at ≡ 32 + 32 * at = omega arith in
    let e' : (from + 1) + at ≡ from + suc at = omega arith in
    ap (λ k. take 32 (drop k (g from ++ rest))) e
    ∙ ap (take 32) (sym (drop-drop (32 * at) 32 (g from ++ rest)) ∙ ap (drop (32 * at)) (drop_at (g from) rest 32 (l from)))
    ∙ piece-at g l (from + 1) n at (omega (arith, h)) ∙ ap g e'

-- a signature has 1,124 octets
pub length-signature_of : (i : List ℕ) (q : ℕ) (seed text : List ℕ) → length (signature_of i q seed text) ≡ 1124
unfolding signature_of
length-signature_of i q seed text =
    let c = randomiser_of i q seed in
    let g = shown_value i q seed (digits_of i q c text) in
    let all = flat_map g (range_with_len 0 34) in
    let size : length (c ++ all) ≡ 1120 = omega (arith, length-append c all, length-randomiser_of i q seed, length-pieces g (length-shown_value i q seed (digits_of i q c text)) 0 34) in
    ap (λ n. suc (suc (suc (suc n)))) size

-- the positions of the randomiser and of the values in a signature
signature-randomiser : (i : List ℕ) (q : ℕ) (seed text : List ℕ) → take 32 (drop 4 (signature_of i q seed text)) ≡ randomiser_of i q seed
unfolding signature_of
signature-randomiser i q seed text =
    take_at (randomiser_of i q seed) (flat_map (shown_value i q seed (digits_of i q (randomiser_of i q seed) text)) (range_with_len 0 34)) 32 (length-randomiser_of i q seed)

pub signature-value : (i : List ℕ) (q : ℕ) (seed text : List ℕ) (at : ℕ) → at < 34 → take 32 (drop (36 + 32 * at) (signature_of i q seed text)) ≡ shown_value i q seed (digits_of i q (randomiser_of i q seed) text) at
unfolding signature_of
signature-value i q seed text at h =
    let c = randomiser_of i q seed in
    let g = shown_value i q seed (digits_of i q c text) in
    let all = flat_map g (range_with_len 0 34) in
    let head = to_be_bytes w32 4 ++ c in
    let size : length head ≡ 36 = ap (λ n. suc (suc (suc (suc n)))) (length-randomiser_of i q seed) in
    let e : 0 + at ≡ at = omega arith in
    ap (take 32) (sym (drop-drop (32 * at) 36 (head ++ all)) ∙ ap (drop (32 * at)) (drop_at head all 36 size))
    ∙ piece-at g (length-shown_value i q seed (digits_of i q c text)) 0 34 at h ∙ ap g e

-- ---- octets

octets-append : (a b : List ℕ) → ((i : ℕ) → get_or a i 0 < 256) → ((i : ℕ) → get_or b i 0 < 256) → (i : ℕ) → get_or (a ++ b) i 0 < 256
octets-append [] b p q i = q i
octets-append (x ∷ a) b p q zero = p 0
octets-append (x ∷ a) b p q (suc i) = octets-append a b (λ j. p (suc j)) q i

octets_4 : (n i : ℕ) → get_or (to_be_bytes w32 n) i 0 < 256
octets_4 n zero = omega arith
octets_4 n (suc zero) = omega arith
octets_4 n (suc (suc zero)) = omega arith
octets_4 n (suc (suc (suc zero))) = omega arith
octets_4 n (suc (suc (suc (suc i)))) = omega arith

octets_2 : (n i : ℕ) → get_or (to_be_bytes w16 n) i 0 < 256
octets_2 n zero = omega arith
octets_2 n (suc zero) = omega arith
octets_2 n (suc (suc i)) = omega arith

octets-digest_bytes : (h : List ℕ) (n i : ℕ) → get_or (digest_bytes h n) i 0 < 256
unfolding digest_bytes
octets-digest_bytes h zero i = omega arith
octets-digest_bytes h (suc n) i = octets-append (digest_bytes h n) (to_be_bytes w32 (get_or h n 0)) (octets-digest_bytes h n) (octets_4 (get_or h n 0)) i

pub octets-sha256 : (m : List ℕ) (i : ℕ) → get_or (sha256 m) i 0 < 256
unfolding sha256
octets-sha256 m i = octets-digest_bytes (final_hash initial_hash_256 m) 8 i

pub octets-digits_of : (i : List ℕ) (q : ℕ) (c text : List ℕ) (at : ℕ) → get_or (digits_of i q c text) at 0 < 256
unfolding digits_of text_hash
octets-digits_of i q c text at =
    octets-append (sha256 (prefix i q 0x8181 ++ c ++ text)) (to_be_bytes w16 (checksum (sha256 (prefix i q 0x8181 ++ c ++ text)))) (octets-sha256 (prefix i q 0x8181 ++ c ++ text)) (octets_2 (checksum (sha256 (prefix i q 0x8181 ++ c ++ text)))) at

flat_map-range-same : {X : Type 0} (g h : ℕ → List X) (a c : ℕ) → ((i : ℕ) → a ≤ i → i < a + c → g i ≡ h i) → flat_map g (range_with_len a c) ≡ flat_map h (range_with_len a c)
flat_map-range-same g h a zero e = refl
flat_map-range-same g h a (suc c) e =
    ap (λ l. l ++ flat_map g (range_with_len (a + 1) c)) (e a (omega arith) (omega arith))
    ∙ ap (λ l. h a ++ l) (flat_map-range-same g h (a + 1) c (λ i p q. e i (omega (arith, p)) (omega (arith, q))))

key_of-same : (i : List ℕ) (q : ℕ) (g h : ℕ → List ℕ) → ((at : ℕ) → at < 34 → g at ≡ h at) → key_of i q g ≡ key_of i q h
unfolding key_of
key_of-same i q g h e = ap (λ l. sha256 (prefix i q 0x8080 ++ l)) (flat_map-range-same g h 0 34 (λ at _ l. e at (omega (arith, l))))

-- a signature ends each chain at the public value
ended-signature : (i : List ℕ) (q : ℕ) (seed text : List ℕ) (at : ℕ) → at < 34 → ended_value i q (digits_of i q (randomiser_of i q seed) text) (signature_of i q seed text) at ≡ public_value i q seed at
unfolding ended_value shown_value public_value
ended-signature i q seed text at h =
    let digits = digits_of i q (randomiser_of i q seed) text in
    let d = get_or digits at 0 in
    let e : 0 + d ≡ d = omega arith in
    let all : d + (255 - d) ≡ 255 = omega (arith, octets-digits_of i q (randomiser_of i q seed) text at) in
    ap (chain_of i q at d (255 - d)) (signature-value i q seed text at h)
    ∙ ap (λ n. chain_of i q at n (255 - d) (chain_of i q at 0 d (secret_of i q seed at))) (sym e)
    ∙ chain_of-chain_of i q at 0 d (255 - d) (secret_of i q seed at)
    ∙ ap (λ n. chain_of i q at 0 n (secret_of i q seed at)) all

-- a signature that was made leads to the public key
pub candidate_of-signature_of : (i : List ℕ) (q : ℕ) (seed text : List ℕ) → candidate_of i q (signature_of i q seed text) text ≡ public_of i q seed
unfolding candidate_of public_of
candidate_of-signature_of i q seed text =
    ap (λ c. key_of i q (ended_value i q (digits_of i q c text) (signature_of i q seed text))) (signature-randomiser i q seed text)
    ∙ key_of-same i q (ended_value i q (digits_of i q (randomiser_of i q seed) text) (signature_of i q seed text)) (public_value i q seed) (ended-signature i q seed text)
