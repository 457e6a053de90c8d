-- One-time signatures: LM-OTS of RFC 8554, § 4 and Appendix A, with the parameters LMOTS_SHA256_N32_W8 (§ 4.1): H
-- is SHA-256, n = 32, w = 8, p = 34, ls = 0, type 4. The names I, q, SEED, x, y, z, C, Q, K and Kc are those of the
-- standard.
use Rattle.std.specs.Prelude.{ℕ, zero, suc, ◌+◌, ◌-◌, ◌*◌, List, [], ◌∷◌, ◌++◌, take, drop, slice_index}
use Rattle.std.specs.List.{range_with_len, flat_map, sum_by}
use Rattle.std.specs.Int.{w16, w32, to_be_bytes}
use Rattle.sha2.specs.Sha256.{sha256}

-- the prefix of each hashed text: I || u32str(q) || u16str(at)
abbrev pub prefix : List ℕ → ℕ → ℕ → List ℕ
prefix i q at = i ++ to_be_bytes w32 q ++ to_be_bytes w16 at

-- the secret value x_q[at] = H(I || u32str(q) || u16str(at) || u8str(0xff) || SEED) (Appendix A)
unfoldable pub secret_of : List ℕ → ℕ → List ℕ → ℕ → List ℕ
secret_of i q seed at = sha256 (prefix i q at ++ 0xff ∷ [] ++ seed)

-- step j of chain at: H(I || u32str(q) || u16str(at) || u8str(j) || x) (§ 4.3)
unfoldable pub step_of : List ℕ → ℕ → ℕ → ℕ → List ℕ → List ℕ
step_of i q at j x = sha256 (prefix i q at ++ j ∷ [] ++ x)

-- the given number of steps of chain at; from is the number of the first one
unfoldable pub chain_of : List ℕ → ℕ → ℕ → ℕ → ℕ → List ℕ → List ℕ
chain_of i q at from zero x = x
chain_of i q at from (suc count) x = step_of i q at (from + count) (chain_of i q at from count x)

-- the hash of 34 values, one for each chain: H(I || u32str(q) || D_PBLC || value[0] || .. ||
-- value[33]) (§ 4.3 and § 4.6)
unfoldable pub key_of : List ℕ → ℕ → (ℕ → List ℕ) → List ℕ
key_of i q values = sha256 (prefix i q 0x8080 ++ flat_map values (range_with_len 0 34))

-- the public value y[at], the end of its chain (§ 4.3)
unfoldable pub public_value : List ℕ → ℕ → List ℕ → ℕ → List ℕ
public_value i q seed at = chain_of i q at 0 255 (secret_of i q seed at)

-- the public key's hash K (§ 4.3)
unfoldable pub public_of : List ℕ → ℕ → List ℕ → List ℕ
public_of i q seed = key_of i q (public_value i q seed)

-- the randomiser C, derived like a secret value with the number 0xfffd
unfoldable pub randomiser_of : List ℕ → ℕ → List ℕ → List ℕ
randomiser_of i q seed = sha256 (prefix i q 0xfffd ++ 0xff ∷ [] ++ seed)

-- the hash of a text, Q = H(I || u32str(q) || D_MESG || C || text) (§ 4.5)
unfoldable pub text_hash : List ℕ → ℕ → List ℕ → List ℕ → List ℕ
text_hash i q c text = sha256 (prefix i q 0x8181 ++ c ++ text)

-- the checksum Cksm of octets (§ 4.4)
abbrev pub checksum : List ℕ → ℕ
checksum octets = sum_by (λ o. 255 - o) octets

-- the 34 digits of a text, the octets of Q || Cksm(Q) (§ 4.5)
unfoldable pub digits_of : List ℕ → ℕ → List ℕ → List ℕ → List ℕ
digits_of i q c text = text_hash i q c text ++ to_be_bytes w16 (checksum (text_hash i q c text))

-- the value y[at] of a signature: the value of the chain after as many steps as the digit (§ 4.5)
unfoldable pub shown_value : List ℕ → ℕ → List ℕ → List ℕ → ℕ → List ℕ
shown_value i q seed digits at = chain_of i q at 0 (slice_index digits at) (secret_of i q seed at)

-- the one-time signature of a text: u32str(type) || C || y[0] || .. || y[33] (§ 4.5)
unfoldable pub signature_of : List ℕ → ℕ → List ℕ → List ℕ → List ℕ
signature_of i q seed text =
    let c = randomiser_of i q seed in
    to_be_bytes w32 4 ++ c ++ flat_map (shown_value i q seed (digits_of i q c text))
    (range_with_len 0 34)

-- the value z[at]: the end of the chain, computed from the value in a signature (§ 4.6)
unfoldable pub ended_value : List ℕ → ℕ → List ℕ → List ℕ → ℕ → List ℕ
ended_value i q digits ots at =
    chain_of i q at (slice_index digits at) (255 - slice_index digits at)
    (take 32 (drop (36 + 32 * at) ots))

-- the candidate Kc: the public key's hash computed from a signature of a text (§ 4.6, algorithm 4b)
unfoldable pub candidate_of : List ℕ → ℕ → List ℕ → List ℕ → List ℕ
candidate_of i q ots text = key_of i q
    (ended_value i q (digits_of i q (take 32 (drop 4 ots)) text) ots)
