-- Hashed texts: which are equal, and their digests.
use Rattle.std.proofs.Common.{◌≡◌, ℕ, zero, suc, ◌+◌, ◌-◌, ◌*◌, ◌<◌, ◌≤◌, List, ◌++◌, length, get_or, take, drop, refl, sym, ap, subst, ◌∙◌, arith, inl, inr}
use Rattle.std.specs.List.{range_with_len, flat_map}
use Rattle.std.proofs.lemmas.Bool.{cases_eq}
use Rattle.std.proofs.lemmas.List.{append_assoc, append_cancel_left, take_at, drop_at, length-take-le, length-drop}
use Rattle.sha2.specs.Sha256.{sha256}
use Rattle.lms_ots.specs.Chains.{prefix, chain_of, secret_of, public_value, ended_value, key_of, public_of, text_hash}
use Rattle.lms_ots.proofs.OtsLemmas.{chain_of-chain_of, length-chain_of, length-secret_of}
use Rattle.lms_tree.specs.Signatures.{leaf_of}
use Rattle.lms_reduce.specs.Texts.{leaf_text, message_text, values_text}
use Rattle.lms_reduce.specs.Comparing.{EndsOwn}

-- if two texts with prefixes of equal length are equal, so are the prefixes and the rests
pub front-same : (a b c d : List ℕ) → length a ≡ length c → a ++ b ≡ c ++ d → a ≡ c
front-same a b c d l e = sym (take_at a b (length a) refl) ∙ ap (take (length a)) e ∙ take_at c d (length a) (sym l)

pub back-same : (a b c d : List ℕ) → length a ≡ length c → a ++ b ≡ c ++ d → b ≡ d
back-same a b c d l e = sym (drop_at a b (length a) refl) ∙ ap (drop (length a)) e ∙ drop_at c d (length a) (sym l)

-- ---- digests

pub sha256-values_text : (i : List ℕ) (q : ℕ) (values : ℕ → List ℕ) → sha256 (values_text i q values) ≡ key_of i q values
unfolding values_text key_of
sha256-values_text i q values = refl

pub sha256-own_ends : (i : List ℕ) (q : ℕ) (seed : List ℕ) → sha256 (values_text i q (public_value i q seed)) ≡ public_of i q seed
unfolding values_text key_of public_of
sha256-own_ends i q seed = refl

pub sha256-message_text : (i : List ℕ) (q : ℕ) (c text : List ℕ) → sha256 (message_text i q c text) ≡ text_hash i q c text
unfolding message_text text_hash
sha256-message_text i q c text = refl

pub sha256-leaf_text : (i : List ℕ) (r : ℕ) (key : List ℕ) → sha256 (leaf_text i r key) ≡ leaf_of i r key
unfolding leaf_text leaf_of
sha256-leaf_text i r key = refl

-- ---- a text belongs to exactly one value

pub leaf_text-same : (i : List ℕ) (r : ℕ) (x y : List ℕ) → leaf_text i r x ≡ leaf_text i r y → x ≡ y
unfolding leaf_text
leaf_text-same i r x y e = append_cancel_left (prefix i r 0x8282) x y e

pub message_text-same : (i : List ℕ) (q : ℕ) (c d text other : List ℕ) → length c ≡ length d → message_text i q c text ≡ message_text i q d other → text ≡ other
unfolding message_text
message_text-same i q c d text other l e =
    let p = prefix i q 0x8181 in
    back-same c text d other l (append_cancel_left p (c ++ text) (d ++ other) (sym (append_assoc p c text) ∙ e ∙ append_assoc p d other))

pieces-same : (g h : ℕ → List ℕ) (from n : ℕ) → ((a : ℕ) → from ≤ a → a < from + n → length (g a) ≡ length (h a)) → flat_map g (range_with_len from n) ≡ flat_map h (range_with_len from n) → (a : ℕ) → from ≤ a → a < from + n → g a ≡ h a
pieces-same g h from zero l e a lo hi = absurd (omega (arith, lo, hi))
pieces-same g h from (suc n) l e a lo hi =
    elim (cases_eq a from) [
      | inl same ↦ subst (λ x. g x ≡ h x) (sym same) (front-same (g from) (flat_map g (range_with_len (from + 1) n)) (h from) (flat_map h (range_with_len (from + 1) n)) (l from (omega arith) (omega arith)) e)
      | inr other ↦ pieces-same g h (from + 1) n (λ b p q. l b (omega (arith, p)) (omega (arith, q)))
          (back-same (g from) (flat_map g (range_with_len (from + 1) n)) (h from) (flat_map h (range_with_len (from + 1) n)) (l from (omega arith) (omega arith)) e)
          a (below from a lo other) (omega (arith, hi))
    ]
  where
    below : (x y : ℕ) → x ≤ y → (y ≡ x → ⊥) → x + 1 ≤ y
    below x y l ne = omega (arith, l, ne)

length-public_value : (i : List ℕ) (q : ℕ) (seed : List ℕ) (at : ℕ) → length (public_value i q seed at) ≡ 32
unfolding public_value
length-public_value i q seed at = length-chain_of i q at 0 255 (secret_of i q seed at) (length-secret_of i q seed at)

length-ended_value : (i : List ℕ) (q : ℕ) (digits ots : List ℕ) (at : ℕ) → length ots ≡ 1124 → at < 34 → length (ended_value i q digits ots at) ≡ 32
unfolding ended_value
length-ended_value i q digits ots at l h =
    length-chain_of i q at (get_or digits at 0) (255 - get_or digits at 0) (take 32 (drop (36 + 32 * at) ots))
    (length-take-le 32 (drop (36 + 32 * at) ots) (omega (arith, length-drop (36 + 32 * at) ots, l, h)))

pub EndsOwn-same : (i : List ℕ) (q : ℕ) (seed digits ots : List ℕ) → length ots ≡ 1124 → values_text i q (public_value i q seed) ≡ values_text i q (ended_value i q digits ots) → EndsOwn i q seed digits ots
unfolding values_text
EndsOwn-same i q seed digits ots l e =
    let g = public_value i q seed in
    let h = ended_value i q digits ots in
    record {
      ends = λ at lt. sym (pieces-same g h 0 34 (λ a _ q. length-public_value i _ seed a ∙ sym (length-ended_value i _ digits ots a l (omega (arith, q))))
          (append_cancel_left (prefix i q 0x8080) (flat_map g (range_with_len 0 34)) (flat_map h (range_with_len 0 34)) e) at (omega arith) (omega (arith, lt)));
    }

-- ---- the rest of a chain

-- the rest of the chain leads from the key's own value at a digit to the public value
pub own-end : (i : List ℕ) (q : ℕ) (seed : List ℕ) (at digit : ℕ) → digit ≤ 255 → chain_of i q at digit (255 - digit) (chain_of i q at 0 digit (secret_of i q seed at)) ≡ public_value i q seed at
unfolding public_value
own-end i q seed at digit l =
    let e : digit ≡ 0 + digit = omega arith in
    let all : digit + (255 - digit) ≡ 255 = omega (arith, l) in
    ap (λ n. chain_of i q at n (255 - digit) (chain_of i q at 0 digit (secret_of i q seed at))) e
    ∙ chain_of-chain_of i q at 0 digit (255 - digit) (secret_of i q seed at)
    ∙ ap (λ n. chain_of i q at 0 n (secret_of i q seed at)) all

-- and from the value that a signature shows to the end that it shows
pub shown-end : (i : List ℕ) (q : ℕ) (digits ots : List ℕ) (at : ℕ) → chain_of i q at (get_or digits at 0) (255 - get_or digits at 0) (take 32 (drop (36 + 32 * at) ots)) ≡ ended_value i q digits ots at
unfolding ended_value
shown-end i q digits ots at = refl
