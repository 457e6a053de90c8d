-- Chains and paths up a tree, one step at a time.
use Rattle.std.proofs.Common.{◌≡◌, ℕ, zero, suc, ◌+◌, ◌-◌, ◌*◌, ◌/◌, ◌%◌, ◌^◌, ◌≤◌, ◌==◌, Bool, true, false, cond, List, [], ◌∷◌, ◌++◌, length, take, drop, refl, sym, ap, ◌∙◌, arith, Option, Some, None, IfNone}
use Rattle.std.proofs.lemmas.List.{append_assoc, append_cancel_left, drop-drop}
use Rattle.sha2.specs.Sha256.{sha256}
use Rattle.lms_ots.specs.Chains.{prefix, chain_of, step_of}
use Rattle.lms_tree.specs.Signatures.{climbed, above, inner_of}
use Rattle.lms_reduce.specs.Texts.{step_text, inner_text, parent_text}
use Rattle.lms_reduce.specs.Ways.{walked, raised}
use Rattle.lms_reduce.proofs.TextLemmas.{front-same, back-same}

-- the consequence if no value exists
pub IfNone-map : {A P Q : Type 0} (o : Option A) → (P → Q) → IfNone o P → IfNone o Q
IfNone-map None f p = f p
IfNone-map (Some x) f p = tt

-- ---- a step of a chain

pub walked-none : (hash : List ℕ → List ℕ) (i : List ℕ) (q at from : ℕ) (x : List ℕ) → x ≡ walked hash i q at from (from - from) x
unfolding walked
walked-none hash i q at from x =
    let z : 0 ≡ from - from = omega arith in
    ap (λ n. walked hash i q at from n x) z

pub walked-more : (hash : List ℕ → List ℕ) (i : List ℕ) (q at from number : ℕ) (x now : List ℕ) → from ≤ number → now ≡ walked hash i q at from (number - from) x → hash (step_text i q at number now) ≡ walked hash i q at from (number + 1 - from) x
unfolding walked
walked-more hash i q at from number x now l e =
    let n : ℕ = number - from in
    let here : number ≡ from + n = omega arith in
    let count : suc n ≡ number + 1 - from = omega arith in
    ap (λ v. hash (step_text i q at number v)) e ∙ ap (λ j. hash (step_text i q at j (walked hash i q at from n x))) here ∙ ap (λ c. walked hash i q at from c x) count

-- a text belongs to exactly one value
pub step_text-same : (i : List ℕ) (q at j : ℕ) (x y : List ℕ) → step_text i q at j x ≡ step_text i q at j y → x ≡ y
unfolding step_text
step_text-same i q at j x y e = append_cancel_left (prefix i q at ++ j ∷ []) x y e

-- over SHA-256 the chain is that of the standard
pub walked-chain_of : (i : List ℕ) (q at from n : ℕ) (x : List ℕ) → walked sha256 i q at from n x ≡ chain_of i q at from n x
unfolding walked chain_of step_text step_of
walked-chain_of i q at from zero x = refl
walked-chain_of i q at from (suc n) x = ap (λ v. sha256 (prefix i q at ++ (from + n) ∷ [] ++ v)) (walked-chain_of i q at from n x)

-- ---- a level of a tree

pub raised-more : (hash : List ℕ → List ℕ) (i : List ℕ) (r : ℕ) (value path : List ℕ) (n node : ℕ) (now : List ℕ) → node ≡ r / 2 ^ n → now ≡ raised hash i r value path n → hash (parent_text i node now (take 32 (drop (32 * n) path))) ≡ raised hash i r value path (n + 1)
unfolding raised
raised-more hash i r value path n node now en ev =
    let e : suc n ≡ n + 1 = omega arith in
    ap (λ x. hash (parent_text i x now (take 32 (drop (32 * n) path)))) en ∙ ap (λ x. hash (parent_text i (r / 2 ^ n) x (take 32 (drop (32 * n) path)))) ev
    ∙ ap (raised hash i r value path) e

value-same : (p x y a b : List ℕ) (even : Bool) → length x ≡ length y → length a ≡ length b → cond even (p ++ x ++ a) (p ++ a ++ x) ≡ cond even (p ++ y ++ b) (p ++ b ++ y) → x ≡ y
value-same p x y a b true lx la e =
    front-same x a y b lx (append_cancel_left p (x ++ a) (y ++ b) (sym (append_assoc p x a) ∙ e ∙ append_assoc p y b))
value-same p x y a b false lx la e =
    back-same a x b y la (append_cancel_left p (a ++ x) (b ++ y) (sym (append_assoc p a x) ∙ e ∙ append_assoc p b y))

-- a text belongs to exactly one value
pub parent_text-same : (i : List ℕ) (r : ℕ) (x y a b : List ℕ) → length x ≡ length y → length a ≡ length b → parent_text i r x a ≡ parent_text i r y b → x ≡ y
unfolding parent_text inner_text
parent_text-same i r x y a b lx la e = value-same (prefix i (r / 2) 0x8383) x y a b (r % 2 == 0) lx la e

hash-cond : (even : Bool) (x y : List ℕ) → sha256 (cond even x y) ≡ cond even (sha256 x) (sha256 y)
hash-cond true x y = refl
hash-cond false x y = refl

parent-above : (i : List ℕ) (r : ℕ) (x a : List ℕ) → sha256 (parent_text i r x a) ≡ above i r x a
unfolding parent_text inner_text above inner_of
parent-above i r x a = hash-cond (r % 2 == 0) (prefix i (r / 2) 0x8383 ++ x ++ a) (prefix i (r / 2) 0x8383 ++ a ++ x)

-- over SHA-256 the path is that of the standard
pub raised-climbed : (i : List ℕ) (r : ℕ) (value octets : List ℕ) (at n : ℕ) → raised sha256 i r value (drop at octets) n ≡ climbed i r value octets at n
unfolding raised climbed
raised-climbed i r value octets at zero = refl
raised-climbed i r value octets at (suc n) =
    ap (λ (o : List ℕ). sha256 (parent_text i (r / 2 ^ n) (raised sha256 i r value (drop at octets) n) (take 32 o))) (drop-drop (32 * n) at octets)
    ∙ ap (λ v. sha256 (parent_text i (r / 2 ^ n) v (take 32 (drop (at + 32 * n) octets)))) (raised-climbed i r value octets at n)
    ∙ parent-above i (r / 2 ^ n) (climbed i r value octets at n) (take 32 (drop (at + 32 * n) octets))
