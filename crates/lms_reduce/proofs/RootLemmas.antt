-- The key's own path and the path of a valid signature lead to the same root.
use Rattle.std.proofs.Common.{◌≡◌, ℕ, ◌+◌, ◌-◌, ◌*◌, ◌/◌, ◌^◌, ◌<◌, ◌≤◌, List, take, drop, Option, None, IfNone, refl, sym, ap, subst, ◌∙◌, arith}
use Rattle.std.proofs.lemmas.List.{drop-take, take-take}
use Rattle.sha2.specs.Sha256.{sha256}
use Rattle.lms_ots.specs.Chains.{public_of, candidate_of}
use Rattle.lms_tree.specs.Signatures.{KeyOf, height_of, node_of, leaf_of, path_node, sibling, number_at, climbed, shown_root}
use Rattle.lms_tree.proofs.PathLemmas.{climbed-path}
use Rattle.lms_tree.proofs.SealLemmas.{leaf-is, root-number}
use Rattle.lms_reduce.specs.Ways.{raised}
use Rattle.lms_reduce.proofs.WayLemmas.{raised-climbed}
use Rattle.lms_reduce.proofs.GoodLemmas.{IsGood}

-- a fact that holds if no value exists
pub IfNone-none : {A P : Type 0} (o : Option A) → o ≡ None → IfNone o P → P
IfNone-none {A} {P} o e p = subst (λ (x : Option A). IfNone x P) e p

-- the octets of a part
pub take-inside : (at n m : ℕ) (xs : List ℕ) → at + n ≤ m → take n (drop at (take m xs)) ≡ take n (drop at xs)
take-inside at n m xs l =
    let more : m ≡ at + (m - at) = omega arith in
    ap (λ k. take n (drop at (take k xs))) more ∙ ap (take n) (drop-take at (m - at) xs) ∙ take-take n (m - at) (drop at xs) (omega (arith, l))

pub path-is : (i seed : List ℕ) (h q k : ℕ) → path_node i seed h q k ≡ node_of i seed h k (sibling ((2 ^ h + q) / 2 ^ k))
unfolding path_node
path-is i seed h q k = refl

-- the key's own path leads to the root
pub own-root : (key : KeyOf) (q : ℕ) (path value : List ℕ) → q < 2 ^ height_of key.kind → ((level : ℕ) → level < height_of key.kind → take 32 (drop (32 * level) path) ≡ path_node key.i key.seed (height_of key.kind) q level) → value ≡ leaf_of key.i (2 ^ height_of key.kind + q) (public_of key.i q key.seed) → raised sha256 key.i (2 ^ height_of key.kind + q) value (take (32 * height_of key.kind) path) (height_of key.kind) ≡ node_of key.i key.seed (height_of key.kind) (height_of key.kind) 1
own-root key q path value l p e =
    let i = key.i in
    let seed = key.seed in
    let h = height_of key.kind in
    let r : ℕ = 2 ^ h + q in
    let part = take (32 * h) path in
    raised-climbed i r value part 0 h
    ∙ climbed-path i seed h r part 0 value h (e ∙ leaf-is i seed h q) (λ k lt. (let e : 0 + 32 * k ≡ 32 * k = omega arith in ap (λ n. take 32 (drop n part)) e) ∙ take-inside (32 * k) 32 (32 * h) path (omega (arith, lt)) ∙ p k lt ∙ path-is i seed h q k)
    ∙ ap (node_of i seed h h) (root-number h q l)

-- and so does the path that a valid signature shows
pub shown-root : (key : KeyOf) (q : ℕ) (text sig value : List ℕ) → IsGood key text sig → q ≡ number_at sig 0 → value ≡ leaf_of key.i (2 ^ height_of key.kind + q) (candidate_of key.i q (take 1124 (drop 4 sig)) text) → raised sha256 key.i (2 ^ height_of key.kind + q) value (drop 1132 sig) (height_of key.kind) ≡ node_of key.i key.seed (height_of key.kind) (height_of key.kind) 1
unfolding shown_root
shown-root key q text sig value good e v =
    let i = key.i in
    let h = height_of key.kind in
    let shown : ℕ → List ℕ = λ n. climbed i (2 ^ h + n) (leaf_of i (2 ^ h + n) (candidate_of i n (take 1124 (drop 4 sig)) text)) sig 1132 h in
    raised-climbed i (2 ^ h + q) value sig 1132 h ∙ ap (λ (x : List ℕ). climbed i (2 ^ h + q) x sig 1132 h) v ∙ ap shown e ∙ good.root

-- so the two paths end with the same value, in terms of the values on them
pub ends-meet : (key : KeyOf) (q : ℕ) (text sig path left right i beside : List ℕ) (leaf height n : ℕ) → IsGood key text sig → q ≡ number_at sig 0 → ((level : ℕ) → level < height_of key.kind → take 32 (drop (32 * level) path) ≡ path_node key.i key.seed (height_of key.kind) q level) → i ≡ key.i → leaf ≡ 2 ^ height_of key.kind + q → height ≡ height_of key.kind → n ≡ height_of key.kind → beside ≡ drop 1132 sig → left ≡ leaf_of i leaf (public_of key.i q key.seed) → right ≡ leaf_of i leaf (candidate_of key.i q (take 1124 (drop 4 sig)) text) → raised sha256 i leaf left (take (32 * height) path) n ≡ raised sha256 i leaf right beside n
ends-meet key q text sig path left right i beside leaf height n good slot p ei el eh en eb own shown =
    let h = height_of key.kind in
    let r : ℕ = 2 ^ h + q in
    let low : q < 2 ^ h = omega (arith, slot, good.slot) in
    let a : raised sha256 key.i r left (take (32 * h) path) h ≡ node_of key.i key.seed h h 1 = own-root key q path left low p (own ∙ ap (λ (x : List ℕ). leaf_of x leaf (public_of key.i q key.seed)) ei ∙ ap (λ x. leaf_of key.i x (public_of key.i q key.seed)) el) in
    let b : raised sha256 key.i r right (drop 1132 sig) h ≡ node_of key.i key.seed h h 1 = shown-root key q text sig right good slot (shown ∙ ap (λ (x : List ℕ). leaf_of x leaf (candidate_of key.i q (take 1124 (drop 4 sig)) text)) ei ∙ ap (λ x. leaf_of key.i x (candidate_of key.i q (take 1124 (drop 4 sig)) text)) el) in
    ap (λ (x : List ℕ). raised sha256 x leaf left (take (32 * height) path) n) ei ∙ ap (λ x. raised sha256 key.i x left (take (32 * height) path) n) el
    ∙ ap (λ x. raised sha256 key.i r left (take (32 * x) path) n) eh ∙ ap (raised sha256 key.i r left (take (32 * h) path)) en ∙ a ∙ sym b
    ∙ ap (λ (x : List ℕ). raised sha256 key.i r right x h) (sym eb) ∙ ap (raised sha256 key.i r right beside) (sym en)
    ∙ ap (λ x. raised sha256 key.i x right beside n) (sym el) ∙ ap (λ (x : List ℕ). raised sha256 x leaf right beside n) (sym ei)
