-- Where two paths meet.
use Rattle.std.proofs.Common.{◌≡◌, ℕ, ◌+◌, ◌-◌, ◌*◌, ◌/◌, ◌^◌, ◌<◌, ◌≤◌, List, get_or, take, drop, Option, Some, None, Result, Ok, Err, IfOk, IfSome, arith, ap, subst, sym, ◌∙◌, inl, inr}
use Rattle.std.specs.Prelude.{IsSomeAnd}
use Rattle.std.proofs.lemmas.Bool.{cases_eq}
use Rattle.std.proofs.lemmas.List.{drop-drop}
use Rattle.sha2.specs.Sha256.{sha256}
use Rattle.octet_text.specs.declared.errors.NoMemory.{NoMemory}
use Rattle.octet_text.specs.Collisions.{AreCollision}
use Rattle.lms_ots.specs.Chains.{chain_of, secret_of, public_of, candidate_of}
use Rattle.lms_ots.proofs.OtsLemmas.{chain_of-chain_of}
use Rattle.lms_tree.specs.Signatures.{KeyOf, height_of, node_of, leaf_of, path_node, climbed}
use Rattle.lms_tree.proofs.PathLemmas.{climbed-path}
use Rattle.lms_tree.proofs.SealLemmas.{leaf-is}
use Rattle.lms_reduce.specs.Texts.{step_text, parent_text}
use Rattle.lms_reduce.specs.Ways.{raised}
use Rattle.lms_reduce.specs.Meetings.{text_of_step, text_above, IsFirstMeeting, IsHighestMeeting, own_node, shown_node, own_step, shown_step, MeetAtNode, MeetInChain}
use Rattle.lms_reduce.specs.declared.comparing.Clash.{Clash}
use Rattle.lms_reduce.proofs.RootLemmas.{take-inside, path-is}
use Rattle.lms_reduce.proofs.WayLemmas.{raised-climbed, walked-chain_of}

-- the texts compared at an index have no earlier collision
pub none-here : (hash : List ℕ → List ℕ) (a b x y left right : List ℕ) → a ≡ x → b ≡ y → left ≡ hash a → right ≡ hash b → (left ≡ right → a ≡ b) → ¬ AreCollision hash x y
none-here hash a b x y left right ea eb ha hb none c =
    c.differ (sym ea ∙ none (ha ∙ ap hash ea ∙ c.one_digest ∙ sym (ap hash eb) ∙ sym hb) ∙ eb)

-- a fact about all indices before one, and about that one
pub one-more : (P : ℕ → Type 0) (from n : ℕ) → ((b : ℕ) → from ≤ b → b < n → P b) → P n → (b : ℕ) → from ≤ b → b < n + 1 → P b
one-more P from n before here b lo hi = elim (cases_eq b n) [
  | inl same ↦ subst P (sym same) here
  | inr other ↦ before b lo (less b n hi other)
]
  where
    less : (x y : ℕ) → x < y + 1 → (x ≡ y → ⊥) → x < y
    less x y l ne = omega (arith, l, ne)

-- a fact about two texts holds for the two copies
pub kept-meet : (P : List ℕ → List ℕ → Type 0) (r : Result (Option Clash) NoMemory) (left right : List ℕ) → IfOk r (λ o. IsSomeAnd o (λ c. (c.left ≡ left) × (c.right ≡ right))) → P left right → IfOk r (λ o. IfSome o (λ c. P c.left c.right))
kept-meet P (Err e) left right kept p = tt
kept-meet P (Ok None) left right kept p = tt
kept-meet P (Ok (Some c)) left right kept p = subst (λ (x : List ℕ). P x c.right) (sym kept.0) (subst (λ (y : List ℕ). P left y) (sym kept.1) p)

-- a fact about a value that exists
pub IfSome-some : {A : Type 0} (P : A → Type 0) (o : Option A) (x : A) → o ≡ Some x → IfSome o P → P x
IfSome-some {A} P o x is p = subst (λ (y : Option A). IfSome y P) is p

-- ---- chains

-- the rest of the key's own chain, from a digit on
own-rest : (i : List ℕ) (q at digit number : ℕ) (x : List ℕ) → digit ≤ number → chain_of i q at digit (number - digit) (chain_of i q at 0 digit x) ≡ chain_of i q at 0 number x
own-rest i q at digit number x l =
    let e : digit ≡ 0 + digit = omega arith in
    let all : digit + (number - digit) ≡ number = omega (arith, l) in
    ap (λ n. chain_of i q at n (number - digit) (chain_of i q at 0 digit x)) e
    ∙ chain_of-chain_of i q at 0 digit (number - digit) x
    ∙ ap (λ n. chain_of i q at 0 n x) all

module _ (i : List ℕ) (q : ℕ) (seed digits ots : List ℕ) (at : ℕ) (own shown : List ℕ) (own_is : own ≡ chain_of i q at 0 (get_or digits at 0) (secret_of i q seed at)) (shown_is : shown ≡ take 32 (drop (36 + 32 * at) ots)) where
  own-text-of-step : (number : ℕ) → get_or digits at 0 ≤ number → text_of_step sha256 i q at (get_or digits at 0) own number ≡ own_step i q seed at number
  own-text-of-step number l =
      let digit : ℕ = get_or digits at 0 in
      ap (step_text i q at number) (walked-chain_of i q at digit (number - digit) own ∙ ap (chain_of i q at digit (number - digit)) own_is ∙ own-rest i q at digit number (secret_of i q seed at) l)

  shown-text-of-step : (number : ℕ) → text_of_step sha256 i q at (get_or digits at 0) shown number ≡ shown_step i q digits ots at number
  shown-text-of-step number =
      let digit : ℕ = get_or digits at 0 in
      ap (step_text i q at number) (walked-chain_of i q at digit (number - digit) shown ∙ ap (chain_of i q at digit (number - digit)) shown_is)

  pub chain-meet : (left right : List ℕ) → at < 34 → IsFirstMeeting sha256 i q at (get_or digits at 0) own shown left right → MeetInChain i q seed digits ots left right
  chain-meet left right place m = record {
    at = at;
    place = place;
    number = m.number;
    later = m.later;
    within = m.within;
    own = m.of_left ∙ own-text-of-step m.number m.later;
    shown = m.of_right ∙ shown-text-of-step m.number;
    first = λ b lo hi c. m.first b lo hi (subst (λ (x : List ℕ). AreCollision sha256 x (text_of_step sha256 i q at (get_or digits at 0) shown b)) (sym (own-text-of-step b lo))
        (subst (λ (y : List ℕ). AreCollision sha256 (own_step i q seed at b) y) (sym (shown-text-of-step b)) c));
  }

-- ---- the path to the root

module _ (key : KeyOf) (q : ℕ) (path value : List ℕ) (beside : (level : ℕ) → level < height_of key.kind → take 32 (drop (32 * level) path) ≡ path_node key.i key.seed (height_of key.kind) q level)
    (value_is : value ≡ leaf_of key.i (2 ^ height_of key.kind + q) (public_of key.i q key.seed)) where
  own-raised : (n : ℕ) → n ≤ height_of key.kind → raised sha256 key.i (2 ^ height_of key.kind + q) value (take (32 * height_of key.kind) path) n ≡ node_of key.i key.seed (height_of key.kind) n ((2 ^ height_of key.kind + q) / 2 ^ n)
  own-raised n le =
      let i = key.i in
      let seed = key.seed in
      let h = height_of key.kind in
      let r : ℕ = 2 ^ h + q in
      let part = take (32 * h) path in
      raised-climbed i r value part 0 n
      ∙ climbed-path i seed h r part 0 value n (value_is ∙ leaf-is i seed h q) (λ k lt. (let e : 0 + 32 * k ≡ 32 * k = omega arith in ap (λ n. take 32 (drop n part)) e) ∙ take-inside (32 * k) 32 (32 * h) path (omega (arith, lt, le)) ∙ beside k (omega (arith, lt, le)) ∙ path-is i seed h q k)

  own-text : (level : ℕ) → level < height_of key.kind → text_above sha256 key.i (2 ^ height_of key.kind + q) value (take (32 * height_of key.kind) path) level ≡ own_node key q level
  own-text level lt =
      let i = key.i in
      let h = height_of key.kind in
      let r : ℕ = (2 ^ h + q) / 2 ^ level in
      ap (λ (v : List ℕ). parent_text i r v (take 32 (drop (32 * level) (take (32 * h) path)))) (own-raised level (omega (arith, lt)))
      ∙ ap (parent_text i r (node_of i key.seed h level r)) (take-inside (32 * level) 32 (32 * h) path (omega (arith, lt)) ∙ beside level lt)

shown-text : (key : KeyOf) (q : ℕ) (text sig value : List ℕ) (level : ℕ) → value ≡ leaf_of key.i (2 ^ height_of key.kind + q) (candidate_of key.i q (take 1124 (drop 4 sig)) text) → text_above sha256 key.i (2 ^ height_of key.kind + q) value (drop 1132 sig) level ≡ shown_node key q text sig level
shown-text key q text sig value level value_is =
    let i = key.i in
    let leaf : ℕ = 2 ^ height_of key.kind + q in
    let r : ℕ = leaf / 2 ^ level in
    ap (λ (v : List ℕ). parent_text i r v (take 32 (drop (32 * level) (drop 1132 sig)))) (raised-climbed i leaf value sig 1132 level ∙ ap (λ (x : List ℕ). climbed i leaf x sig 1132 level) value_is)
    ∙ ap (λ (o : List ℕ). parent_text i r (climbed i leaf (leaf_of i leaf (candidate_of i q (take 1124 (drop 4 sig)) text)) sig 1132 level) (take 32 o)) (drop-drop (32 * level) 1132 sig)

-- where the key's own path meets the path that a valid signature shows, in terms of the values on the two paths
pub node-meet : (key : KeyOf) (q : ℕ) (text sig path left right i beside : List ℕ) (leaf height levels : ℕ) → q < 2 ^ height_of key.kind → ((level : ℕ) → level < height_of key.kind → take 32 (drop (32 * level) path) ≡ path_node key.i key.seed (height_of key.kind) q level) → i ≡ key.i → leaf ≡ 2 ^ height_of key.kind + q → height ≡ height_of key.kind → levels ≡ height_of key.kind → beside ≡ drop 1132 sig → left ≡ leaf_of i leaf (public_of key.i q key.seed) → right ≡ leaf_of i leaf (candidate_of key.i q (take 1124 (drop 4 sig)) text)
    → (one other : List ℕ) → IsHighestMeeting sha256 i leaf left (take (32 * height) path) right beside levels one other → MeetAtNode key q text sig one other
node-meet key q text sig path left right i beside leaf height levels low p ei el eh en eb own shown one other m =
    record {
      level = m.level;
      within = omega (arith, m.within, en);
      own = m.of_left ∙ own-here m.level (omega (arith, m.within, en));
      shown = m.of_right ∙ shown-here m.level;
      highest = λ above lo hi c. m.highest above lo (omega (arith, hi, en)) (subst (λ (x : List ℕ). AreCollision sha256 x (text_above sha256 i leaf right beside above)) (sym (own-here above hi))
          (subst (λ (y : List ℕ). AreCollision sha256 (own_node key q above) y) (sym (shown-here above)) c));
    }
  where
    own-here : (level : ℕ) → level < height_of key.kind → text_above sha256 i leaf left (take (32 * height) path) level ≡ own_node key q level
    own-here level lt =
        let r : ℕ = 2 ^ height_of key.kind + q in
        ap (λ (x : List ℕ). text_above sha256 x leaf left (take (32 * height) path) level) ei ∙ ap (λ x. text_above sha256 key.i x left (take (32 * height) path) level) el
        ∙ ap (λ x. text_above sha256 key.i r left (take (32 * x) path) level) eh
        ∙ own-text key q path left p (own ∙ ap (λ (x : List ℕ). leaf_of x leaf (public_of key.i q key.seed)) ei ∙ ap (λ x. leaf_of key.i x (public_of key.i q key.seed)) el) level lt

    shown-here : (level : ℕ) → text_above sha256 i leaf right beside level ≡ shown_node key q text sig level
    shown-here level =
        let r : ℕ = 2 ^ height_of key.kind + q in
        ap (λ (x : List ℕ). text_above sha256 x leaf right beside level) ei ∙ ap (λ x. text_above sha256 key.i x right beside level) el
        ∙ ap (λ (x : List ℕ). text_above sha256 key.i r right x level) eb
        ∙ shown-text key q text sig right level (shown ∙ ap (λ (x : List ℕ). leaf_of x leaf (candidate_of key.i q (take 1124 (drop 4 sig)) text)) ei ∙ ap (λ x. leaf_of key.i x (candidate_of key.i q (take 1124 (drop 4 sig)) text)) el)
