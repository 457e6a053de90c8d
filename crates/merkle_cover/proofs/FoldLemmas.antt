-- The walk over the positions of a tree, from left to right.
use Rattle.std.proofs.Common.{◌≡◌, ℕ, suc, zero, ◌+◌, ◌-◌, ◌*◌, ◌^◌, ◌<◌, ◌≤◌, min, Bool, true, false, ◌&&◌, List, [], ◌∷◌, ◌++◌, replicate, length, get_or, drop, refl, sym, ap, ◌∙◌, subst, arith, cond, inl, inr, leb, ltb, Option, Some, None}
use Rattle.std.specs.List.{range_with_len, sum_by}
use Rattle.std.proofs.lemmas.Bool.{cases_lt, cases_eq}
use Rattle.std.proofs.lemmas.Bool.Decides.{nat_tests}
use Rattle.std.proofs.lemmas.Nat.{mul-le}
use Rattle.std.proofs.lemmas.List.{append_assoc, append-nil, drop-drop, get_or-drop}
use Rattle.std.proofs.lemmas.List.Elements.{All-from_get_or}
use Rattle.std.proofs.lemmas.List.Folds.{list_any_none, list_any_at}
use Rattle.std.proofs.lemmas.List.Sums.{sum_by-append, sum_by-cons}
use Rattle.std.proofs.Math.Nat.{pow-suc, pow-zero, one-le-pow, le_refl}
use Rattle.merkle_cover.specs.Shape.{places_at, children}
use Rattle.merkle_cover.specs.Covers.{is_below, has_chosen, need, fault_from, first_fault, text_for, next_digest, folded_in_turn, folded, IsRising}
use Rattle.merkle_cover.specs.Folding.{SplitsAt, CanWalk, CanFold, IsFolded}
use Rattle.merkle_cover.proofs.ShapeLemmas.{places_at-lt-mul, mul-lt-places_at, range_with_len-push}

-- ---- chosen leaves below a position

is_below-true : (f k p leaf : ℕ) → p * f ^ k ≤ leaf → leaf < (p + 1) * f ^ k → is_below f k p leaf ≡ true
is_below-true f k p leaf a b = grind (arith, nat_tests)

is_below-left : (f k p leaf : ℕ) → leaf < p * f ^ k → is_below f k p leaf ≡ false
is_below-left f k p leaf a = grind (arith, nat_tests)

is_below-right : (f k p leaf : ℕ) → (p + 1) * f ^ k ≤ leaf → is_below f k p leaf ≡ false
is_below-right f k p leaf a = grind (arith, nat_tests)

-- the next chosen leaf is below the position
pub has_chosen-next : (n f : ℕ) (places : List ℕ) (k p i : ℕ) → SplitsAt places (p * f ^ k) i → i < length places → get_or places i 0 < (p + 1) * f ^ k → has_chosen f places k p ≡ true
unfolding has_chosen
has_chosen-next n f places k p i s l b =
    list_any_at (is_below f k p) places i 0 l (is_below-true f k p (get_or places i 0) (s.after i (omega arith) l) b)

-- the next chosen leaf, if any, is after the position
pub IsPast : List ℕ → ℕ → ℕ → Type 0
IsPast places i end = i < length places → end ≤ get_or places i 0

past-at : (n : ℕ) (places : List ℕ) (i end : ℕ) → IsRising n places → (i < length places → end ≤ get_or places i 0) → (q : ℕ) → i ≤ q → q < length places → end ≤ get_or places q 0
past-at n places i end r h q a b =
    elim (cases_eq i q) [
      | inl e ↦ subst (λ x. end ≤ get_or places x 0) e (h (omega (arith, a, b)))
      | inr ne ↦ omega (arith, h (omega (arith, a, b)), r.rises i q (omega (arith, a, ne)) b)
    ]

pub has_chosen-past : (n f : ℕ) (places : List ℕ) (k p i : ℕ) → IsRising n places → SplitsAt places (p * f ^ k) i → (i < length places → (p + 1) * f ^ k ≤ get_or places i 0) → has_chosen f places k p ≡ false
unfolding has_chosen
has_chosen-past n f places k p i r s h =
    list_any_none (is_below f k p) places (All-from_get_or (λ x. is_below f k p x ≡ false) places 0 (λ q l.
    elim (cases_lt q i) [
      | inl b ↦ is_below-left f k p (get_or places q 0) (s.before q b)
      | inr b ↦ is_below-right f k p (get_or places q 0) (past-at n places i ((p + 1) * f ^ k) r h q b l)
    ]))

-- after a position without a chosen leaf the index is unchanged
pub SplitsAt-past : (n : ℕ) (places : List ℕ) (x y i : ℕ) → IsRising n places → SplitsAt places x i → x ≤ y → (i < length places → y ≤ get_or places i 0) → SplitsAt places y i
SplitsAt-past n places x y i r s l h = record {
  within = s.within;
  before = λ q b. omega (arith, s.before q b, l);
  after = past-at n places i y r h;
}

-- after a chosen leaf the index is one more
pub SplitsAt-leaf : (n : ℕ) (places : List ℕ) (p i : ℕ) → IsRising n places → SplitsAt places p i → i < length places → get_or places i 0 < p + 1 → SplitsAt places (p + 1) (i + 1)
SplitsAt-leaf n places p i r s l h = record {
  within = omega (arith, l);
  before = λ q b. elim (cases_eq q i) [
    | inl e ↦ subst (λ x. get_or places x 0 < p + 1) (sym e) h
    | inr ne ↦ omega (arith, s.before q (omega (arith, b, ne)))
  ];
  after = λ q a b. omega (arith, s.after i (le_refl i) l, r.rises i q (omega (arith, a)) b);
}

-- after the last child the index is the index after the position
pub SplitsAt-children : (n f : ℕ) (places : List ℕ) (k p i end : ℕ) → 0 < f → IsRising n places → end ≡ min (p * f + f) (places_at n f k) → SplitsAt places (end * f ^ k) i → SplitsAt places ((p + 1) * f ^ suc k) i
SplitsAt-children n f places k p i end h r e s =
    elim (cases_lt end (p * f + f)) [
      | inl q ↦
          let all : n ≤ end * f ^ k = elim (cases_lt (end * f ^ k) n) [ inl w ↦ absurd (omega (arith, places_at-lt-mul n f k end h w, e, q)) | inr w ↦ w ] in
          record {
            within = s.within;
            before = λ x b. rw pow-suc (omega (arith, s.before x b, mul-le end (f ^ k) (p * f + f) (f ^ k) (omega (arith, q)) (le_refl (f ^ k))));
            after = λ x a b. absurd (omega (arith, s.after x a b, r.below x b, all));
          }
      | inr q ↦
          let same : end * f ^ k ≡ (p + 1) * f ^ suc k = rw pow-suc (omega (arith, ap (λ x. x * f ^ k) (let w : end ≡ p * f + f = omega (arith, e, q) in w))) in
          subst (λ x. SplitsAt places x i) same s
    ]

-- ---- the given texts

IsRising-tail : (n c : ℕ) (cs : List ℕ) → IsRising n (c ∷ cs) → IsRising n cs
IsRising-tail n c cs r = record {
  rises = λ q s a b. r.rises (suc q) (suc s) (omega (arith, a)) (omega (arith, b));
  below = λ q a. r.below (suc q) (omega (arith, a));
}

pub text_for-at : (n : ℕ) (places : List ℕ) (texts : List (List ℕ)) (i : ℕ) → IsRising n places → length texts ≡ length places → i < length places → text_for places texts (get_or places i 0) ≡ get_or texts i []
unfolding text_for
text_for-at n [] texts i r e l = absurd (omega (arith, l))
text_for-at n (c ∷ cs) [] i r e l = absurd (omega (arith, e))
text_for-at n (c ∷ cs) (t ∷ ts) zero r e l = grind (arith, nat_tests)
text_for-at n (c ∷ cs) (t ∷ ts) (suc i) r e l =
    let less : c < get_or cs i 0 = r.rises 0 (suc i) (omega arith) l in
    let rest = text_for-at n cs ts i (IsRising-tail n c cs r) (omega (arith, e)) (omega (arith, l)) in
    grind (arith, nat_tests)

-- ---- a position

pub need-none : (n f : ℕ) (places : List ℕ) (k p : ℕ) → has_chosen f places k p ≡ false → need n f places k p ≡ 1
unfolding need
need-none n f places zero p h = rw h refl
need-none n f places (suc k) p h = rw h refl

pub folded-none : (hash : List ℕ → List ℕ) (n f : ℕ) (places : List ℕ) (texts : List (List ℕ)) (k p : ℕ) (cover : List (List ℕ)) → has_chosen f places k p ≡ false → folded hash n f places texts k p cover ≡ next_digest cover
unfolding folded
folded-none hash n f places texts zero p cover h = rw h refl
folded-none hash n f places texts (suc k) p cover h = rw h refl

pub need-leaf : (n f : ℕ) (places : List ℕ) (k p : ℕ) → k ≡ 0 → has_chosen f places k p ≡ true → need n f places k p ≡ 0
unfolding need
need-leaf n f places zero p e h = rw h refl
need-leaf n f places (suc k) p e h = absurd (omega (arith, e))

pub folded-leaf : (hash : List ℕ → List ℕ) (n f : ℕ) (places : List ℕ) (texts : List (List ℕ)) (k p : ℕ) (cover : List (List ℕ)) → k ≡ 0 → has_chosen f places k p ≡ true → folded hash n f places texts k p cover ≡ hash (0 ∷ text_for places texts p)
unfolding folded
folded-leaf hash n f places texts zero p cover e h = rw h refl
folded-leaf hash n f places texts (suc k) p cover e h = absurd (omega (arith, e))

pub need-above : (n f : ℕ) (places : List ℕ) (j p : ℕ) → has_chosen f places (suc j) p ≡ true → need n f places (suc j) p ≡ sum_by (need n f places j) (children n f j p)
unfolding need
need-above n f places j p h = rw h refl

pub folded-above : (hash : List ℕ → List ℕ) (n f : ℕ) (places : List ℕ) (texts : List (List ℕ)) (j p : ℕ) (cover : List (List ℕ)) → has_chosen f places (suc j) p ≡ true → folded hash n f places texts (suc j) p cover ≡ hash (1 ∷ folded_in_turn (need n f places j) (folded hash n f places texts j) (children n f j p) cover)
unfolding folded
folded-above hash n f places texts j p cover h = rw h refl

-- ---- one more child

folded_in_turn-push : (t : ℕ → ℕ) (g : ℕ → List (List ℕ) → List ℕ) (ps : List ℕ) (p : ℕ) (cover : List (List ℕ)) → folded_in_turn t g (ps ++ p ∷ []) cover ≡ folded_in_turn t g ps cover ++ g p (drop (sum_by t ps) cover)
unfolding folded_in_turn
folded_in_turn-push t g [] p cover = append-nil (g p cover)
folded_in_turn-push t g (q ∷ ps) p cover =
    let e : drop (sum_by t ps) (drop (t q) cover) ≡ drop (sum_by t (q ∷ ps)) cover = drop-drop (sum_by t ps) (t q) cover ∙ ap (λ i. drop i cover) (sym (sum_by-cons t q ps)) in
    ap (λ l. g q cover ++ l) (folded_in_turn-push t g ps p (drop (t q) cover)) ∙ sym (append_assoc (g q cover) (folded_in_turn t g ps (drop (t q) cover)) (g p (drop (sum_by t ps) (drop (t q) cover)))) ∙ ap (λ d. (g q cover ++ folded_in_turn t g ps (drop (t q) cover)) ++ g p d) e

pub sum_by-range-push : (t : ℕ → ℕ) (a n : ℕ) → sum_by t (range_with_len a (n + 1)) ≡ sum_by t (range_with_len a n) + t (a + n)
sum_by-range-push t a n =
    ap (sum_by t) (range_with_len-push a n) ∙ sum_by-append t (range_with_len a n) ((a + n) ∷ []) ∙ ap (λ x. sum_by t (range_with_len a n) + x) (sum_by-cons t (a + n) [] ∙ omega arith)

pub folded_in_turn-range-push : (t : ℕ → ℕ) (g : ℕ → List (List ℕ) → List ℕ) (a n : ℕ) (cover : List (List ℕ)) → folded_in_turn t g (range_with_len a (n + 1)) cover ≡ folded_in_turn t g (range_with_len a n) cover ++ g (a + n) (drop (sum_by t (range_with_len a n)) cover)
folded_in_turn-range-push t g a n cover =
    ap (λ ps. folded_in_turn t g ps cover) (range_with_len-push a n) ∙ folded_in_turn-push t g (range_with_len a n) (a + n) cover

pub children-is : (n f k p end : ℕ) → end ≡ min (p * f + f) (places_at n f k) → children n f k p ≡ range_with_len (p * f) (end - p * f)
unfolding children
children-is n f k p end e = ap (range_with_len (p * f)) (omega (arith, e))

-- ---- the walk's steps

-- at least one leaf fits below a position
pub CanWalk-room : {n f : ℕ} {places : List ℕ} {k p w item : ℕ} → CanWalk n f places k p w item → (0 < w) × (p ≤ p * w)
CanWalk-room {n} {f} {places} {k} {p} {w} q =
    let pos : 0 < w = rw q.span (one-le-pow k f (omega (arith, q.fan))) in
    (pos, omega (arith, mul-le p 1 p w (le_refl p) pos))

-- a position without a chosen leaf
pub IsFolded-none : (hash : List ℕ → List ℕ) (cover : List (List ℕ)) (d : List ℕ) {n f : ℕ} {places : List ℕ} {given : List (List ℕ)} {k p w item start : ℕ} → CanFold n f places given k p w item start → (item < length places → (p + 1) * w ≤ get_or places item 0) → d ≡ get_or cover start (replicate 32 0) → IsFolded hash n f places given cover k p w start d item (start + 1)
IsFolded-none hash cover d {n} {f} {places} {given} {k} {p} {w} {item} {start} q past e =
    let at : SplitsAt places (p * f ^ k) item = subst (λ x. SplitsAt places (p * x) item) q.walk.span q.walk.items in
    let h : item < length places → (p + 1) * f ^ k ≤ get_or places item 0 = subst (λ x. item < length places → (p + 1) * x ≤ get_or places item 0) q.walk.span past in
    let none = has_chosen-past n f places k p item q.walk.rising at h in
    let first : get_or (drop start cover) 0 (replicate 32 0) ≡ get_or cover (start + 0) (replicate 32 0) = get_or-drop start cover 0 (replicate 32 0) in
    let first' : get_or cover (start + 0) (replicate 32 0) ≡ get_or cover start (replicate 32 0) = ap (λ i. get_or cover i (replicate 32 0)) (omega arith) in
    record {
      digest = e ∙ sym (folded-none hash n f places given k p (drop start cover) none ∙ first ∙ first');
      taken = ap (λ x. start + x) (sym (need-none n f places k p none));
      items = SplitsAt-past n places (p * w) ((p + 1) * w) item q.walk.rising q.walk.items (omega arith) past;
      few = omega (arith, q.taken, (CanWalk-room q.walk).0);
    }

-- a chosen leaf
pub IsFolded-leaf : (hash : List ℕ → List ℕ) (cover : List (List ℕ)) (d : List ℕ) {n f : ℕ} {places : List ℕ} {given : List (List ℕ)} {k p w item start : ℕ} → CanFold n f places given k p w item start → k ≡ 0 → item < length places → get_or places item 0 < (p + 1) * w → d ≡ hash (0 ∷ get_or given item []) → IsFolded hash n f places given cover k p w start d (item + 1) start
IsFolded-leaf hash cover d {n} {f} {places} {given} {k} {p} {w} {item} {start} q z l b e =
    let one : w ≡ 1 = q.walk.span ∙ ap (λ x. f ^ x) z ∙ pow-zero f in
    let at : SplitsAt places (p * f ^ k) item = subst (λ x. SplitsAt places (p * x) item) q.walk.span q.walk.items in
    let b' : get_or places item 0 < (p + 1) * f ^ k = subst (λ x. get_or places item 0 < (p + 1) * x) q.walk.span b in
    let some = has_chosen-next n f places k p item at l b' in
    let at1 : SplitsAt places (p * 1) item = subst (λ x. SplitsAt places (p * x) item) one q.walk.items in
    let at' : SplitsAt places p item = subst (λ x. SplitsAt places x item) (let m : p * 1 ≡ p = omega arith in m) at1 in
    let b1 : get_or places item 0 < (p + 1) * 1 = subst (λ x. get_or places item 0 < (p + 1) * x) one b in
    let here : get_or places item 0 ≡ p = omega (arith, b1, at'.after item (le_refl item) l) in
    let next = SplitsAt-leaf n places p item q.walk.rising at' l (omega (arith, b1)) in
    let text : text_for places given p ≡ get_or given item [] = ap (text_for places given) (sym here) ∙ text_for-at n places given item q.walk.rising q.texts l in
    record {
      digest = e ∙ sym (folded-leaf hash n f places given k p (drop start cover) z some ∙ ap (λ t. hash (0 ∷ t)) text);
      taken = omega (arith, need-leaf n f places k p z some);
      items = subst (λ x. SplitsAt places x (item + 1)) (let m : p + 1 ≡ (p + 1) * w = rw one (omega arith) in m) next;
      few = omega (arith, q.taken, (CanWalk-room q.walk).0);
    }

-- the number of leaves below a position is the sum over its children
pub CanWalk-wide : {n f : ℕ} {places : List ℕ} {k p w item : ℕ} → CanWalk n f places k p w item → (j b : ℕ) → k ≡ suc j → b ≡ f ^ j → w ≡ f * b
CanWalk-wide {n} {f} {places} {k} {p} {w} q j b e eb = q.span ∙ ap (λ x. f ^ x) e ∙ pow-suc f j ∙ ap (λ x. x * f) (sym eb) ∙ omega arith

-- the walk can continue to a child
pub CanWalk-child : {n f : ℕ} {places : List ℕ} {k p w item : ℕ} → CanWalk n f places k p w item → (j b end child item' : ℕ) → k ≡ suc j → b ≡ f ^ j → end ≡ min (p * f + f) (places_at n f j) → child < end → SplitsAt places (child * b) item' → CanWalk n f places j child b item'
CanWalk-child {n} {f} {places} {k} {p} {w} q j b end child item' e eb ee l at =
    let wide = CanWalk-wide q j b e eb in
    record {
      fan = q.fan;
      fan_max = q.fan_max;
      leaves = q.leaves;
      rising = q.rising;
      span = eb;
      small = omega (arith, q.small, wide, mul-le 1 b f b (omega (arith, q.fan)) (le_refl b));
      place = rw eb (mul-lt-places_at n f j child (omega (arith, q.fan)) (omega (arith, l, ee)));
      items = at;
    }

-- the position exists
pub CanWalk-place : {n f : ℕ} {places : List ℕ} {k p w item : ℕ} → CanWalk n f places k p w item → p < places_at n f k
CanWalk-place {n} {f} {places} {k} {p} {w} q =
    places_at-lt-mul n f k p (omega (arith, q.fan)) (subst (λ x. p * x < n) q.span q.place)

-- all children have been recomputed
pub IsFolded-above : (hash : List ℕ → List ℕ) (cover : List (List ℕ)) (d : List ℕ) {n f : ℕ} {places : List ℕ} {given : List (List ℕ)} {k p w item start : ℕ} → CanFold n f places given k p w item start → (j b end item' taken : ℕ) → k ≡ suc j → b ≡ f ^ j → end ≡ min (p * f + f) (places_at n f j) → item < length places → get_or places item 0 < (p + 1) * w → SplitsAt places (end * b) item' → taken ≡ start + sum_by (need n f places j) (range_with_len (p * f) (end - p * f)) → taken ≤ end * b → d ≡ hash (1 ∷ folded_in_turn (need n f places j) (folded hash n f places given j) (range_with_len (p * f) (end - p * f)) (drop start cover)) → IsFolded hash n f places given cover k p w start d item' taken
IsFolded-above hash cover d {n} {f} {places} {given} {k} {p} {w} {item} {start} q j b end item' taken e eb ee l lt at et few ed =
    let at0 : SplitsAt places (p * f ^ k) item = subst (λ x. SplitsAt places (p * x) item) q.walk.span q.walk.items in
    let lt' : get_or places item 0 < (p + 1) * f ^ k = subst (λ x. get_or places item 0 < (p + 1) * x) q.walk.span lt in
    let some : has_chosen f places (suc j) p ≡ true = subst (λ x. has_chosen f places x p ≡ true) e (has_chosen-next n f places k p item at0 l lt') in
    let kids = children-is n f j p end ee in
    let at1 : SplitsAt places (end * f ^ j) item' = subst (λ x. SplitsAt places (end * x) item') eb at in
    let at2 : SplitsAt places ((p + 1) * f ^ suc j) item' = SplitsAt-children n f places j p item' end (omega (arith, q.walk.fan)) q.walk.rising ee at1 in
    let room : f ^ suc j ≡ w = sym (q.walk.span ∙ ap (λ x. f ^ x) e) in
    let wide = CanWalk-wide q.walk j b e eb in
    record {
      digest = ed ∙ ap (λ ps. hash (1 ∷ folded_in_turn (need n f places j) (folded hash n f places given j) ps (drop start cover))) (sym kids) ∙ sym (folded-above hash n f places given j p (drop start cover) some) ∙ ap (λ x. folded hash n f places given x p (drop start cover)) (sym e);
      taken = et ∙ ap (λ x. start + x) (ap (sum_by (need n f places j)) (sym kids) ∙ sym (need-above n f places j p some) ∙ ap (λ x. need n f places x p) (sym e));
      items = subst (λ x. SplitsAt places ((p + 1) * x) item') room at2;
      few = omega (arith, few, ap (λ x. (p + 1) * x) wide, mul-le end b (p * f + f) b (omega (arith, ee)) (le_refl b));
    }

-- one more child has been recomputed
pub told-more : (t : ℕ → ℕ) (g : ℕ → List (List ℕ) → List ℕ) (first child start taken : ℕ) (cover : List (List ℕ)) (d : List ℕ) → first ≤ child → taken ≡ start + sum_by t (range_with_len first (child - first)) → d ≡ g child (drop taken cover) → folded_in_turn t g (range_with_len first (child + 1 - first)) (drop start cover) ≡ folded_in_turn t g (range_with_len first (child - first)) (drop start cover) ++ d
told-more t g first child start taken cover d l et ed =
    let m = child - first in
    let count : child + 1 - first ≡ m + 1 = omega arith in
    let here : first + m ≡ child = omega arith in
    let left : drop (sum_by t (range_with_len first m)) (drop start cover) ≡ drop taken cover = drop-drop (sum_by t (range_with_len first m)) start cover ∙ ap (λ i. drop i cover) (sym et) in
    ap (λ i. folded_in_turn t g (range_with_len first i) (drop start cover)) count
    ∙ folded_in_turn-range-push t g first m (drop start cover)
    ∙ ap (λ x. folded_in_turn t g (range_with_len first m) (drop start cover) ++ x) (ap (λ i. g i (drop (sum_by t (range_with_len first m)) (drop start cover))) here ∙ ap (g child) left ∙ sym ed)

pub taken-more : (t : ℕ → ℕ) (first child start taken taken' : ℕ) → first ≤ child → taken ≡ start + sum_by t (range_with_len first (child - first)) → taken' ≡ taken + t child → taken' ≡ start + sum_by t (range_with_len first (child + 1 - first))
taken-more t first child start taken taken' l et e =
    let m = child - first in
    let count : child + 1 - first ≡ m + 1 = omega arith in
    let here : first + m ≡ child = omega arith in
    omega (arith, ap (λ i. sum_by t (range_with_len first i)) count, sum_by-range-push t first m, ap t here)

-- a position is at least its index
pub rising-index : (n : ℕ) (places : List ℕ) → IsRising n places → (q : ℕ) → q < length places → q ≤ get_or places q 0
rising-index n places r zero l = omega arith
rising-index n places r (suc q) l = omega (arith, rising-index n places r q (omega (arith, l)), r.rises q (suc q) (omega arith) l)

-- ---- positions without a fault

chosen_none : {X : Type 0} (b : Bool) (o : Option X) (x : X) → cond b o (Some x) ≡ None → (b ≡ true) × (o ≡ None)
chosen_none true o x e = (refl, e)
chosen_none false o x e = cc

tests : (least p n : ℕ) → (leb least p && ltb p n) ≡ true → (least ≤ p) × (p < n)
tests least p n h = grind (arith, nat_tests)

least-from_fault : (n least i : ℕ) (places : List ℕ) → fault_from n least i places ≡ None → (q : ℕ) → q < length places → least ≤ get_or places q 0
least-from_fault n least i [] e q l = absurd (omega (arith, l))
least-from_fault n least i (p ∷ ps) e zero l = (tests least p n (chosen_none _ _ _ e).0).0
least-from_fault n least i (p ∷ ps) e (suc q) l =
    let t = chosen_none _ _ _ e in
    omega (arith, (tests least p n t.0).0, least-from_fault n (p + 1) (i + 1) ps t.1 q (omega (arith, l)))

rises_cons : (n i p : ℕ) (ps : List ℕ) → fault_from n (p + 1) i ps ≡ None → IsRising n ps → (q r : ℕ) → q < r → r < length (p ∷ ps) → get_or (p ∷ ps) q 0 < get_or (p ∷ ps) r 0
rises_cons n i p ps e rest q zero a b = absurd (omega (arith, a))
rises_cons n i p ps e rest zero (suc r) a b = omega (arith, least-from_fault n (p + 1) i ps e r (omega (arith, b)))
rises_cons n i p ps e rest (suc q) (suc r) a b = rest.rises q r (omega (arith, a)) (omega (arith, b))

below_cons : (n p : ℕ) (ps : List ℕ) → p < n → IsRising n ps → (q : ℕ) → q < length (p ∷ ps) → get_or (p ∷ ps) q 0 < n
below_cons n p ps l rest zero a = l
below_cons n p ps l rest (suc q) a = rest.below q (omega (arith, a))

pub IsRising-from_fault : (n least i : ℕ) (places : List ℕ) → fault_from n least i places ≡ None → IsRising n places
IsRising-from_fault n least i [] e = record {
  rises = λ q r a b. absurd (omega (arith, b));
  below = λ q a. absurd (omega (arith, a));
}
IsRising-from_fault n least i (p ∷ ps) e =
    let t = chosen_none _ _ _ e in
    let rest = IsRising-from_fault n (p + 1) (i + 1) ps t.1 in
    record {
      rises = rises_cons n (i + 1) p ps t.1 rest;
      below = below_cons n p ps (tests least p n t.0).1 rest;
    }

-- positions that ascend from a least one on have no fault
pub fault_from-rising : (n least i : ℕ) (places : List ℕ) → IsRising n places → ((q : ℕ) → q < length places → least ≤ get_or places q 0) → fault_from n least i places ≡ None
fault_from-rising n least i [] r above = refl
fault_from-rising n least i (p ∷ ps) r above =
    let some : 0 < length (p ∷ ps) = omega arith in
    let here : (leb least p && ltb p n) ≡ true = passes least p n (above 0 some) (r.below 0 some) in
    let rest = fault_from-rising n (p + 1) (i + 1) ps (IsRising-tail n p ps r) (λ q l. omega (arith, r.rises 0 (suc q) (omega arith) (omega (arith, l)))) in
    rw here rest
  where
    passes : (least p n : ℕ) → least ≤ p → p < n → (leb least p && ltb p n) ≡ true
    passes least p n a b = grind (arith, nat_tests)

-- positions ascend below n exactly if they have no fault
pub first_fault-rising : (n : ℕ) (places : List ℕ) → IsRising n places → first_fault n places ≡ None
first_fault-rising n places r = fault_from-rising n 0 0 places r (λ q l. omega arith)

pub rising-first_fault : (n : ℕ) (places : List ℕ) → first_fault n places ≡ None → IsRising n places
rising-first_fault n places e = IsRising-from_fault n 0 0 places e

-- a walk can begin
pub SplitsAt-start : (places : List ℕ) → SplitsAt places 0 0
SplitsAt-start places = record {
  within = omega arith;
  before = λ q b. absurd (omega (arith, b));
  after = λ q a b. omega arith;
}

pub CanWalk-start : (n f : ℕ) (places : List ℕ) (k w : ℕ) → 2 ≤ f → f ≤ 32 → 1 ≤ n → n < 2 ^ 32 → IsRising n places → w ≡ f ^ k → w < 2 ^ 37 → CanWalk n f places k 0 w 0
CanWalk-start n f places k w f2 f32 n1 n32 rises ew small = record {
  fan = f2;
  fan_max = f32;
  leaves = n32;
  rising = rises;
  span = ew;
  small = small;
  place = omega (arith, n1);
  items = subst (λ x. SplitsAt places x 0) (let z : 0 ≡ 0 * w = omega arith in z) (SplitsAt-start places);
}
