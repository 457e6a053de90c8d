-- Positions at which a tree and a recomputed root hash different texts to the same digest.
use Rattle.std.proofs.Common.{◌≡◌, ◌≢◌, ℕ, suc, zero, ◌+◌, ◌-◌, ◌*◌, ◌/◌, ◌^◌, ◌<◌, ◌≤◌, min, Bool, true, false, ◌&&◌, List, [], ◌∷◌, ◌++◌, replicate, length, get_or, take, drop, refl, sym, ap, ◌∙◌, subst, arith, inl, inr, Fits, w32, w64}
use Rattle.std.specs.Bool.{OnTrue, OnFalse}
use Rattle.std.specs.List.{range_with_len, sum_by, flat_map}
use Rattle.std.proofs.lemmas.Bool.{cases_lt}
use Rattle.std.proofs.lemmas.List.{append_assoc, drop-drop, drop_at, length-append, drop_more}
use Rattle.std.proofs.lemmas.List.Concat.{flat_map-append, length-flat_map}
use Rattle.std.proofs.lemmas.List.Sums.{sum_by-append, sum_by-cons}
use Rattle.std.proofs.lemmas.List.FromFn.{length-range_with_len}
use Rattle.std.proofs.Math.Seq.{take-add}
use Rattle.std.proofs.Math.Nat.{pow-zero, le_refl, one-le-pow}
use Rattle.std.proofs.lemmas.Nat.{mul-le, div-mul-add}
use Rattle.merkle_cover.specs.Shape.{places_at, children}
use Rattle.merkle_cover.specs.Trees.{digest}
use Rattle.merkle_cover.specs.Covers.{has_chosen, left_of, need, cover_below, text_for, folded_in_turn, folded}
use Rattle.merkle_cover.specs.Folding.{SplitsAt, CanFold}
use Rattle.merkle_cover.specs.Clashes.{hashed_text, folded_text, SameBelow, CanCompare, IsClash, CanRead}
use Rattle.merkle_cover.proofs.ShapeLemmas.{places_at-lt-mul}
use Rattle.merkle_cover.proofs.FoldLemmas.{CanWalk-child, children-is, need-none, need-leaf, need-above, sum_by-range-push, text_for-at}
use Rattle.merkle_cover.proofs.CoverLemmas.{length-cover_below, cover_below-none, cover_below-leaf, cover_below-above, sum_by-same}
use Rattle.merkle_cover.proofs.WalkLemmas.{above-leaves, child-room, walk-none, walk-some, flat_map-child}

-- ---- lists

pub append_inj : {X : Type 0} (a b c d : List X) → length a ≡ length b → a ++ c ≡ b ++ d → (a ≡ b) × (c ≡ d)
append_inj [] [] c d l e = (refl, e)
append_inj [] (y ∷ b) c d l e = absurd (omega (arith, l))
append_inj (x ∷ a) [] c d l e = absurd (omega (arith, l))
append_inj (x ∷ a) (y ∷ b) c d l e =
    let h : x ≡ y = cc in
    let t : a ++ c ≡ b ++ d = cc in
    let r = append_inj a b c d (omega (arith, l)) t in
    (ap (λ z. z ∷ a) h ∙ ap (λ zs. y ∷ zs) r.0, r.1)

range-split : (a m r : ℕ) → range_with_len a (m + r) ≡ range_with_len a m ++ range_with_len (a + m) r
range-split a zero r =
    let e : 0 + r ≡ r = omega arith in
    let e' : a ≡ a + 0 = omega arith in
    ap (range_with_len a) e ∙ ap (λ x. range_with_len x r) e'
range-split a (suc m) r =
    let e : suc m + r ≡ suc (m + r) = omega arith in
    let e' : (a + 1) + m ≡ a + suc m = omega arith in
    ap (range_with_len a) e ∙ ap (λ l. a ∷ l) (range-split (a + 1) m r ∙ ap (λ x. range_with_len (a + 1) m ++ range_with_len x r) e')

-- a range has one more position
range-at : (a m c : ℕ) → m < c → range_with_len a c ≡ range_with_len a m ++ (a + m) ∷ range_with_len (a + m + 1) (c - m - 1)
range-at a m c l =
    let e : c ≡ m + suc (c - m - 1) = omega arith in
    ap (range_with_len a) e ∙ range-split a m (suc (c - m - 1))

sum-range-le : (t : ℕ → ℕ) (a m c : ℕ) → m < c → sum_by t (range_with_len a m) + t (a + m) ≤ sum_by t (range_with_len a c)
sum-range-le t a m c l =
    let rest = range_with_len (a + m + 1) (c - m - 1) in
    omega (arith, ap (sum_by t) (range-at a m c l), sum_by-append t (range_with_len a m) ((a + m) ∷ rest), sum_by-cons t (a + m) rest)

pub cons-tail : {X : Type 0} {x y : X} {xs ys : List X} → x ∷ xs ≡ y ∷ ys → xs ≡ ys
cons-tail h = cc

-- ---- two tests

pub both_true : {A C P : Type 0} (a b r : Bool) → r ≡ (a && b) → OnTrue a A → OnTrue b C → (A → C → P) → OnTrue r P
both_true true true r e x y f = rw e (f x y)
both_true true false r e x y f = rw e tt
both_true false b r e x y f = rw e tt

pub both_false : {B D Q : Type 0} (a b r : Bool) → r ≡ (a && b) → OnFalse a B → OnFalse b D → (B → Q) → (D → Q) → OnFalse r Q
both_false true true r e x y f g = rw e tt
both_false true false r e x y f g = rw e (g y)
both_false false b r e x y f g = rw e (f x)

-- ---- digests

pub digest-is : (hash : List ℕ → List ℕ) (leaves : List (List ℕ)) (f k p : ℕ) → digest hash leaves f k p ≡ hash (hashed_text hash leaves f k p)
unfolding digest hashed_text
digest-is hash leaves f zero p = refl
digest-is hash leaves f (suc k) p = refl

length-flat_map-digest : (hash : List ℕ → List ℕ) → ((m : List ℕ) → length (hash m) ≡ 32) → (leaves : List (List ℕ)) (f k : ℕ) (ps : List ℕ) → length (flat_map (digest hash leaves f k) ps) ≡ 32 * length ps
length-flat_map-digest hash size leaves f k [] = refl
length-flat_map-digest hash size leaves f k (p ∷ ps) =
    omega (arith, length-append (digest hash leaves f k p) (flat_map (digest hash leaves f k) ps), length-flat_map-digest hash size leaves f k ps, ap (λ (l : List ℕ). length l) (digest-is hash leaves f k p), size (hashed_text hash leaves f k p))

-- ---- the result of a comparison

pub record SameSoFar (hash : List ℕ → List ℕ) (leaves : List (List ℕ)) (f : ℕ) (chosen : List ℕ) (given cover : List (List ℕ)) (j first m start item next : ℕ) : Type 0 where
  pub digests : folded_in_turn (need (length leaves) f chosen j) (folded hash (length leaves) f chosen given j) (range_with_len first m) (drop start cover) ≡ flat_map (digest hash leaves f j) (range_with_len first m)
  pub texts : (q : ℕ) → item ≤ q → q < next → get_or given q [] ≡ get_or leaves (get_or chosen q 0) []
  pub covers : take (sum_by (need (length leaves) f chosen j) (range_with_len first m)) (drop start cover) ≡ flat_map (cover_below (digest hash leaves f) (length leaves) f chosen j) (range_with_len first m)

-- ---- digests left of a position

pub left-top : (n f : ℕ) (chosen : List ℕ) (k p : ℕ) → 0 ≡ left_of n f chosen 0 k p
unfolding left_of
left-top n f chosen k p = refl

left-child : (n f : ℕ) (chosen : List ℕ) (d j p child : ℕ) → child / f ≡ p → left_of n f chosen (suc d) j child ≡ left_of n f chosen d (suc j) p + sum_by (need n f chosen j) (range_with_len (p * f) (child - p * f))
unfolding left_of
left-child n f chosen d j p child e = ap (λ x. left_of n f chosen d (suc j) x + sum_by (need n f chosen j) (range_with_len (x * f) (child - x * f))) e

module _ (hash : List ℕ → List ℕ) (leaves : List (List ℕ)) (f : ℕ) (chosen : List ℕ) (given cover : List (List ℕ)) (levels : List (List (List ℕ))) (whole : List (List ℕ)) where
  -- a child can be compared
  pub CanCompare-child : {k p w item start : ℕ} → CanCompare hash leaves f chosen given cover levels whole k p w item start → has_chosen f chosen k p ≡ true → (j b end child item' taken : ℕ) → k ≡ suc j → b ≡ f ^ j → end ≡ min (p * f + f) (places_at (length leaves) f j) → p * f ≤ child → child < end → SplitsAt chosen (child * b) item' → taken ≤ child * b → taken ≡ start + sum_by (need (length leaves) f chosen j) (range_with_len (p * f) (child - p * f)) → CanCompare hash leaves f chosen given cover levels whole j child b item' taken
  CanCompare-child {k} {p} {w} {item} {start} q some j b end child item' taken e eb ee lo l at few et =
      let n = length leaves in
      let t = need n f chosen j in
      let g = cover_below (digest hash leaves f) n f chosen j in
      let first = p * f in
      let m = child - first in
      let c = end - first in
      let here : first + m ≡ child = omega arith in
      let some' : has_chosen f chosen (suc j) p ≡ true = subst (λ x. has_chosen f chosen x p ≡ true) e some in
      let kids : children n f j p ≡ range_with_len first c = children-is n f j p end ee in
      let all : need n f chosen k p ≡ sum_by t (range_with_len first c) = ap (λ x. need n f chosen x p) e ∙ need-above n f chosen j p some' ∙ ap (sum_by t) kids in
      let within = sum-range-le t first m c (omega arith) in
      let parts : cover_below (digest hash leaves f) n f chosen k p ≡ flat_map g (range_with_len first m) ++ (g (first + m) ++ flat_map g (range_with_len (first + m + 1) (c - m - 1))) =
      ap (λ x. cover_below (digest hash leaves f) n f chosen x p) e ∙ cover_below-above (digest hash leaves f) n f chosen j p some' ∙ ap (flat_map g) (kids ∙ range-at first m c (omega arith))
      ∙ flat_map-append g (range_with_len first m) ((first + m) ∷ range_with_len (first + m + 1) (c - m - 1)) in
      let before : length (flat_map g (range_with_len first m)) ≡ sum_by t (range_with_len first m) =
      length-flat_map g (range_with_len first m) ∙ sum_by-same (λ x. length (g x)) t (range_with_len first m) (length-cover_below (digest hash leaves f) n f chosen j) in
      let rest = flat_map g (range_with_len (first + m + 1) (c - m - 1)) in
      let parent : child / f ≡ p = ap (λ x. x / f) (sym here) ∙ div-mul-add p f m (omega (arith, ee, l)) in
      record {
        fold = record {
          walk = CanWalk-child q.fold.walk j b end child item' e eb ee l at;
          texts = q.fold.texts;
          taken = few;
        };
        levels_in = record {
          levels_in = λ i le. q.levels_in.levels_in i (omega (arith, le, e));
          sizes = λ i le. q.levels_in.sizes i (omega (arith, le, e));
        };
        digests = λ i x le lt. q.digests i x (omega (arith, le, e)) lt;
        left = (suc q.left.0, omega (arith, q.left.1, e), et ∙ ap (λ x. x + sum_by t (range_with_len first m)) (q.left.2 ∙ ap (λ x. left_of n f chosen q.left.0 x p) e) ∙ sym (left-child n f chosen q.left.0 j p child parent));
        enough = omega (arith, q.enough, all, within, et, ap t here);
        rest = (
          rest ++ q.rest.0,
          ap (λ i. drop i whole) et
              ∙ sym (drop-drop (sum_by t (range_with_len first m)) start whole)
              ∙ ap (drop (sum_by t (range_with_len first m))) (q.rest.1 ∙ ap (λ l. l ++ q.rest.0) parts ∙ append_assoc (flat_map g (range_with_len first m)) (g (first + m) ++ rest) q.rest.0)
              ∙ drop_at (flat_map g (range_with_len first m)) ((g (first + m) ++ rest) ++ q.rest.0) (sum_by t (range_with_len first m)) before
              ∙ append_assoc (g (first + m)) rest q.rest.0
              ∙ ap (λ x. g x ++ (rest ++ q.rest.0)) here,
        );
      }

  -- a cover digest equals the tree's
  pub SameBelow-none : {k p w item start : ℕ} → CanCompare hash leaves f chosen given cover levels whole k p w item start → (item < length chosen → (p + 1) * w ≤ get_or chosen item 0) → (d : List ℕ) → d ≡ get_or cover start (replicate 32 0) → d ≡ digest hash leaves f k p → SameBelow hash leaves f chosen given cover k p start item item
  SameBelow-none {k} {p} {w} {item} {start} q past d e ed =
      let n = length leaves in
      let none = walk-none q.fold.walk past in
      let one = need-none n f chosen k p none in
      let inside : start < length cover = omega (arith, q.enough, one) in
      record {
        texts = λ i a b. absurd (omega (arith, a, b));
        digests =
            ap (λ c. take c (drop start cover)) one ∙ ap (take 1) (drop_more cover start (replicate 32 0) inside)
            ∙ ap (λ x. x ∷ []) (sym e ∙ ed) ∙ sym (cover_below-none (digest hash leaves f) n f chosen k p none);
      }

  -- a text equals the leaf
  pub SameBelow-leaf : {k p w item start : ℕ} → CanCompare hash leaves f chosen given cover levels whole k p w item start → k ≡ 0 → item < length chosen → get_or chosen item 0 < (p + 1) * w → get_or given item [] ≡ get_or leaves p [] → SameBelow hash leaves f chosen given cover k p start item (item + 1)
  SameBelow-leaf {k} {p} {w} {item} {start} q z l b e =
      let n = length leaves in
      let some = walk-some q.fold.walk l b in
      let one : w ≡ 1 = q.fold.walk.span ∙ ap (λ x. f ^ x) z ∙ pow-zero f in
      let b1 : get_or chosen item 0 < (p + 1) * 1 = subst (λ x. get_or chosen item 0 < (p + 1) * x) one b in
      let low : p * w ≤ get_or chosen item 0 = q.fold.walk.items.after item (le_refl item) l in
      let low1 : p * 1 ≤ get_or chosen item 0 = subst (λ x. p * x ≤ get_or chosen item 0) one low in
      let here : get_or chosen item 0 ≡ p = omega (arith, b1, low1) in
      record {
        texts = λ i a c.
            let same : i ≡ item = omega arith in
            ap (λ x. get_or given x []) same ∙ e ∙ ap (λ x. get_or leaves x []) (sym here ∙ ap (λ x. get_or chosen x 0) (sym same));
        digests = ap (λ c. take c (drop start cover)) (need-leaf n f chosen k p z some) ∙ sym (cover_below-leaf (digest hash leaves f) n f chosen k p z some);
      }

  -- two texts that clash at a leaf
  pub IsClash-leaf : {k p w item start : ℕ} → CanCompare hash leaves f chosen given cover levels whole k p w item start → k ≡ 0 → item < length chosen → get_or chosen item 0 < (p + 1) * w → get_or given item [] ≢ get_or leaves p [] → hash (0 ∷ get_or given item []) ≡ digest hash leaves f k p → IsClash hash leaves f chosen given cover levels whole k p w item start
  unfolding hashed_text folded_text digest
  IsClash-leaf {k = suc k} {p} {w} {item} {start} q z l b ne e = absurd (omega (arith, z))
  IsClash-leaf {k = zero} {p} {w} {item} {start} q z l b ne e =
      let n = length leaves in
      let one : w ≡ 1 = q.fold.walk.span ∙ pow-zero f in
      let b1 : get_or chosen item 0 < (p + 1) * 1 = subst (λ x. get_or chosen item 0 < (p + 1) * x) one b in
      let low : p * w ≤ get_or chosen item 0 = q.fold.walk.items.after item (le_refl item) l in
      let low1 : p * 1 ≤ get_or chosen item 0 = subst (λ x. p * x ≤ get_or chosen item 0) one low in
      let here : get_or chosen item 0 ≡ p = omega (arith, b1, low1) in
      let text : text_for chosen given p ≡ get_or given item [] = ap (text_for chosen given) (sym here) ∙ text_for-at n chosen given item q.fold.walk.rising q.fold.texts l in
      record {
        at = q;
        next = (l, b);
        differ = λ h. ne (sym text ∙ sym (cons-tail h));
        same = sym e ∙ ap (λ t. hash (0 ∷ t)) (sym text);
      }

  -- two texts that clash above the leaves
  pub IsClash-above : {k p w item start : ℕ} → CanCompare hash leaves f chosen given cover levels whole k p w item start → (item < length chosen) × (get_or chosen item 0 < (p + 1) * w) → (j end : ℕ) → k ≡ suc j → end ≡ min (p * f + f) (places_at (length leaves) f j)
      → folded_in_turn (need (length leaves) f chosen j) (folded hash (length leaves) f chosen given j) (range_with_len (p * f) (end - p * f)) (drop start cover) ≢ flat_map (digest hash leaves f j) (range_with_len (p * f) (end - p * f))
      → hash (1 ∷ folded_in_turn (need (length leaves) f chosen j) (folded hash (length leaves) f chosen given j) (range_with_len (p * f) (end - p * f)) (drop start cover)) ≡ digest hash leaves f k p → IsClash hash leaves f chosen given cover levels whole k p w item start
  unfolding hashed_text folded_text digest
  IsClash-above {k = zero} {p} {w} {item} {start} q next j end z ee ne e = absurd (omega (arith, z))
  IsClash-above {k = suc k} {p} {w} {item} {start} q next j end z ee ne e =
      let n = length leaves in
      let same : k ≡ j = omega (arith, z) in
      let kids : children n f k p ≡ range_with_len (p * f) (end - p * f) = ap (λ x. children n f x p) same ∙ children-is n f j p end ee in
      let left : flat_map (digest hash leaves f k) (children n f k p) ≡ flat_map (digest hash leaves f j) (range_with_len (p * f) (end - p * f)) =
      ap (λ x. flat_map (digest hash leaves f x) (children n f k p)) same ∙ ap (flat_map (digest hash leaves f j)) kids in
      let right : folded_in_turn (need n f chosen k) (folded hash n f chosen given k) (children n f k p) (drop start cover) ≡ folded_in_turn (need n f chosen j) (folded hash n f chosen given j) (range_with_len (p * f) (end - p * f)) (drop start cover) =
      ap (λ x. folded_in_turn (need n f chosen x) (folded hash n f chosen given x) (children n f k p) (drop start cover)) same ∙ ap (λ ps. folded_in_turn (need n f chosen j) (folded hash n f chosen given j) ps (drop start cover)) kids in
      record {
        at = q;
        next = next;
        differ = λ h. ne (sym right ∙ sym (cons-tail h) ∙ left);
        same = sym e ∙ ap (λ l. hash (1 ∷ l)) (sym right);
      }

  -- nothing has been compared yet
  pub SameSoFar-none : (j first start item : ℕ) → SameSoFar hash leaves f chosen given cover j first 0 start item item
  unfolding folded_in_turn
  SameSoFar-none j first start item = record {
    digests = refl;
    texts = λ i a b. absurd (omega (arith, a, b));
    covers = refl;
  }

  -- one more child is equal
  pub SameSoFar-more : ((m : List ℕ) → length (hash m) ≡ 32) → (j first child start item now next taken : ℕ) (d : List ℕ) → first ≤ child → SameSoFar hash leaves f chosen given cover j first (child - first) start item now
      → taken ≡ start + sum_by (need (length leaves) f chosen j) (range_with_len first (child - first))
      → folded_in_turn (need (length leaves) f chosen j) (folded hash (length leaves) f chosen given j) (range_with_len first (child + 1 - first)) (drop start cover) ≡ folded_in_turn (need (length leaves) f chosen j) (folded hash (length leaves) f chosen given j) (range_with_len first (child - first)) (drop start cover) ++ d
      → d ≡ digest hash leaves f j child → SameBelow hash leaves f chosen given cover j child taken now next → SameSoFar hash leaves f chosen given cover j first (child + 1 - first) start item next
  SameSoFar-more size j first child start item now next taken d l s et ef ed b =
      let n = length leaves in
      let m = child - first in
      let t = need n f chosen j in
      let here : first + m ≡ child = omega arith in
      let count : child + 1 - first ≡ m + 1 = omega arith in
      let total : sum_by t (range_with_len first (child + 1 - first)) ≡ sum_by t (range_with_len first m) + t child =
      ap (λ i. sum_by t (range_with_len first i)) count ∙ sum_by-range-push t first m ∙ ap (λ x. sum_by t (range_with_len first m) + t x) here in
      record {
        digests = ef ∙ ap (λ l. l ++ d) s.digests ∙ ap (λ x. flat_map (digest hash leaves f j) (range_with_len first m) ++ x) ed ∙ flat_map-child (digest hash leaves f j) first child [] (flat_map (digest hash leaves f j) (range_with_len first m)) l refl;
        texts = λ i a c. elim (cases_lt i now) [ inl lt ↦ s.texts i a lt | inr ge ↦ b.texts i ge c ];
        covers =
            ap (λ c. take c (drop start cover)) total
            ∙ take-add (sum_by t (range_with_len first m)) (t child) (drop start cover)
            ∙ ap (λ x. x ++ take (t child) (drop (sum_by t (range_with_len first m)) (drop start cover))) s.covers
            ∙ ap (λ x. flat_map (cover_below (digest hash leaves f) n f chosen j) (range_with_len first m) ++ take (t child) x) (drop-drop (sum_by t (range_with_len first m)) start cover ∙ ap (λ i. drop i cover) (sym et))
            ∙ ap (λ x. flat_map (cover_below (digest hash leaves f) n f chosen j) (range_with_len first m) ++ x) b.digests
            ∙ flat_map-child (cover_below (digest hash leaves f) n f chosen j) first child [] (flat_map (cover_below (digest hash leaves f) n f chosen j) (range_with_len first m)) l refl;
      }

  -- all children are equal
  pub SameBelow-above : {k p w item start : ℕ} → CanCompare hash leaves f chosen given cover levels whole k p w item start → has_chosen f chosen k p ≡ true → (j end next : ℕ) → k ≡ suc j → end ≡ min (p * f + f) (places_at (length leaves) f j) → SameSoFar hash leaves f chosen given cover j (p * f) (end - p * f) start item next → SameBelow hash leaves f chosen given cover k p start item next
  SameBelow-above {k} {p} {w} {item} {start} q some j end next e ee s =
      let n = length leaves in
      let some' : has_chosen f chosen (suc j) p ≡ true = subst (λ x. has_chosen f chosen x p ≡ true) e some in
      let kids = children-is n f j p end ee in
      record {
        texts = s.texts;
        digests =
            ap (λ x. take (need n f chosen x p) (drop start cover)) e ∙ ap (λ c. take c (drop start cover)) (need-above n f chosen j p some' ∙ ap (sum_by (need n f chosen j)) kids)
            ∙ s.covers ∙ ap (flat_map (cover_below (digest hash leaves f) n f chosen j)) (sym kids) ∙ sym (cover_below-above (digest hash leaves f) n f chosen j p some') ∙ ap (λ x. cover_below (digest hash leaves f) n f chosen x p) (sym e);
      }

  -- one more child adds a difference or keeps one
  pub apart-more : ((m : List ℕ) → length (hash m) ≡ 32) → (j first child : ℕ) (a d : List ℕ) → first ≤ child → length a ≡ 32 * (child - first) → (a ≡ flat_map (digest hash leaves f j) (range_with_len first (child - first)) → d ≡ digest hash leaves f j child → ⊥) → (a ++ d ≡ flat_map (digest hash leaves f j) (range_with_len first (child + 1 - first)) → ⊥)
  apart-more size j first child a d l la ne h =
      let m = child - first in
      let b = flat_map (digest hash leaves f j) (range_with_len first m) in
      let lb : length b ≡ 32 * m = length-flat_map-digest hash size leaves f j (range_with_len first m) ∙ ap (λ x. 32 * x) (length-range_with_len first m) in
      let more : b ++ digest hash leaves f j child ≡ flat_map (digest hash leaves f j) (range_with_len first (child + 1 - first)) = flat_map-child (digest hash leaves f j) first child [] b l refl in
      let two = append_inj a b d (digest hash leaves f j child) (la ∙ sym lb) (h ∙ sym more) in
      ne two.0 two.1

-- the text of a position above the leaves
pub hashed_text-above : (hash : List ℕ → List ℕ) (leaves : List (List ℕ)) (f k j p end : ℕ) → k ≡ suc j → end ≡ min (p * f + f) (places_at (length leaves) f j) → 1 ∷ flat_map (digest hash leaves f j) (range_with_len (p * f) (end - p * f)) ≡ hashed_text hash leaves f k p
unfolding hashed_text
hashed_text-above hash leaves f k j p end e ee =
    ap (λ ps. 1 ∷ flat_map (digest hash leaves f j) ps) (sym (children-is (length leaves) f j p end ee)) ∙ ap (λ x. hashed_text hash leaves f x p) (sym e)

pub hashed_text-leaf : (hash : List ℕ → List ℕ) (leaves : List (List ℕ)) (f k p : ℕ) → k ≡ 0 → 0 ∷ get_or leaves p [] ≡ hashed_text hash leaves f k p
unfolding hashed_text
hashed_text-leaf hash leaves f k p e = ap (λ x. hashed_text hash leaves f x p) (sym e)

pub folded_text-above : (hash : List ℕ → List ℕ) (n f : ℕ) (chosen : List ℕ) (given : List (List ℕ)) (k j p end : ℕ) (cover : List (List ℕ)) → k ≡ suc j → end ≡ min (p * f + f) (places_at n f j) → 1 ∷ folded_in_turn (need n f chosen j) (folded hash n f chosen given j) (range_with_len (p * f) (end - p * f)) cover ≡ folded_text hash n f chosen given k p cover
unfolding folded_text
folded_text-above hash n f chosen given k j p end cover e ee =
    ap (λ ps. 1 ∷ folded_in_turn (need n f chosen j) (folded hash n f chosen given j) ps cover) (sym (children-is n f j p end ee)) ∙ ap (λ x. folded_text hash n f chosen given x p cover) (sym e)

pub folded_text-leaf : (hash : List ℕ → List ℕ) {n f : ℕ} {chosen : List ℕ} {given : List (List ℕ)} {k p w item start : ℕ} → CanFold n f chosen given k p w item start → (cover : List (List ℕ)) → k ≡ 0 → item < length chosen → get_or chosen item 0 < (p + 1) * w → 0 ∷ get_or given item [] ≡ folded_text hash n f chosen given k p cover
unfolding folded_text
folded_text-leaf hash {n} {f} {chosen} {given} {k} {p} {w} {item} {start} q cover z l b =
    let one : w ≡ 1 = q.walk.span ∙ ap (λ x. f ^ x) z ∙ pow-zero f in
    let b1 : get_or chosen item 0 < (p + 1) * 1 = subst (λ x. get_or chosen item 0 < (p + 1) * x) one b in
    let low : p * w ≤ get_or chosen item 0 = q.walk.items.after item (le_refl item) l in
    let low1 : p * 1 ≤ get_or chosen item 0 = subst (λ x. p * x ≤ get_or chosen item 0) one low in
    let here : get_or chosen item 0 ≡ p = omega (arith, b1, low1) in
    let text : text_for chosen given p ≡ get_or given item [] = ap (text_for chosen given) (sym here) ∙ text_for-at n chosen given item q.walk.rising q.texts l in
    ap (λ t. 0 ∷ t) (sym text) ∙ ap (λ x. folded_text hash n f chosen given x p cover) (sym z)

pub CanRead-small : {hash : List ℕ → List ℕ} {leaves : List (List ℕ)} {f : ℕ} {levels : List (List (List ℕ))} {k p w : ℕ} → CanRead hash leaves f levels k p w → (p < 2 ^ 32) × (p * f < 2 ^ 37) × (p < places_at (length leaves) f k)
CanRead-small {leaves} {f} {k} {p} {w} q =
    let pos : 0 < w = rw q.span (one-le-pow k f (omega (arith, q.fan))) in
    let low : p < 2 ^ 32 = omega (arith, mul-le p 1 p w (le_refl p) pos, q.place, q.count) in
    (low, omega (arith, mul-le p f (2 ^ 32 - 1) 32 (omega (arith, low)) q.fan_max), places_at-lt-mul (length leaves) f k p (omega (arith, q.fan)) (subst (λ x. p * x < length leaves) q.span q.place))

-- the numbers on the way to a position fit their types
pub CanRead-fits : {hash : List ℕ → List ℕ} {leaves : List (List ℕ)} {f : ℕ} {levels : List (List (List ℕ))} {k p w : ℕ} → CanRead hash leaves f levels k p w → Fits w32 p × Fits w64 (p * f) × Fits w64 (p * f + f)
CanRead-fits q =
    let small = CanRead-small q in
    (omega (arith, small.0), omega (arith, small.1), omega (arith, small.1, q.fan_max))

pub CanRead-there : {hash : List ℕ → List ℕ} {leaves : List (List ℕ)} {f : ℕ} {levels : List (List (List ℕ))} {k p w : ℕ} → CanRead hash leaves f levels k p w → p < length leaves
CanRead-there {f} {k} {p} {w} q =
    let pos : 0 < w = rw q.span (one-le-pow k f (omega (arith, q.fan))) in
    omega (arith, mul-le p 1 p w (le_refl p) pos, q.place)

pub CanRead-room : {hash : List ℕ → List ℕ} {leaves : List (List ℕ)} {f : ℕ} {levels : List (List (List ℕ))} {k p w : ℕ} → CanRead hash leaves f levels k p w → (k ≡ 0 → ⊥) → w / f ≡ f ^ (k - 1)
CanRead-room {f} {k} {w} q ne = child-room f k w (omega (arith, q.fan)) (above-leaves k ne) q.span

pub CanRead-above : {hash : List ℕ → List ℕ} {leaves : List (List ℕ)} {f : ℕ} {levels : List (List (List ℕ))} {k p w : ℕ} → CanRead hash leaves f levels k p w → (k ≡ 0 → ⊥) → 0 < w / f
CanRead-above {f} {k} q ne = omega (arith, CanRead-room q ne, one-le-pow (k - 1) f (omega (arith, q.fan)))
