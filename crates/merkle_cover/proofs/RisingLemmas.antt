-- The digest of a leaf on its way up a tree that takes its texts one at a time.
use Rattle.std.proofs.Common.{◌≡◌, ◌≢◌, ℕ, suc, zero, ◌+◌, ◌-◌, ◌*◌, ◌/◌, ◌%◌, ◌^◌, ◌<◌, ◌≤◌, ◌⊎◌, min, true, false, List, [], ◌∷◌, ◌++◌, map, length, take, drop, set, get_or, slice_get, Option, Some, None, refl, sym, ap, ◌∙◌, subst, arith, cond, inl, inr, add-one, eqb, leb}
use Rattle.std.specs.Int.{div_ceil}
use Rattle.std.specs.List.{range_with_len, flat_map, sum_by}
use Rattle.std.proofs.lemmas.Bool.{cases_lt, cases_eq}
use Rattle.std.proofs.lemmas.List.{map-append, append_assoc, same_lists, get_or-set_same, get_or-set_other, get_or-take, get_or-drop, get_or_default, take_all, length-take-le, length-drop, length-set, length-append}
use Rattle.std.proofs.lemmas.List.Folds.{flat_map-map}
use Rattle.std.proofs.lemmas.List.FromFn.{get_or-map-range_with_len, length-map-range_with_len}
use Rattle.std.proofs.lemmas.Bool.Decides.{nat_tests}
use Rattle.std.proofs.lemmas.Grind.{div_ceil_times}
use Rattle.std.proofs.lemmas.List.Sums.{sum_by-cons}
use Rattle.std.proofs.lemmas.Nat.{mul-le, pow-add}
use Rattle.std.proofs.lemmas.Option.{slice_get_cases, slice_get_within}
use Rattle.std.proofs.Math.Nat.{pow-suc, one-le-pow, le_refl, div-div-eq-div-mul, div-add-mod}
use Rattle.merkle_cover.specs.Shape.{places_at, children, levels_above, top}
use Rattle.merkle_cover.specs.Trees.{digest, root}
use Rattle.merkle_cover.specs.Spots.{spots_of}
use Rattle.merkle_cover.specs.Rising.{Growth, Takes, end_of, whole_places, count_waiting, HoldsLevel, HoldsCover}
use Rattle.merkle_cover.specs.Covers.{cover_of}
use Rattle.merkle_cover.specs.Raising.{CanRaise, IsRaised}
use Rattle.merkle_cover.proofs.OnItsWay.{IsOnItsWay}
use Rattle.merkle_cover.specs.declared.spots.Spot.{Spot}
use Rattle.merkle_cover.proofs.ShapeLemmas.{places_at-lt-mul, mul-lt-places_at, top-covers}
use Rattle.merkle_cover.proofs.CoverLemmas.{sum_by-same}
use Rattle.merkle_cover.proofs.SpotLemmas.{Ranged, Ranged-at, Ranged-next, Ranged-spots_of, cover_of-spots}

-- ---- where positions end

-- a group ends where its last child ends, or where the leaves end
pub closes-up : (n f w p s g m : ℕ) → p ≡ g * f + s → s < f → min n ((p + 1) * w) ≡ m + 1 → (f ≤ s + 1) ⊎ (m + 1 ≡ n) → min n ((g + 1) * (w * f)) ≡ m + 1
closes-up n f w p s g m ep within closes how =
    elim how [
      | inl full ↦
          let same : p + 1 ≡ g * f + f = omega (arith, ep, full, within) in
          let wide : (p + 1) * w ≡ (g + 1) * (w * f) = ap (λ x. x * w) same ∙ omega arith in
          subst (λ x. min n x ≡ m + 1) wide closes
      | inr last ↦
          let far : n ≤ (p + 1) * w = omega (arith, closes, last) in
          let more : (p + 1) * w ≤ (g * f + f) * w = mul-le (p + 1) w (g * f + f) w (omega (arith, ep, within)) (le_refl w) in
          let wide : (g * f + f) * w ≡ (g + 1) * (w * f) = omega arith in
          omega (arith, far, more, wide, last)
    ]

pub starts-up : (f w p s g m : ℕ) → p ≡ g * f + s → p * w ≤ m → g * (w * f) ≤ m
starts-up f w p s g m ep low =
    let more : (g * f) * w ≤ p * w = mul-le (g * f) w p w (omega (arith, ep)) (le_refl w) in
    let wide : (g * f) * w ≡ g * (w * f) = omega arith in
    omega (arith, more, wide, low)

-- two positions of a level that end with the same leaf are the same
same-place : (n w p q m : ℕ) → 0 < w → m < n → p * w ≤ m → q * w < n → min n ((p + 1) * w) ≡ m + 1 → min n ((q + 1) * w) ≡ m + 1 → q ≡ p
same-place n w p q m pos inside low there closes closes' =
    elim (cases_lt q p) [
      | inl less ↦ absurd (let a : (q + 1) * w ≤ p * w = mul-le (q + 1) w p w (omega (arith, less)) (le_refl w) in omega (arith, a, low, closes'))
      | inr more ↦ elim (cases_lt p q) [
        | inl less ↦ absurd (
            let a : (p + 1) * w ≤ q * w = mul-le (p + 1) w q w (omega (arith, less)) (le_refl w) in
            let b : (q + 1) * w ≡ q * w + w = omega arith in
            omega (arith, a, b, there, closes, closes', pos))
        | inr less ↦ omega (arith, more, less)
      ]
    ]

-- no position above an incomplete group ends with the leaf
no-multiple : (f w p s g x : ℕ) → 0 < w → p ≡ g * f + s → s + 1 < f → x * (w * f) ≡ (p + 1) * w → ⊥
no-multiple f w p s g x pos ep less e =
    elim (cases_lt g x) [
      | inl up ↦
          let a : (g + 1) * f ≤ x * f = mul-le (g + 1) f x f (omega (arith, up)) (le_refl f) in
          let b : (p + 1 + 1) * w ≤ (x * f) * w = mul-le (p + 1 + 1) w (x * f) w (omega (arith, a, ep, less)) (le_refl w) in
          let c : (x * f) * w ≡ x * (w * f) = omega arith in
          omega (arith, b, c, e, pos)
      | inr down ↦
          let a : x * f ≤ g * f = mul-le x f g f down (le_refl f) in
          let b : (x * f + 1) * w ≤ (p + 1) * w = mul-le (x * f + 1) w (p + 1) w (omega (arith, a, ep)) (le_refl w) in
          let c : (x * f) * w ≡ x * (w * f) = omega arith in
          omega (arith, b, c, e, pos)
    ]

no-end : (n f k p s g m j q : ℕ) → 0 < f → p ≡ g * f + s → s + 1 < f → m + 1 < n → end_of n f k p ≡ m + 1 → k + 1 ≤ j → end_of n f j q ≡ m + 1 → ⊥
no-end n f k p s g m j q pos ep less inside closes above closes' =
    let w : ℕ = f ^ k in
    let c : ℕ = f ^ (j - suc k) in
    let up : suc k + (j - suc k) ≡ j = omega (arith, above) in
    let power : f ^ j ≡ (f ^ k * f) * c = ap (λ x. f ^ x) (sym up) ∙ pow-add f (suc k) (j - suc k) ∙ ap (λ x. x * c) (pow-suc f k) in
    let here : (p + 1) * f ^ k ≡ m + 1 = omega (arith, closes, inside) in
    let there : (q + 1) * f ^ j ≡ m + 1 = omega (arith, closes', inside) in
    let both : ((q + 1) * c) * (f ^ k * f) ≡ (p + 1) * f ^ k = omega (arith, ap (λ x. (q + 1) * x) power, here, there) in
    no-multiple f (f ^ k) p s g ((q + 1) * c) (one-le-pow k f pos) ep less both

-- ---- the digest of a group

group-children : (n f k p s g m : ℕ) → 0 < f → p ≡ g * f + s → s < f → p * f ^ k ≤ m → m < n → end_of n f k p ≡ m + 1 → (f ≤ s + 1) ⊎ (m + 1 ≡ n) → children n f k g ≡ range_with_len (g * f) (s + 1)
unfolding children
group-children n f k p s g m pos ep within low inside closes how =
    let there : p < places_at n f k = places_at-lt-mul n f k p pos (omega (arith, low, inside)) in
    ap (range_with_len (g * f)) (elim how [
      | inl full ↦ omega (arith, there, ep, full, within)
      | inr last ↦
          let end : places_at n f k ≤ p + 1 = elim (cases_lt (p + 1) (places_at n f k)) [
            | inl more ↦ absurd (omega (arith, mul-lt-places_at n f k (p + 1) pos more, closes, last))
            | inr less ↦ less
          ] in
          omega (arith, there, end, ep, within)
    ])

group-digest : (hash : List ℕ → List ℕ) (texts : List (List ℕ)) (f k p s g m : ℕ) (waiting : List (List ℕ)) (d : List ℕ) → 0 < f → p ≡ g * f + s → s < f → p * f ^ k ≤ m → m < length texts → end_of (length texts) f k p ≡ m + 1 → (f ≤ s + 1) ⊎ (m + 1 ≡ length texts)
    → k * f + s < length waiting → HoldsLevel hash texts f m k waiting → d ≡ digest hash texts f k p
    → hash (1 ∷ flat_map (λ (x : List ℕ). x) (take (s + 1) (drop (k * f) (set waiting (k * f + s) d)))) ≡ digest hash texts f (suc k) g
unfolding digest
group-digest hash texts f k p s g m waiting d pos ep within low inside closes how fits holds is =
    let n = length texts in
    let now = set waiting (k * f + s) d in
    let h = digest hash texts f k in
    let long : length now ≡ length waiting = length-set waiting (k * f + s) d in
    let room : s + 1 ≤ length (drop (k * f) now) = omega (arith, length-drop (k * f) now, long, fits) in
    let size : length (take (s + 1) (drop (k * f) now)) ≡ s + 1 = length-take-le (s + 1) (drop (k * f) now) room in
    let up : end_of n f (suc k) g ≡ m + 1 = subst (λ x. min n ((g + 1) * x) ≡ m + 1) (sym (pow-suc f k)) (closes-up n f (f ^ k) p s g m ep within closes how) in
    let one : (i : ℕ) (e : List ℕ) → i < s + 1 → get_or now (k * f + i) e ≡ h (g * f + i) = λ i e l.
    elim (cases_eq i s) [
      | inl same ↦ ap (λ x. get_or now (k * f + x) e) same ∙ get_or-set_same waiting (k * f + s) d e fits ∙ is ∙ ap h (omega (arith, ep, same))
      | inr other ↦
          let less : i < s = omega (arith, l, other) in
          let apart : k * f + i ≢ k * f + s = λ q. omega (arith, q, less) in
          let before : end_of n f k (g * f + i) ≤ m = omega (arith, low, mul-le (g * f + i + 1) (f ^ k) p (f ^ k) (omega (arith, ep, less)) (le_refl (f ^ k))) in
          get_or-set_other waiting (k * f + s) (k * f + i) d e apart ∙ get_or_default waiting (k * f + i) e [] (omega (arith, fits, less)) ∙ holds.digests g i (omega (arith, less, within)) before (omega (arith, up))
    ] in
    let all : take (s + 1) (drop (k * f) now) ≡ map h (range_with_len (g * f) (s + 1)) =
    same_lists (take (s + 1) (drop (k * f) now)) (map h (range_with_len (g * f) (s + 1))) (size ∙ sym (length-map-range_with_len h (g * f) (s + 1)))
    (λ i e l.
    let l' : i < s + 1 = omega (arith, l, size) in
    get_or-take (s + 1) (drop (k * f) now) i e l' ∙ get_or-drop (k * f) now i e ∙ one i e l' ∙ sym (get_or-map-range_with_len h (g * f) (s + 1) i (g * f + i) e l' (omega arith))) in
    ap (λ l. hash (1 ∷ flat_map (λ (x : List ℕ). x) l)) all ∙ ap (λ l. hash (1 ∷ l)) (flat_map-map (λ (x : List ℕ). x) h (range_with_len (g * f) (s + 1)) ∙ ap (flat_map h) (sym (group-children n f k p s g m pos ep within low inside closes how)))

-- ---- the levels

-- a level with one more text, if none of its positions ends with that text
holds-later : (hash : List ℕ → List ℕ) (texts : List (List ℕ)) (f m j : ℕ) (waiting : List (List ℕ)) → ((q : ℕ) → end_of (length texts) f j q ≡ m + 1 → ⊥) → HoldsLevel hash texts f m j waiting → HoldsLevel hash texts f (m + 1) j waiting
holds-later hash texts f m j waiting none holds = record {
  digests = λ g i l below above.
      elim (cases_eq (end_of (length texts) f j (g * f + i)) (m + 1)) [
        | inl same ↦ absurd (none (g * f + i) same)
        | inr other ↦ holds.digests g i l (omega (arith, below, other)) (omega (arith, above))
      ];
}

-- a write to a slot of another level
holds-other : (hash : List ℕ → List ℕ) (texts : List (List ℕ)) (f m j k s : ℕ) (waiting : List (List ℕ)) (d : List ℕ) → j ≢ k → s < f → HoldsLevel hash texts f m j waiting → HoldsLevel hash texts f m j (set waiting (k * f + s) d)
holds-other hash texts f m j k s waiting d other within holds = record {
  digests = λ g i l below above.
      let apart : j * f + i ≢ k * f + s = λ e. elim (cases_lt j k) [
        | inl less ↦ absurd (omega (arith, e, l, mul-le (j + 1) f k f (omega (arith, less)) (le_refl f)))
        | inr more ↦ absurd (omega (arith, e, within, mul-le (k + 1) f j f (omega (arith, more, other)) (le_refl f)))
      ] in
      get_or-set_other waiting (k * f + s) (j * f + i) d [] apart ∙ holds.digests g i l below above;
}

-- a completed group no longer holds any digest
holds-closed : (hash : List ℕ → List ℕ) (texts : List (List ℕ)) (f k g m : ℕ) (waiting : List (List ℕ)) → 0 < f → end_of (length texts) f (suc k) g ≡ m + 1 → HoldsLevel hash texts f (m + 1) k waiting
holds-closed hash texts f k g m waiting pos closes = record {
  digests = λ g' i l below above.
      let n = length texts in
      let w : ℕ = f ^ k in
      let power : f ^ suc k ≡ f ^ k * f = pow-suc f k in
      let some : 1 ≤ f ^ k = one-le-pow k f pos in
      absurd (elim (cases_lt g g') [
        | inl up ↦
            let a : ((g + 1) * f + 1) * f ^ k ≤ (g' * f + i + 1) * f ^ k = mul-le ((g + 1) * f + 1) (f ^ k) (g' * f + i + 1) (f ^ k) (omega (arith, mul-le (g + 1) f g' f (omega (arith, up)) (le_refl f))) (le_refl (f ^ k)) in
            let b : (g + 1) * f ^ suc k ≡ ((g + 1) * f) * f ^ k = omega (arith, ap (λ x. (g + 1) * x) power) in
            let c : ((g + 1) * f + 1) * f ^ k ≡ ((g + 1) * f) * f ^ k + f ^ k = omega arith in
            omega (arith, a, b, c, closes, below, above, some)
        | inr down ↦
            let a : (g' + 1) * f ^ suc k ≤ (g + 1) * f ^ suc k = mul-le (g' + 1) (f ^ suc k) (g + 1) (f ^ suc k) (omega (arith, down)) (le_refl (f ^ suc k)) in
            omega (arith, a, closes, above)
      ]);
}

-- a digest waits for its group
holds-waiting : (hash : List ℕ → List ℕ) (texts : List (List ℕ)) (f k p s g m : ℕ) (waiting : List (List ℕ)) (d : List ℕ) → 0 < f → p ≡ g * f + s → s < f → p * f ^ k ≤ m → m + 1 < length texts → end_of (length texts) f k p ≡ m + 1
    → k * f + s < length waiting → d ≡ digest hash texts f k p → HoldsLevel hash texts f m k waiting → HoldsLevel hash texts f (m + 1) k (set waiting (k * f + s) d)
holds-waiting hash texts f k p s g m waiting d pos ep within low inside closes fits is holds = record {
  digests = λ g' i l below above.
      let n = length texts in
      let some : 1 ≤ f ^ k = one-le-pow k f pos in
      let power : f ^ suc k ≡ f ^ k * f = pow-suc f k in
      let here : (p + 1) * f ^ k ≡ m + 1 = omega (arith, closes, inside) in
      let most : g' * f + i ≤ p = elim (cases_lt p (g' * f + i)) [
        | inl more ↦ absurd (
            let a : (p + 1 + 1) * f ^ k ≤ (g' * f + i + 1) * f ^ k = mul-le (p + 1 + 1) (f ^ k) (g' * f + i + 1) (f ^ k) (omega (arith, more)) (le_refl (f ^ k)) in
            let b : (p + 1 + 1) * f ^ k ≡ (p + 1) * f ^ k + f ^ k = omega arith in
            omega (arith, a, b, here, below, inside, some))
        | inr less ↦ less
      ] in
      let least : g ≤ g' = elim (cases_lt g' g) [
        | inl less ↦ absurd (
            let a : ((g' + 1) * f) * f ^ k ≤ p * f ^ k = mul-le ((g' + 1) * f) (f ^ k) p (f ^ k) (omega (arith, ep, mul-le (g' + 1) f g f (omega (arith, less)) (le_refl f))) (le_refl (f ^ k)) in
            let b : (g' + 1) * f ^ suc k ≡ ((g' + 1) * f) * f ^ k = omega (arith, ap (λ x. (g' + 1) * x) power) in
            omega (arith, a, b, low, above))
        | inr more ↦ more
      ] in
      let same : g' ≡ g = elim (cases_lt g g') [
        | inl more ↦ absurd (omega (arith, most, ep, within, mul-le (g + 1) f g' f (omega (arith, more)) (le_refl f)))
        | inr less ↦ omega (arith, less, least)
      ] in
      let sum : g' * f ≡ g * f = ap (λ x. x * f) same in
      elim (cases_eq i s) [
        | inl e ↦ ap (λ x. get_or (set waiting (k * f + s) d) (k * f + x) []) e ∙ get_or-set_same waiting (k * f + s) d [] fits ∙ is ∙ ap (digest hash texts f k) (omega (arith, ep, e, sum))
        | inr ne ↦
            let apart : k * f + i ≢ k * f + s = λ e. ne (omega (arith, e)) in
            let first : end_of n f k (g' * f + i) ≤ m = omega (arith, low, mul-le (g' * f + i + 1) (f ^ k) p (f ^ k) (omega (arith, most, ep, sum, ne)) (le_refl (f ^ k))) in
            get_or-set_other waiting (k * f + s) (k * f + i) d [] apart ∙ holds.digests g' i l first (omega (arith, above))
      ];
}

-- ---- the cover

take-next : {X : Type 0} (xs : List X) (i : ℕ) (x : X) → slice_get xs i ≡ Some x → take (i + 1) xs ≡ take i xs ++ x ∷ []
take-next [] i x e = cc
take-next (y ∷ ys) zero x e = let same : y ≡ x = cc in ap (λ z. z ∷ []) same
take-next (y ∷ ys) (suc i) x e =
    let up : suc i + 1 ≡ suc (i + 1) = omega arith in
    ap (λ j. take j (y ∷ ys)) up ∙ ap (λ l. y ∷ l) (take-next ys i x e)

spot-is : (s : Spot) (k p : ℕ) → s.level ≡ k → s.place ≡ p → s ≡ record { level = k; place = p }
spot-is s k p a b = ap (λ x. record { level = x; place = s.place }) a ∙ ap (λ x. record { level = k; place = x }) b

-- the cover is unchanged
cover-stays : (hash : List ℕ → List ℕ) (texts : List (List ℕ)) (n f m : ℕ) (waiting : List (List ℕ)) (spots : List Spot) (cover cover' : List (List ℕ)) (k p : ℕ) (d : List ℕ) → cover' ≡ cover
    → ((s : Spot) → slice_get spots (length cover) ≡ Some s → end_of n f s.level s.place ≡ m + 1 → k + 1 ≤ s.level)
    → IsOnItsWay hash texts n f m waiting spots cover k k p d → IsOnItsWay hash texts n f m waiting spots cover' k (k + 1) p d
cover-stays hash texts n f m waiting spots cover cover' k p d same higher way =
    subst (λ (c : List (List ℕ)). IsOnItsWay hash texts n f m waiting spots c k (k + 1) p d) (sym same) (record {
      digest_is = way.digest_is;
      below = way.below;
      above = way.above;
      made = way.made;
      next = λ s e. ((way.next s e).0, higher s e);
    })

-- the cover has one more digest
cover-grows : (hash : List ℕ → List ℕ) (texts : List (List ℕ)) (n f m t b : ℕ) (waiting : List (List ℕ)) (spots : List Spot) (cover cover' : List (List ℕ)) (k p : ℕ) (d : List ℕ) → 0 < f → Ranged n f t 0 b spots → end_of n f k p ≡ m + 1
    → slice_get spots (length cover) ≡ Some (record { level = k; place = p }) → cover' ≡ cover ++ d ∷ []
    → IsOnItsWay hash texts n f m waiting spots cover k k p d → IsOnItsWay hash texts n f m waiting spots cover' k (k + 1) p d
cover-grows hash texts n f m t b waiting spots cover cover' k p d pos ranged closes here more way =
    let h : Spot → List ℕ = λ s. digest hash texts f s.level s.place in
    let spot : Spot = record { level = k; place = p } in
    let one : length (cover ++ d ∷ []) ≡ length cover + 1 = length-append cover (d ∷ []) in
    let all : map h (take (length (cover ++ d ∷ [])) spots) ≡ cover ++ d ∷ [] =
    ap (λ i. map h (take i spots)) one ∙ ap (map h) (take-next spots (length cover) spot here) ∙ map-append h (take (length cover) spots) (spot ∷ [])
    ∙ ap (λ l. l ++ h spot ∷ []) (sym way.made) ∙ ap (λ x. cover ++ x ∷ []) (sym way.digest_is) in
    subst (λ (c : List (List ℕ)). IsOnItsWay hash texts n f m waiting spots c k (k + 1) p d) (sym more) (record {
      digest_is = way.digest_is;
      below = way.below;
      above = way.above;
      made = sym all;
      next = λ s e.
          let e' : slice_get spots (length cover + 1) ≡ Some s = subst (λ i. slice_get spots i ≡ Some s) one e in
          let behind = Ranged-next n f t 0 b spots ranged (length cover) spot s here e' in
          let there = Ranged-at n f t 0 b spots ranged (length cover + 1) s e' in
          let some : 1 ≤ f ^ s.level = one-le-pow s.level f pos in
          let far : (s.place + 1) * f ^ s.level ≡ s.place * f ^ s.level + f ^ s.level = omega arith in
          (omega (arith, behind, there.1, some, far, closes), λ same. absurd (omega (arith, behind, there.1, some, far, closes, same)));
    })

pub cover-taken : (hash : List ℕ → List ℕ) (texts : List (List ℕ)) (n f m t b : ℕ) (waiting : List (List ℕ)) (spots : List Spot) (cover cover' : List (List ℕ)) (k p : ℕ) (d : List ℕ) → 0 < f → m < n → Ranged n f t 0 b spots
    → p * f ^ k ≤ m → end_of n f k p ≡ m + 1
    → (slice_get spots (length cover) ≡ Some (record { level = k; place = p }) → cover' ≡ cover ++ d ∷ [])
    → (slice_get spots (length cover) ≢ Some (record { level = k; place = p }) → cover' ≡ cover)
    → IsOnItsWay hash texts n f m waiting spots cover k k p d → IsOnItsWay hash texts n f m waiting spots cover' k (k + 1) p d
cover-taken hash texts n f m t b waiting spots cover cover' k p d pos inside ranged low closes taken kept way =
    elim (slice_get_cases spots (length cover)).1 [
      | inl found ↦
          let x : Spot = found.0 in
          let is : slice_get spots (length cover) ≡ Some x = found.2 in
          elim (cases_eq x.level k) [
            | inl el ↦ elim (cases_eq x.place p) [
              | inl ep ↦
                  let here : slice_get spots (length cover) ≡ Some (record { level = k; place = p }) = is ∙ ap Some (spot-is x k p el ep) in
                  cover-grows hash texts n f m t b waiting spots cover cover' k p d pos ranged closes here (taken here) way
              | inr ne ↦
                  let off : (s : Spot) → slice_get spots (length cover) ≡ Some s → end_of n f s.level s.place ≡ m + 1 → ⊥ = λ s e same.
                  let to : s ≡ x = (let both : Some s ≡ Some x = sym e ∙ is in cc) in
                  let same' : min n ((x.place + 1) * f ^ x.level) ≡ m + 1 = subst (λ (y : Spot). end_of n f y.level y.place ≡ m + 1) to same in
                  let same'' : min n ((x.place + 1) * f ^ k) ≡ m + 1 = subst (λ i. min n ((x.place + 1) * f ^ i) ≡ m + 1) el same' in
                  let there : x.place * f ^ k < n = subst (λ i. x.place * f ^ i < n) el (Ranged-at n f t 0 b spots ranged (length cover) x is).1 in
                  ne (same-place n (f ^ k) p x.place m (one-le-pow k f pos) inside low there closes same'') in
                  cover-stays hash texts n f m waiting spots cover cover' k p d
                  (kept (λ e. let both : Some x ≡ Some (record { level = k; place = p }) = sym is ∙ e in let one : x ≡ record { level = k; place = p } = cc in ne (ap (λ (y : Spot). y.place) one)))
                  (λ s e same. absurd (off s e same)) way
            ]
            | inr ne ↦
                cover-stays hash texts n f m waiting spots cover cover' k p d
                (kept (λ e. let both : Some x ≡ Some (record { level = k; place = p }) = sym is ∙ e in let one : x ≡ record { level = k; place = p } = cc in ne (ap (λ (y : Spot). y.level) one)))
                (λ s e same.
                let least : k ≤ s.level = (way.next s e).1 same in
                let to : s ≡ x = (let both : Some s ≡ Some x = sym e ∙ is in cc) in
                let level : s.level ≡ x.level = ap (λ (y : Spot). y.level) to in
                omega (arith, least, level, ne)) way
          ]
      | inr past ↦
          let none : slice_get spots (length cover) ≡ None = past.1 in
          cover-stays hash texts n f m waiting spots cover cover' k p d
          (kept (λ e. let no : ◌≡◌ {A = Option Spot} None (Some (record { level = k; place = p })) = sym none ∙ e in cc))
          (λ s e same. absurd (let no : ◌≡◌ {A = Option Spot} None (Some s) = sym none ∙ e in cc)) way
    ]

-- ---- the way of a leaf's digest

-- the state on the way, without the cover's digest at that position
pub way-begins : (hash : List ℕ → List ℕ) (texts : List (List ℕ)) (places : List ℕ) (n f m : ℕ) (waiting : List (List ℕ)) (spots : List Spot) (cover : List (List ℕ)) (d : List ℕ) → CanRaise hash texts places n f m waiting spots cover d → IsOnItsWay hash texts n f m waiting spots cover 0 0 m d
way-begins hash texts places n f m waiting spots cover d can = record {
  digest_is = can.leaf;
  below = λ k l. absurd (omega (arith, l));
  above = λ k a l. can.levels k l;
  made = can.covers.made;
  next = λ s e. (omega (arith, can.covers.next s e, can.count), λ same. omega arith);
}

-- a group was completed
pub way-goes-up : (hash : List ℕ → List ℕ) (texts : List (List ℕ)) (n f m : ℕ) (waiting waiting' : List (List ℕ)) (spots : List Spot) (cover : List (List ℕ)) (k p s g : ℕ) (d d' : List ℕ) → length texts ≡ n → 0 < f → p ≡ g * f + s → s < f → p * f ^ k ≤ m → m < n → end_of n f k p ≡ m + 1 → (f ≤ s + 1) ⊎ (m + 1 ≡ n)
    → k < top n f → k * f + s < length waiting → waiting' ≡ set waiting (k * f + s) d → d' ≡ hash (1 ∷ flat_map (λ (x : List ℕ). x) (take (s + 1) (drop (k * f) waiting')))
    → IsOnItsWay hash texts n f m waiting spots cover k (k + 1) p d → IsOnItsWay hash texts n f m waiting' spots cover (k + 1) (k + 1) g d'
way-goes-up hash texts n f m waiting waiting' spots cover k p s g d d' count pos ep within low inside closes how under fits put made way =
    let now : List (List ℕ) = set waiting (k * f + s) d in
    let inside' : m < length texts = omega (arith, inside, count) in
    let closes' : end_of (length texts) f k p ≡ m + 1 = subst (λ x. end_of x f k p ≡ m + 1) (sym count) closes in
    let how' : (f ≤ s + 1) ⊎ (m + 1 ≡ length texts) = subst (λ x. (f ≤ s + 1) ⊎ (m + 1 ≡ x)) (sym count) how in
    let up : end_of (length texts) f (suc k) g ≡ m + 1 = subst (λ x. min (length texts) ((g + 1) * x) ≡ m + 1) (sym (pow-suc f k)) (closes-up (length texts) f (f ^ k) p s g m ep within closes' how') in
    let one : hash (1 ∷ flat_map (λ (x : List ℕ). x) (take (s + 1) (drop (k * f) now))) ≡ digest hash texts f (suc k) g =
    group-digest hash texts f k p s g m waiting d pos ep within low inside' closes' how' fits (way.above k (le_refl k) under) way.digest_is in
    let higher : suc k ≡ k + 1 = omega arith in
    subst (λ (w : List (List ℕ)). IsOnItsWay hash texts n f m w spots cover (k + 1) (k + 1) g d') (sym put) (record {
      digest_is = made ∙ ap (λ (w : List (List ℕ)). hash (1 ∷ flat_map (λ (x : List ℕ). x) (take (s + 1) (drop (k * f) w)))) put ∙ one ∙ ap (λ x. digest hash texts f x g) higher;
      below = λ j l. elim (cases_eq j k) [
        | inl e ↦ subst (λ x. HoldsLevel hash texts f (m + 1) x now) (sym e) (holds-closed hash texts f k g m now pos up)
        | inr ne ↦ holds-other hash texts f (m + 1) j k s waiting d ne within (way.below j (omega (arith, l, ne)))
      ];
      above = λ j a l. holds-other hash texts f m j k s waiting d (λ e. omega (arith, e, a)) within (way.above j (omega (arith, a)) l);
      made = way.made;
      next = way.next;
    })

-- a group is not complete yet
pub way-ends : (hash : List ℕ → List ℕ) (texts : List (List ℕ)) (n f m : ℕ) (waiting waiting' : List (List ℕ)) (spots : List Spot) (cover : List (List ℕ)) (k p s g : ℕ) (d : List ℕ) → length texts ≡ n → 0 < f → p ≡ g * f + s → s + 1 < f → p * f ^ k ≤ m → m + 1 < n → end_of n f k p ≡ m + 1
    → k < top n f → k * f + s < length waiting → waiting' ≡ set waiting (k * f + s) d
    → IsOnItsWay hash texts n f m waiting spots cover k (k + 1) p d → IsRaised hash texts n f m waiting' spots cover d
way-ends hash texts n f m waiting waiting' spots cover k p s g d count pos ep less low inside closes under fits put way =
    let now : List (List ℕ) = set waiting (k * f + s) d in
    let within : s < f = omega (arith, less) in
    let inside' : m + 1 < length texts = omega (arith, inside, count) in
    let closes' : end_of (length texts) f k p ≡ m + 1 = subst (λ x. end_of x f k p ≡ m + 1) (sym count) closes in
    subst (λ (w : List (List ℕ)). IsRaised hash texts n f m w spots cover d) (sym put) (record {
      levels = λ j l. elim (cases_eq j k) [
        | inl e ↦ subst (λ x. HoldsLevel hash texts f (m + 1) x now) (sym e) (holds-waiting hash texts f k p s g m waiting d pos ep within low inside' closes' fits way.digest_is (way.above k (le_refl k) under))
        | inr ne ↦ holds-other hash texts f (m + 1) j k s waiting d ne within (elim (cases_lt j k) [
          | inl under' ↦ way.below j under'
          | inr over ↦ holds-later hash texts f m j waiting (λ q e. no-end (length texts) f k p s g m j q pos ep less inside' closes' (omega (arith, over, ne)) e) (way.above j (omega (arith, over)) l)
        ])
      ];
      covers = record {
        made = way.made;
        next = λ s' e.
            let at = way.next s' e in
            let apart : end_of n f s'.level s'.place ≡ m + 1 → ⊥ = λ same. no-end n f k p s g m s'.level s'.place pos ep less inside closes (at.1 same) same in
            elim (cases_eq (end_of n f s'.level s'.place) (m + 1)) [ inl same ↦ absurd (apart same) | inr ne ↦ omega (arith, at.0, ne) ];
      };
      whole = λ e. absurd (omega (arith, e, inside));
    })

-- the top is reached
pub way-is-whole : (hash : List ℕ → List ℕ) (texts : List (List ℕ)) (n f m b : ℕ) (waiting : List (List ℕ)) (spots : List Spot) (cover : List (List ℕ)) (k p : ℕ) (d : List ℕ) → length texts ≡ n → 2 ≤ f → p * f ^ k ≤ m → m < n → k ≡ top n f → Ranged n f (top n f) 0 b spots
    → IsOnItsWay hash texts n f m waiting spots cover k (k + 1) p d → IsRaised hash texts n f m waiting spots cover d
unfolding root
way-is-whole hash texts n f m b waiting spots cover k p d count f2 low inside at ranged way =
    let wide : n ≤ f ^ top n f = top-covers n f f2 in
    let wide' : n ≤ f ^ k = subst (λ x. n ≤ f ^ x) (sym at) wide in
    let first : p ≡ 0 = elim (cases_lt 0 p) [ inl some ↦ absurd (omega (arith, low, inside, wide', mul-le 1 (f ^ k) p (f ^ k) some (le_refl (f ^ k)))) | inr none ↦ omega (arith, none) ] in
    record {
      levels = λ j l. way.below j (omega (arith, l, at));
      covers = record {
        made = way.made;
        next = λ s e.
            let next = way.next s e in
            let level = (Ranged-at n f (top n f) 0 b spots ranged (length cover) s e).2 in
            elim (cases_eq (end_of n f s.level s.place) (m + 1)) [ inl same ↦ absurd (omega (arith, next.1 same, level, at)) | inr ne ↦ omega (arith, next.0, ne) ];
      };
      whole = λ e. way.digest_is ∙ ap (digest hash texts f k) first ∙ ap (λ x. digest hash texts f x 0) (at ∙ ap (λ x. top x f) (sym count));
    }

-- the digest of a position is kept for the cover if it is the cover's next one
pub way-taken : (hash : List ℕ → List ℕ) (texts : List (List ℕ)) (places : List ℕ) (n f m : ℕ) (waiting : List (List ℕ)) (spots spots' : List Spot) (cover cover' : List (List ℕ)) (k p : ℕ) (d : List ℕ) → 0 < f → m < n → spots ≡ spots_of n f places → spots' ≡ spots
    → p * f ^ k ≤ m → end_of n f k p ≡ m + 1
    → (slice_get spots (length cover) ≡ Some (record { level = k; place = p }) → cover' ≡ cover ++ d ∷ [])
    → (slice_get spots (length cover) ≢ Some (record { level = k; place = p }) → cover' ≡ cover)
    → IsOnItsWay hash texts n f m waiting spots cover k k p d → IsOnItsWay hash texts n f m waiting spots' cover' k (k + 1) p d
way-taken hash texts places n f m waiting spots spots' cover cover' k p d pos inside es same low closes taken kept way =
    let all = Ranged-spots_of n f places pos (omega (arith, inside)) in
    let ranged : Ranged n f (top n f) 0 all.0 spots = subst (λ (ss : List Spot). Ranged n f (top n f) 0 all.0 ss) (sym es) all.1 in
    subst (λ (ss : List Spot). IsOnItsWay hash texts n f m waiting ss cover' k (k + 1) p d) (sym same)
    (cover-taken hash texts n f m (top n f) all.0 waiting spots cover cover' k p d pos inside ranged low closes taken kept way)

-- before the first text nothing is kept
pub takes-nothing : (hash : List ℕ → List ℕ) (texts : List (List ℕ)) (f : ℕ) (places : List ℕ) (r : Growth) → 2 ≤ f → 1 ≤ r.leaves → length texts ≡ r.leaves → r.fan ≡ f → r.pushed ≡ 0 → r.spots ≡ spots_of r.leaves f places → r.cover ≡ [] → Takes hash f places texts r
takes-nothing hash texts f places r f2 some count fan none es bare = record {
  count = count;
  fan_is = fan;
  spots_are = es ∙ ap (λ n. spots_of n f places) (sym count);
  levels = λ k l. record {
    digests = λ g i within below above.
        let first : 1 ≤ f ^ k = one-le-pow k f (omega (arith, f2)) in
        let more : 1 ≤ (g * f + i + 1) * f ^ k = omega (arith, mul-le 1 1 (g * f + i + 1) (f ^ k) (omega arith) first) in
        absurd (omega (arith, below, none, count, some, more));
  };
  covers = record {
    made = bare ∙ sym (ap (λ (l : List (List ℕ)). map (λ (s : Spot). digest hash texts f s.level s.place) (take (length l) r.spots)) bare);
    next = λ s e.
        let first : 1 ≤ f ^ s.level = one-le-pow s.level f (omega (arith, f2)) in
        let more : 1 ≤ (s.place + 1) * f ^ s.level = omega (arith, mul-le 1 1 (s.place + 1) (f ^ s.level) (omega arith) first) in
        omega (arith, none, count, some, more);
  };
  whole = λ e. absurd (omega (arith, e, none, some));
}

-- one more text
pub takes-more : (hash : List ℕ → List ℕ) (texts : List (List ℕ)) (fan : ℕ) (places : List ℕ) (old new : Growth) (text lowest : List ℕ) (before after : List (List ℕ))
    → new.leaves ≡ old.leaves → new.fan ≡ old.fan → new.pushed ≡ old.pushed + 1 → new.spots ≡ old.spots → before ≡ old.waiting → new.waiting ≡ after
    → get_or texts old.pushed [] ≡ text → lowest ≡ hash (0 ∷ text) → Takes hash fan places texts old
    → (CanRaise hash texts places old.leaves old.fan old.pushed before old.spots old.cover lowest → IsRaised hash texts old.leaves old.fan old.pushed after new.spots new.cover new.newest)
    → Takes hash fan places texts new
unfolding digest
takes-more hash texts fan places old new text lowest before after en ef ep es eb ea et el takes raise =
    let can : CanRaise hash texts places old.leaves fan old.pushed old.waiting old.spots old.cover lowest = record {
      count = takes.count;
      leaf = el ∙ ap (λ (t : List ℕ). hash (0 ∷ t)) (sym et);
      spots_are = takes.spots_are ∙ ap (λ n. spots_of n fan places) takes.count;
      levels = λ k l. takes.levels k (subst (λ n. k < top n fan) (sym takes.count) l);
      covers = takes.covers;
    } in
    let done : IsRaised hash texts old.leaves old.fan old.pushed after new.spots new.cover new.newest =
    raise (subst (λ f. CanRaise hash texts places old.leaves f old.pushed before old.spots old.cover lowest) (sym takes.fan_is) (subst (λ (w : List (List ℕ)). CanRaise hash texts places old.leaves fan old.pushed w old.spots old.cover lowest) (sym eb) can)) in
    let raised : IsRaised hash texts old.leaves fan old.pushed new.waiting new.spots new.cover new.newest =
    subst (λ (w : List (List ℕ)). IsRaised hash texts old.leaves fan old.pushed w new.spots new.cover new.newest) (sym ea) (subst (λ f. IsRaised hash texts old.leaves f old.pushed after new.spots new.cover new.newest) takes.fan_is done) in
    record {
      count = takes.count ∙ sym en;
      fan_is = ef ∙ takes.fan_is;
      spots_are = es ∙ takes.spots_are;
      levels = λ k l. subst (λ m. HoldsLevel hash texts fan m k new.waiting) (sym ep) (raised.levels k (subst (λ n. k < top n fan) takes.count l));
      covers = subst (λ m. HoldsCover hash texts fan m new.spots new.cover) (sym ep) raised.covers;
      whole = λ e. raised.whole (sym ep ∙ e ∙ en);
    }

-- all texts have been taken
pub takes-all : (hash : List ℕ → List ℕ) (texts : List (List ℕ)) (fan : ℕ) (places : List ℕ) (r : Growth) → r.pushed ≡ r.leaves → Takes hash fan places texts r → r.cover ≡ cover_of hash texts fan places
takes-all hash texts fan places r whole takes =
    let h : Spot → List ℕ = λ s. digest hash texts fan s.level s.place in
    let all : length r.spots ≤ length r.cover = elim (slice_get_cases r.spots (length r.cover)).1 [
      | inl found ↦ absurd (omega (arith, takes.covers.next found.0 found.2, whole, takes.count))
      | inr past ↦ past.0
    ] in
    takes.covers.made ∙ ap (map h) (take_all (length r.cover) r.spots all ∙ takes.spots_are) ∙ cover_of-spots hash texts fan places

-- ---- the number of waiting digests

same-test : (m n : ℕ) → m ≡ n → eqb m n ≡ true
same-test m n e = grind (arith, nat_tests)

other-test : (m n : ℕ) → m < n → eqb m n ≡ false
other-test m n l = grind (arith, nat_tests)

sum-none : (h : ℕ → ℕ) → ((k : ℕ) → h k ≡ 0) → (a c : ℕ) → sum_by h (range_with_len a c) ≡ 0
sum-none h e a zero = refl
sum-none h e a (suc c) = omega (arith, sum_by-cons h a (range_with_len (a + 1) c), e a, sum-none h e (a + 1) c)

pub none-waits : (n f m : ℕ) → 0 < f → m ≡ n → 0 ≡ count_waiting n f m
unfolding places_at
none-waits n f m pos e =
    let test = same-test m n e in
    sym (sum-none (λ k. whole_places n f m k - f * whole_places n f m (suc k)) (λ k.
    let here : whole_places n f m k ≡ places_at n f k = rw test refl in
    let there : whole_places n f m (suc k) ≡ div_ceil (places_at n f k) f = rw test refl in
    let most = (div_ceil_times (places_at n f k) f pos).0 in
    omega (arith, here, ap (λ x. f * x) there, most)) 0 (top n f))

pub digits-wait : (n f m : ℕ) → m < n → sum_by (λ k. m / f ^ k - f * (m / f ^ suc k)) (range_with_len 0 (top n f)) ≡ count_waiting n f m
digits-wait n f m l =
    let test = other-test m n l in
    sum_by-same (λ k. m / f ^ k - f * (m / f ^ suc k)) (λ k. whole_places n f m k - f * whole_places n f m (suc k)) (range_with_len 0 (top n f)) (λ k. rw test refl)

pub digit-next : (m f k rest : ℕ) → rest ≡ m / f ^ k → (rest / f ≡ m / f ^ (k + 1)) × (rest % f ≡ m / f ^ k - f * (m / f ^ suc k))
digit-next m f k rest e =
    let down : m / f ^ k / f ≡ m / f ^ suc k = div-div-eq-div-mul m (f ^ k) f ∙ ap (λ x. m / x) (sym (pow-suc f k)) in
    let up : suc k ≡ k + 1 = omega arith in
    let split : f * (m / f ^ k / f) + m / f ^ k % f ≡ m / f ^ k = div-add-mod (m / f ^ k) f in (
      ap (λ x. x / f) e ∙ down ∙ ap (λ x. m / f ^ x) up,
      ap (λ x. x % f) e ∙ omega (arith, split, ap (λ x. f * x) down),
    )

levels_above-most : (f most m : ℕ) → levels_above f most m ≤ most
unfolding levels_above
levels_above-most f zero m = omega arith
levels_above-most f (suc most) m =
    let rest = levels_above-most f most (div_ceil m f) in
    elim (leb m 1) as (λ b. cond b 0 (suc (levels_above f most (div_ceil m f))) ≤ suc most) [ true ↦ omega arith | false ↦ omega (arith, rest) ]

pub top-most : (n f : ℕ) → top n f ≤ n
unfolding top
top-most n f = levels_above-most f n n
