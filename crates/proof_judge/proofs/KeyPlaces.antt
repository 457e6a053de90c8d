-- Repeated keys in lists sorted by the key, in terms of indices.
use Rattle.std.proofs.Common.{◌≡◌, ℕ, zero, suc, ◌+◌, ◌-◌, ◌≤◌, ◌<◌, ◌==◌, Bool, true, false, cond, None, Some, Option, List, [], ◌∷◌, ◌⊎◌, inl, inr, refl, arith, ap, ◌∙◌, count_by, length, slice_get, get_or}
use Rattle.std.specs.List.{AllAdjacentBelow, find}
use Rattle.std.specs.List.Sorted.{IsNonDecreasingBy}
use Rattle.std.proofs.lemmas.Option.{slice_get-get_or, slice_get_within, get_or_from_slice_get}
use Rattle.road_map.specs.Least.{IsLeast}
use Rattle.road_map.specs.Places.{RiseBy}
use Rattle.proof_judge.proofs.Keys.{is_at, Twice, count-cons, find-count}

module _ {X : Type 0} (key : X → ℕ) where
  abbrev counted : Bool → ℕ
  counted b = cond b 1 0

  head_counts : (id : ℕ) (x : X) → key x ≡ id → counted (key x == id) ≡ 1
  head_counts id x e = let t : (key x == id) ≡ true = grind (arith, e) in ap counted t

  -- an id is at the indices that are counted
  pub one_counts : (id : ℕ) (xs : List X) (i : ℕ) (m : X) → slice_get xs i ≡ Some m → key m ≡ id → 1 ≤ count_by (is_at key id) xs
  one_counts id [] i m is e = cc
  one_counts id (x ∷ xs) zero m is e = let same : x ≡ m = cc in rw (count-cons key id x xs) (omega (arith, head_counts id x (ap key same ∙ e)))
  one_counts id (x ∷ xs) (suc i) m is e = rw (count-cons key id x xs) (omega (arith, one_counts id xs i m is e))

  pub two_count : (id : ℕ) (xs : List X) (i j : ℕ) (m n : X) → i < j → slice_get xs i ≡ Some m → slice_get xs j ≡ Some n → key m ≡ id → key n ≡ id → Twice key xs id
  two_count id [] i j m n lt a b c d = cc
  two_count id (x ∷ xs) i zero m n lt a b c d = omega (arith, lt)
  two_count id (x ∷ xs) zero (suc j) m n lt a b c d = let same : x ≡ m = cc in rw (count-cons key id x xs) (omega (arith, head_counts id x (ap key same ∙ c), one_counts id xs j n b d))
  two_count id (x ∷ xs) (suc i) (suc j) m n lt a b c d = rw (count-cons key id x xs) (omega (arith, two_count id xs i j m n (omega (arith, lt)) a b c d))

  -- an id is at one index
  pub record Once (id : ℕ) (xs : List X) : Type 0 where
    pub i : ℕ
    pub m : X
    pub at : slice_get xs i ≡ Some m
    pub same : key m ≡ id

  -- an id is at two indices
  pub record Both (id : ℕ) (xs : List X) : Type 0 where
    pub i : ℕ
    pub j : ℕ
    pub m : X
    pub n : X
    pub before : i < j
    pub first : slice_get xs i ≡ Some m
    pub second : slice_get xs j ≡ Some n
    pub same_first : key m ≡ id
    pub same_second : key n ≡ id

  is_id : (a id : ℕ) → (a == id) ≡ true → a ≡ id
  is_id a id h = grind (arith, h)

  pub once_from_count : (id : ℕ) (xs : List X) → 1 ≤ count_by (is_at key id) xs → Once id xs
  once_from_count id [] h = absurd (omega (arith, h))
  once_from_count id (x ∷ xs) h = by_head (key x == id) refl (rw (count-cons key id x xs) at h) (once_from_count id xs)
    where
      later : Once id xs → Once id (x ∷ xs)
      later o = record { i = suc o.i; m = o.m; at = o.at; same = o.same }

      by_head : (b : Bool) → (key x == id) ≡ b → 1 ≤ cond b 1 0 + count_by (is_at key id) xs → (1 ≤ count_by (is_at key id) xs → Once id xs) → Once id (x ∷ xs)
      by_head true e le deeper = record { i = 0; m = x; at = refl; same = is_id (key x) id e }
      by_head false e le deeper = later (deeper (omega (arith, le)))

  pub both_from_count : (id : ℕ) (xs : List X) → Twice key xs id → Both id xs
  both_from_count id [] h = absurd (omega (arith, h))
  both_from_count id (x ∷ xs) h = by_head (key x == id) refl (rw (count-cons key id x xs) at h) (both_from_count id xs)
    where
      with_one : (key x == id) ≡ true → Once id xs → Both id (x ∷ xs)
      with_one e o = record { i = 0; j = suc o.i; m = x; n = o.m; before = omega arith; first = refl; second = o.at; same_first = is_id (key x) id e; same_second = o.same }

      later : Both id xs → Both id (x ∷ xs)
      later t = record { i = suc t.i; j = suc t.j; m = t.m; n = t.n; before = omega (arith, t.before); first = t.first; second = t.second; same_first = t.same_first; same_second = t.same_second }

      by_head : (b : Bool) → (key x == id) ≡ b → 2 ≤ cond b 1 0 + count_by (is_at key id) xs → (Twice key xs id → Both id xs) → Both id (x ∷ xs)
      by_head true e le deeper = with_one e (once_from_count id xs (omega (arith, le)))
      by_head false e le deeper = later (deeper (omega (arith, le)))

  -- an ascending key is at least its index
  pub index_below : (xs : List X) → RiseBy key xs → (k : ℕ) (m : X) → slice_get xs k ≡ Some m → k ≤ key m
  index_below xs rise zero m at = omega arith
  index_below xs rise (suc k) m at =
      let lt : k < length xs = omega (arith, slice_get_within xs (suc k) m at) in
      let here : slice_get xs k ≡ Some (get_or xs k m) = slice_get-get_or xs k m lt in
      let before : k ≤ key (get_or xs k m) = index_below xs rise k (get_or xs k m) here in
      let step : key (get_or xs k m) < key m = rise k (suc k) (get_or xs k m) m (omega arith) here at in
      omega (arith, before, step)

  -- there are at most as many keys as numbers below a bound of the last key
  pub few_keys : (xs : List X) (d : X) (most : ℕ) → RiseBy key xs → 0 < length xs → key (get_or xs (length xs - 1) d) < most → length xs ≤ most
  few_keys xs d most rise some lt =
      let at : slice_get xs (length xs - 1) ≡ Some (get_or xs (length xs - 1) d) = slice_get-get_or xs (length xs - 1) d (omega (arith, some)) in
      let below : length xs - 1 ≤ key (get_or xs (length xs - 1) d) = index_below xs rise (length xs - 1) (get_or xs (length xs - 1) d) at in
      omega (arith, below, lt, some)

  -- keys up to an index ascend if no two neighbours are equal
  module _ (xs : List X) (sorted : IsNonDecreasingBy key xs) where
    rise_below : (i : ℕ) → i ≤ length xs → AllAdjacentBelow (λ (x y : X). key x < key y) xs i → (j k : ℕ) (m n : X) → j < k → k < i → slice_get xs j ≡ Some m → slice_get xs k ≡ Some n → key m < key n
    rise_below i le up j zero m n lt below a b = omega (arith, lt)
    rise_below i le up j (suc k) m n lt below a b =
        let step : key (get_or xs k m) < key (get_or xs (k + 1) m) = up k m (omega arith) in
        let more : key (get_or xs j m) ≤ key (get_or xs k m) = sorted j k m (omega (arith, lt)) (omega arith) in
        let x : key (get_or xs j m) ≡ key m = ap key (get_or_from_slice_get xs j m m a) in
        let y : key (get_or xs (suc k) m) ≡ key n = ap key (get_or_from_slice_get xs (suc k) n m b) in
        let z : key (get_or xs (k + 1) m) ≡ key (get_or xs (suc k) m) = ap (λ t. key (get_or xs t m)) (omega arith) in
        omega arith

    pub none_twice : (i : ℕ) → length xs ≤ i → AllAdjacentBelow (λ (x y : X). key x < key y) xs i → IsLeast (Twice key xs) None
    none_twice i ge up = λ id h. bad id (both_from_count id xs h)
      where
        bad : (id : ℕ) → Both id xs → ⊥
        bad id t =
            let lt : key t.m < key t.n = rise_below (length xs) (omega arith) (λ k d below. up k d (omega arith)) t.i t.j t.m t.n t.before (slice_get_within xs t.j t.n t.second) t.first t.second in
            let a : key t.m ≡ id = t.same_first in
            let b : key t.n ≡ id = t.same_second in
            omega arith

    pub least_twice : (i : ℕ) (d : X) → 1 ≤ i → i < length xs → AllAdjacentBelow (λ (x y : X). key x < key y) xs i → key (get_or xs (i - 1) d) ≡ key (get_or xs i d) → IsLeast (Twice key xs) (Some (key (get_or xs i d)))
    least_twice i d pos lt up same = (
      two_count (key (get_or xs i d)) xs (i - 1) i (get_or xs (i - 1) d) (get_or xs i d) (omega arith) (slice_get-get_or xs (i - 1) d (omega arith)) (slice_get-get_or xs i d lt) same refl,
      λ id h. not_before id (both_from_count id xs h),
    )
      where
        not_before : (id : ℕ) → Both id xs → key (get_or xs i d) ≤ id
        not_before id t = elim (side t.j i) [
          | inl less ↦ absurd (let rise : key t.m < key t.n = rise_below i (omega arith) up t.i t.j t.m t.n t.before less t.first t.second in let a : key t.m ≡ id = t.same_first in let b : key t.n ≡ id = t.same_second in omega arith)
          | inr more ↦
              let le : key (get_or xs i d) ≤ key (get_or xs t.j d) = sorted i t.j d more (slice_get_within xs t.j t.n t.second) in
              let a : key (get_or xs t.j d) ≡ key t.n = ap key (get_or_from_slice_get xs t.j t.n d t.second) in
              let b : key t.n ≡ id = t.same_second in
              omega arith
        ]
          where
            side : (k m : ℕ) → (k < m) ⊎ (m ≤ k)
            side k m = grind arith

    -- if no key occurs twice, the keys ascend
    pub keys_rise : ((id : ℕ) → Twice key xs id → ⊥) → RiseBy key xs
    keys_rise distinct i j m n lt a b =
        let le : key (get_or xs i m) ≤ key (get_or xs j m) = sorted i j m (omega arith) (slice_get_within xs j n b) in
        let x : key (get_or xs i m) ≡ key m = ap key (get_or_from_slice_get xs i m m a) in
        let y : key (get_or xs j m) ≡ key n = ap key (get_or_from_slice_get xs j n m b) in
        let apart : key m ≡ key n → ⊥ = λ e. distinct (key n) (two_count (key n) xs i j m n lt a b e refl) in
        omega arith

  -- an item whose key occurs once is the first item with this key
  pub found_at : (id : ℕ) (xs : List X) (p : ℕ) (n : X) → (Twice key xs id → ⊥) → slice_get xs p ≡ Some n → key n ≡ id → find (is_at key id) xs ≡ Some n
  found_at id [] p n one is e = cc
  found_at id (x ∷ xs) zero n one is e = let same : x ≡ n = cc in let t : (key x == id) ≡ true = grind (arith, ap key same ∙ e) in ap (λ b. cond b (Some x) (find (is_at key id) xs)) t ∙ ap Some same
  found_at id (x ∷ xs) (suc p) n one is e = by_head (key x == id) refl (found_at id xs p n (λ two. one (rw (count-cons key id x xs) (omega (arith, two)))) is e)
    where
      by_head : (b : Bool) → (key x == id) ≡ b → find (is_at key id) xs ≡ Some n → find (is_at key id) (x ∷ xs) ≡ Some n
      by_head true t deeper = absurd (one (rw (count-cons key id x xs ∙ ap (λ b. cond b 1 0 + count_by (is_at key id) xs) t) (omega (arith, one_counts id xs p n is e))))
      by_head false t deeper = ap (λ b. cond b (Some x) (find (is_at key id) xs)) t ∙ deeper

  -- a key that occurs zero times is not found
  pub found_none : (id : ℕ) (xs : List X) → count_by (is_at key id) xs ≡ 0 → find (is_at key id) xs ≡ None
  found_none id xs none = by_find (find (is_at key id) xs) refl
    where
      by_find : (o : Option X) → find (is_at key id) xs ≡ o → o ≡ None
      by_find None e = refl
      by_find (Some n) e = absurd (omega (arith, find-count key id xs n e, none))
