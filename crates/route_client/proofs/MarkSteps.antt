-- Sorted ids and their marks.
use Rattle.std.proofs.Common.{◌≡◌, ℕ, ◌+◌, ◌<◌, ◌≤◌, false, IsTrue, Option, None, Some, List, [], ◌∷◌, ◌++◌, inl, inr, length, take, get_or, nat_eq, refl, arith, ap, sym, ◌∙◌, subst}
use Rattle.std.specs.Prelude.{nat_le, All, IsSome}
use Rattle.std.specs.List.{Contains, IsDistinct}
use Rattle.std.specs.List.Sorted.{IsStrictlySortedBy, IsPermutation}
use Rattle.std.specs.Ordering.{nat_cmp, is_lt}
use Rattle.std.specs.Cmp.{nat_cmp_total}
use Rattle.std.specs.declared.cmp.Ordering.TheVariants.{Less}
use Rattle.std.proofs.lemmas.Bool.Decides.{nat_tests}
use Rattle.std.proofs.lemmas.List.{map-append}
use Rattle.std.proofs.lemmas.List.Elements.{Contains-push_cases}
use Rattle.std.proofs.lemmas.List.Sorted.{Contains-permutation, IsPermutation-sym}
use Rattle.std.proofs.lemmas.Map.Keys.{sorted_from_all_adjacent, apart_from_distinct, IsDistinct-IsPermutation}
use Rattle.std.proofs.lemmas.Option.{slice_get-get_or}
use Rattle.road_map.proofs.Among.{Contains-none, Contains-map, Contains-from_map, contains_at}
use Rattle.road_search.specs.Labelling.{Found, length_at}
use Rattle.road_search.specs.Nearness.{is_within}
use Rattle.proof_octets.specs.declared.marks.Mark.{Mark}
use Rattle.proof_octets.specs.Radius.{marked_ids, ListsMarks}
use Rattle.route_client.specs.Reached.{RiseWithin, IsLabelled, AreMarked}

less_between : (x y : ℕ) → is_lt (nat_cmp y x) ≡ false → nat_eq x y ≡ false → nat_cmp x y ≡ Less
less_between x y h k = grind (arith, h, k)

flips : (x y : ℕ) → nat_eq x y ≡ nat_eq y x
flips x y = grind (arith, nat_tests)

-- distinct ids, sorted
pub in_order : (found : Found) (most : ℕ) (ids sorted : List ℕ) → IsDistinct nat_eq ids → ((id : ℕ) → (Contains ids id → IsTrue (is_within most (length_at found id))) × (IsTrue (is_within most (length_at found id)) → Contains ids id)) → IsPermutation ids sorted
    → ((k d : ℕ) → 0 ≤ k → k + 1 < length sorted → is_lt (nat_cmp (get_or sorted (k + 1) d) (get_or sorted k d)) ≡ false) → RiseWithin found most sorted
in_order found most ids sorted distinct within moved ordered =
    let once : IsDistinct nat_eq sorted = IsDistinct-IsPermutation nat_eq flips ids sorted moved distinct in
    record {
      rising = sorted_from_all_adjacent nat_cmp_total sorted 0 (λ k lt. less_between (get_or sorted k 0) (get_or sorted (k + 1) 0) (ordered k 0 (omega arith) lt) (apart_from_distinct nat_eq sorted k (k + 1) 0 once (omega arith) lt));
      same = λ id. (λ c. (within id).0 (Contains-permutation sorted ids id (IsPermutation-sym ids sorted moved) c), λ h. Contains-permutation ids sorted id moved ((within id).1 h));
    }

-- ---- marks of the first ids

pub none_marked : (found : Found) (ids : List ℕ) → AreMarked found (take 0 ids) []
none_marked found ids = record { named = refl; right = λ m c. absurd (Contains-none m c) }

pub one_marked : (found : Found) (ids : List ℕ) (i : ℕ) (before after : List Mark) (m : Mark) → after ≡ before ++ m ∷ [] → take (i + 1) ids ≡ take i ids ++ m.id ∷ []
    → length_at found m.id ≡ Some m.distance → AreMarked found (take i ids) before → AreMarked found (take (i + 1) ids) after
one_marked found ids i before after m pushed more here so_far = record {
  named = ap marked_ids pushed ∙ simp map-append (ap (λ (xs : List ℕ). xs ++ m.id ∷ []) so_far.named ∙ sym more);
  right = λ k c. elim (Contains-push_cases before m k (subst (λ (ms : List Mark). Contains ms k) pushed c)) [
    | inl b ↦ so_far.right k b
    | inr e ↦ subst (λ (x : Mark). length_at found x.id ≡ Some x.distance) e here
  ];
}

-- ---- all cuts

within_is : (most d : ℕ) (o : Option ℕ) → o ≡ Some d → IsTrue (is_within most o) → d ≤ most
within_is most d None e h = cc
within_is most d (Some k) e h = let same : k ≡ d = cc in grind (arith, nat_tests)

is_within_some : (most d : ℕ) (o : Option ℕ) → o ≡ Some d → d ≤ most → IsTrue (is_within most o)
is_within_some most d o e le = rw e (le_true most d le)
  where
    le_true : (most d : ℕ) → d ≤ most → IsTrue (nat_le d most)
    le_true most d le = grind (arith, nat_tests)

pub all_marked : (found : Found) (most : ℕ) (ids : List ℕ) (marks : List Mark) → RiseWithin found most ids → AreMarked found ids marks → ListsMarks (IsLabelled found most) marks
all_marked found most ids marks rise marked = record {
  rising = subst (IsStrictlySortedBy nat_cmp) (sym marked.named) rise.rising;
  same = λ m. (
    λ c. record {
      length_is = marked.right m c;
      within = within_is most m.distance (length_at found m.id) (marked.right m c)
          ((rise.same m.id).0 (subst (λ (xs : List ℕ). Contains xs m.id) marked.named (Contains-map (λ (k : Mark). k.id) marks m c)));
    },
    λ l. back m l,
  );
}
  where
    same_mark : (m k : Mark) → k.id ≡ m.id → k.distance ≡ m.distance → k ≡ m
    same_mark m k id distance = ap (λ (i : ℕ). let x : Mark = record { id = i; distance = k.distance } in x) id ∙ ap (λ (d : ℕ). let x : Mark = record { id = m.id; distance = d } in x) distance

    back : (m : Mark) → IsLabelled found most m → Contains marks m
    back m l =
        let among : Contains ids m.id = (rise.same m.id).1 (is_within_some most m.distance (length_at found m.id) l.length_is l.within) in
        let k : (k : Mark) × Contains marks k × (k.id ≡ m.id) = Contains-from_map (λ (k : Mark). k.id) marks m.id (subst (λ (xs : List ℕ). Contains xs m.id) (sym marked.named) among) in
        let both : Some k.0.distance ≡ Some m.distance = sym (marked.right k.0 k.1) ∙ ap (length_at found) k.2 ∙ l.length_is in
        let far : k.0.distance ≡ m.distance = cc in
        subst (Contains marks) (same_mark m k.0 k.2 far) k.1

-- ids within the radius have lengths
some_within : (most : ℕ) (o : Option ℕ) → IsTrue (is_within most o) → IsSome o
some_within most None h = cc
some_within most (Some d) h = refl

pub all_labelled : (found : Found) (most : ℕ) (ids : List ℕ) → RiseWithin found most ids → All (λ id. IsSome (length_at found id)) ids
all_labelled found most ids rise = λ k d lt. some_within most (length_at found (get_or ids k d)) ((rise.same (get_or ids k d)).0 (contains_at ids k (get_or ids k d) (slice_get-get_or ids k d lt)))
