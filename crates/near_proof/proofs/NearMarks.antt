-- The marks of a map within a radius can be listed.
use Rattle.std.proofs.Common.{◌≡◌, ℕ, ◌<◌, ◌≤◌, Bool, true, Option, None, Some, List, [], ◌∷◌, map, refl, arith, ap, sym, ◌∙◌, subst}
use Rattle.std.specs.Prelude.{nat_le}
use Rattle.std.specs.List.{Contains, AllByRecursion, filter}
use Rattle.std.specs.List.Sorted.{IsStrictlySortedBy}
use Rattle.std.specs.Option.{unwrap_or}
use Rattle.std.specs.Ordering.{nat_cmp}
use Rattle.std.specs.declared.cmp.Ordering.TheVariants.{Less}
use Rattle.std.proofs.lemmas.Bool.Decides.{nat_tests}
use Rattle.std.proofs.lemmas.List.Kept.{IsStrictlySortedBy-filter}
use Rattle.road_map.specs.declared.parts.Parts.{Parts}
use Rattle.road_map.specs.Walks.{Knows, ids, distance}
use Rattle.road_map.specs.Maps.{IsMap}
use Rattle.road_map.proofs.Among.{Contains-map, Contains-from_map}
use Rattle.road_search.specs.Nearness.{is_within}
use Rattle.book_model.specs.Orders.{by_id}
use Rattle.book_model.proofs.ById.{Up, up_sorted, once, sorted_kept}
use Rattle.proof_method.proofs.Picks.{kept_from, kept_to}
use Rattle.proof_octets.specs.declared.marks.Mark.{Mark}
use Rattle.proof_octets.specs.declared.query.NearQuery.{NearQuery}
use Rattle.proof_octets.specs.Radius.{marked_ids, IsNear, AreWithin}

-- ---- ids that ascend

all_less : (x : ℕ) (xs : List ℕ) → AllByRecursion (λ y. x < y) xs → AllByRecursion (λ y. nat_cmp x y ≡ Less) xs
all_less x [] h = tt
all_less x (y ∷ ys) h = (is_less x y h.0, all_less x ys h.1)
  where
    is_less : (x y : ℕ) → x < y → nat_cmp x y ≡ Less
    is_less x y lt = grind (arith, lt)

sorted_up : (xs : List ℕ) → Up xs → IsStrictlySortedBy nat_cmp xs
unfolding IsStrictlySortedBy
sorted_up [] h = tt
sorted_up (x ∷ xs) h = (all_less x xs h.0, sorted_up xs h.1)

-- ---- the marks

module _ (parts : Parts) (q : NearQuery) where
  mark_of : ℕ → Mark
  mark_of id = record { id = id; distance = unwrap_or (distance parts q.from id) 0 }

  near_test : ℕ → Bool
  near_test id = is_within q.radius (distance parts q.from id)

  -- the ids that pass, each with its distance
  pub marks_of : List Mark
  marks_of = map mark_of (filter near_test (by_id parts.nodes))

  ids_of : (xs : List ℕ) → marked_ids (map mark_of xs) ≡ xs
  unfolding mark_of
  ids_of [] = refl
  ids_of (x ∷ xs) = ap (λ (ys : List ℕ). x ∷ ys) (ids_of xs)

  passes : (m : Mark) → IsNear parts q m → (near_test m.id ≡ true) × (mark_of m.id ≡ m)
  unfolding near_test mark_of
  passes m n = (rw n.distance_is (le_true m.distance q.radius n.within), rw n.distance_is refl)
    where
      le_true : (d most : ℕ) → d ≤ most → nat_le d most ≡ true
      le_true d most le = grind (arith, nat_tests)

  passed : (id : ℕ) → near_test id ≡ true → IsNear parts q (mark_of id)
  unfolding near_test mark_of
  passed id h = by_distance (distance parts q.from id) refl h
    where
      le_of : (d most : ℕ) → nat_le d most ≡ true → d ≤ most
      le_of d most t = grind (arith, nat_tests)

      by_distance : (o : Option ℕ) → distance parts q.from id ≡ o → is_within q.radius o ≡ true → IsNear parts q (record { id = id; distance = unwrap_or (distance parts q.from id) 0 })
      by_distance None e t = cc
      by_distance (Some d) e t = record { distance_is = e ∙ sym (ap (λ (o : Option ℕ). Some (unwrap_or o 0)) e); within = subst (λ (n : ℕ). n ≤ q.radius) (sym (ap (λ (o : Option ℕ). unwrap_or o 0) e)) (le_of d q.radius t) }

  -- they are the nodes within the radius, if each distance is that of a node
  pub all_listed : IsMap parts → ((m : Mark) → IsNear parts q m → Knows parts m.id) → AreWithin parts q marks_of
  unfolding marks_of
  all_listed m known = record {
    rising = subst (IsStrictlySortedBy nat_cmp) (sym (ids_of (filter near_test (by_id parts.nodes)))) (IsStrictlySortedBy-filter nat_cmp near_test (by_id parts.nodes) (sorted_up (by_id parts.nodes) (up_sorted parts.nodes (once parts.nodes m.distinct))));
    same = λ k. (
      λ c. (let from : (id : ℕ) × Contains (filter near_test (by_id parts.nodes)) id × (mark_of id ≡ k) = Contains-from_map mark_of (filter near_test (by_id parts.nodes)) k c in
          subst (IsNear parts q) from.2 (passed from.0 (kept_from near_test (by_id parts.nodes) from.0 from.1).1)),
      λ n. (let test = passes k n in
          subst (Contains (map mark_of (filter near_test (by_id parts.nodes)))) test.1
          (Contains-map mark_of (filter near_test (by_id parts.nodes)) k.id (kept_to near_test (by_id parts.nodes) k.id (sorted_kept (ids parts.nodes) k.id (known k n)) test.0))),
    );
  }
