-- Walks of any length. A least walk repeats no id and its arcs are short, so no least length comes near the
-- greatest 64-bit number.
use Rattle.std.proofs.Common.{◌≡◌, ℕ, ◌+◌, ◌*◌, ◌^◌, ◌<◌, ◌≤◌, inl, inr, Bool, true, IsTrue, Option, None, Some, IfSome, IsSome, List, [], ◌∷◌, length, nat_eq, refl, arith, ap, sym, ◌∙◌, subst}
use Rattle.std.specs.List.{Contains, IsDistinct}
use Rattle.std.specs.Option.{option_map}
use Rattle.std.proofs.lemmas.List.{length-map}
use Rattle.std.proofs.lemmas.Map.Steps.{length-le_from_distinct_below}
use Rattle.std.proofs.lemmas.Map.Views.{Contains-from_any}
use Rattle.std.proofs.lemmas.Bool.Decides.{nat_tests}
use Rattle.std.proofs.lemmas.Nat.{mul-le}
use Rattle.road_map.specs.declared.arc.Arc.{Arc}
use Rattle.road_map.specs.Least.{IsLeast}
use Rattle.road_map.specs.Routes.{last_stop, walk_length, stops}
use Rattle.road_map.proofs.Among.{Contains-none, Contains-cases}
use Rattle.road_map.proofs.LeastLaws.{IsLeast-same}
use Rattle.road_search.specs.declared.label.Label.{Label}
use Rattle.road_search.specs.Labelling.{Found, IsWay, label_at, length_at, route_at, way_to}
use Rattle.road_search.specs.Passing.{Ways, LetsShorter, Leaves, Passes, PassesBy, Reaches, IsLeastPassing}
use Rattle.road_leaf.specs.declared.leaf.NodeLeaf.{NodeLeaf}
use Rattle.book_model.specs.declared.items.Query.{Query}
use Rattle.proof_judge.specs.declared.refusal.Refusal.TheVariants.{MissingTuple, Shorter}
use Rattle.proof_judge.specs.ItemWalks.{item_at, leaf_ways, EndsLacking}
use Rattle.proof_judge.specs.Judgement.{Then}
use Rattle.proof_judge.specs.Apart.{ApartVerdict, Passed, Leads, HasWay, WalkTests}
use Rattle.proof_judge.specs.SharedTests.{AreShort, IsNarrow}
use Rattle.proof_judge.proofs.ItemLaws.{item_found}
use Rattle.proof_judge.proofs.Reaching.{Reaches-start, Reaches-step}

-- ---- walks of any length

-- a passing walk leads to its last stop
pub walk_leads : (w : Ways) (from to : ℕ) (walk : List Arc) → Passes w from 0 walk → last_stop from walk ≡ to → Leads w from to (walk_length walk)
walk_leads w from to walk passes ends = (stops from walk, record { walk = walk; passes = passes; visits = refl; ends = ends; sums = refl; below = omega arith })

pub reaches_leads : (w : Ways) (from limit to d : ℕ) → Reaches w from limit to d → Leads w from to d
reaches_leads w from limit to d r = let p : PassesBy w from limit to r.0 d = r.1 in (r.0, record { walk = p.walk; passes = p.passes; visits = p.visits; ends = p.ends; sums = p.sums; below = omega arith })

pub lacking_way : (w : Ways) (from id : ℕ) → EndsLacking w from id → HasWay w from id × (w.arcs id ≡ None)
lacking_way w from id l = ((walk_length l.walk, walk_leads w from id l.walk l.passes l.ends), l.lacks)

pub way_lacking : (w : Ways) (from id : ℕ) → HasWay w from id → w.arcs id ≡ None → EndsLacking w from id
way_lacking w from id h lacks = let p : PassesBy w from (h.0 + 1) id h.1.0 h.0 = h.1.1 in record { walk = p.walk; passes = p.passes; ends = p.ends; lacks = lacks }

-- ---- a search below the greatest 64-bit number

pub has_way : (found : Found) (v d : ℕ) → length_at found v ≡ Some d → (r : List ℕ) × (route_at found v ≡ Some r)
has_way found v d is = by_label (label_at found.labels v) refl is
  where
    by_label : (o : Option Label) → label_at found.labels v ≡ o → option_map (λ l. l.length) o ≡ Some d → (r : List ℕ) × (route_at found v ≡ Some r)
    by_label None e h = cc
    by_label (Some l) e h = (way_to (label_at found.labels) l.hops v, ap (option_map (λ k. way_to (label_at found.labels) k.hops v)) e)

module _ (w : Ways) (shorter : LetsShorter w) (narrow : IsNarrow w) where
  has_entry : (u : ℕ) (a : Arc) → Leaves w u a → IsSome (w.arcs u)
  has_entry u a h = rw h.entry refl

  fits : (u : ℕ) (a : Arc) → Leaves w u a → a.length < 2 ^ 32
  fits u a h = narrow.short u h.out a h.entry h.among

  -- if the last stop has an entry, each stop has one
  entries : (u p : ℕ) (walk : List Arc) → Passes w u p walk → IsSome (w.arcs (last_stop u walk)) → (x : ℕ) → Contains (stops u walk) x → IsSome (w.arcs x)
  entries u p [] h last x c = elim (Contains-cases u x [] c) [
    | inl e ↦ subst (λ v. IsSome (w.arcs v)) e last
    | inr none ↦ absurd (Contains-none x none)
  ]
  entries u p (a ∷ walk) h last x c = elim (Contains-cases u x (stops a.to walk) c) [
    | inl e ↦ subst (λ v. IsSome (w.arcs v)) e (has_entry u a h.0)
    | inr d ↦ entries a.to (p + a.length) walk h.2 last x d
  ]

  walk_bound : (u p : ℕ) (walk : List Arc) → Passes w u p walk → walk_length walk ≤ 4294967295 * length walk
  walk_bound u p [] h = omega arith
  walk_bound u p (a ∷ walk) h = omega (arith, fits u a h.0, walk_bound a.to (p + a.length) walk h.2)

  -- a walk that repeats no id and leads to an id with an entry is short
  low : (from limit v d : ℕ) (o : Option ℕ) (route : List ℕ) → o ≡ Some d → IsWay w from limit v o route → IsSome (w.arcs v) → d ≤ 4294967295 * 4294967295
  low from limit v d o route is way last =
      let walk = way.passes.walk in
      let same : way.d ≡ d = (let both : Some way.d ≡ Some d = sym way.long ∙ is in cc) in
      let distinct : IsDistinct nat_eq (stops from walk) = subst (IsDistinct nat_eq) (sym way.passes.visits) way.distinct in
      let end : IsSome (w.arcs (last_stop from walk)) = subst (λ x. IsSome (w.arcs x)) (sym way.passes.ends) last in
      let few : length (stops from walk) ≤ 2 ^ 32 = narrow.few (stops from walk) distinct (entries from 0 walk way.passes.passes end) in
      let many : length walk ≤ 4294967295 = omega (arith, few, length-map walk (λ (a : Arc). a.to)) in
      let bound : walk_length walk ≤ 4294967295 * length walk = walk_bound from 0 walk way.passes.passes in
      omega (arith, same, way.passes.sums, bound, mul-le 4294967295 (length walk) 4294967295 4294967295 (omega arith) many)

  module _ (from : ℕ) (found : Found) (least : (v : ℕ) → IsLeastPassing w from 18446744073709551615 v (length_at found v))
      (ways : (v : ℕ) → IfSome (route_at found v) (IsWay w from 18446744073709551615 v (length_at found v))) where
    low_found : (v d : ℕ) → length_at found v ≡ Some d → IsSome (w.arcs v) → d ≤ 4294967295 * 4294967295
    low_found v d is last =
        let r : (r : List ℕ) × (route_at found v ≡ Some r) = has_way found v d is in
        low from 18446744073709551615 v d (length_at found v) r.0 is (subst (λ (o : Option (List ℕ)). IfSome o (IsWay w from 18446744073709551615 v (length_at found v))) r.1 (ways v)) last

    -- a length that is found is at most this one
    HasLength : ℕ → ℕ → Type 0
    HasLength v most = (d : ℕ) × (length_at found v ≡ Some d) × (d ≤ most)

    found_by : (v d : ℕ) → Reaches w from 18446744073709551615 v d → (o : Option ℕ) → length_at found v ≡ o → HasLength v d
    unfolding HasLength
    found_by v d r None is = absurd (subst (IsLeastPassing w from 18446744073709551615 v) is (least v) d r)
    found_by v d r (Some e) is = (e, is, (subst (IsLeastPassing w from 18446744073709551615 v) is (least v)).1 d r)

    further : (v p : ℕ) (walk : List Arc) → HasLength v p → Passes w v p walk → HasLength (last_stop v walk) (p + walk_length walk)
    unfolding HasLength
    further v p [] f h = (f.0, f.1, omega (arith, f.2))
    further v p (a ∷ walk) f h =
        let reached : Reaches w from 18446744073709551615 v f.0 = (subst (IsLeastPassing w from 18446744073709551615 v) f.1 (least v)).0 in
        let lets : IsTrue (w.lets v f.0) = shorter v f.0 p f.2 h.1 in
        let next : HasLength a.to (f.0 + a.length) =
        found_by a.to (f.0 + a.length) (Reaches-step w from 18446744073709551615 v f.0 a reached h.0 lets (omega (arith, low_found v f.0 f.1 (has_entry v a h.0), fits v a h.0))) (length_at found a.to) refl in
        let rest : HasLength (last_stop a.to walk) (p + a.length + walk_length walk) = further a.to (p + a.length) walk (next.0, next.1, omega (arith, next.2, f.2)) h.2 in
        (rest.0, rest.1, omega (arith, rest.2))

    begins : HasLength from 0
    begins = found_by from 0 (Reaches-start w from 18446744073709551615 (omega arith)) (length_at found from) refl

    ends_at : (v d : ℕ) → Leads w from v d → HasLength v d
    unfolding HasLength
    ends_at v d r =
        let p : PassesBy w from (d + 1) v r.0 d = r.1 in
        let f : HasLength (last_stop from p.walk) (0 + walk_length p.walk) = further from 0 p.walk begins p.passes in
        (f.0, ap (length_at found) (sym p.ends) ∙ f.1, omega (arith, f.2, p.sums))

    -- each least length that is found is the least of all lengths
    pub any_length : (v : ℕ) → IsLeast (Leads w from v) (length_at found v)
    unfolding HasLength
    any_length v = by_length (length_at found v) refl (least v)
      where
        by_length : (o : Option ℕ) → length_at found v ≡ o → IsLeastPassing w from 18446744073709551615 v o → IsLeast (Leads w from v) o
        by_length (Some d) is h = (
          reaches_leads w from 18446744073709551615 v d h.0,
          λ n r. let f : HasLength v n = ends_at v n r in let same : f.0 ≡ d = (let both : Some f.0 ≡ Some d = sym f.1 ∙ is in cc) in omega (arith, same, f.2),
        )
        by_length None is h = λ d r. let f : HasLength v d = ends_at v d r in absurd (let bad : None ≡ Some f.0 = sym is ∙ f.1 in cc)

-- ---- the tests that use the results of such a search

some_way : (w : Ways) (from v : ℕ) (o : Option ℕ) → IsLeast (Leads w from v) o → IsSome o → HasWay w from v
some_way w from v None h some = cc
some_way w from v (Some d) h some = (d, h.0)

way_some : (w : Ways) (from v : ℕ) (o : Option ℕ) → IsLeast (Leads w from v) o → HasWay w from v → IsSome o
way_some w from v None h r = absurd (h r.0 r.1)
way_some w from v (Some e) h r = refl

-- the least id without an entry, as a search finds it
pub lacking_least : (w : Ways) (from : ℕ) (len : ℕ → Option ℕ) (missing : Option ℕ) → ((v : ℕ) → IsLeast (Leads w from v) (len v)) → IsLeast (λ v. IsSome (len v) × (w.arcs v ≡ None)) missing → IsLeast (EndsLacking w from) missing
lacking_least w from len missing lengths h =
    IsLeast-same (λ v. IsSome (len v) × (w.arcs v ≡ None)) (EndsLacking w from) missing
    (λ v s. way_lacking w from v (some_way w from v (len v) (lengths v) s.0) s.1)
    (λ v l. let b : HasWay w from v × (w.arcs v ≡ None) = lacking_way w from v l in (way_some w from v (len v) (lengths v) b.0, b.1)) h

pub all_tests : (w : Ways) (q : Query) (len : ℕ → Option ℕ) (missing : Option ℕ) → ((v : ℕ) → IsLeast (Leads w q.from v) (len v)) → IsLeast (λ v. IsSome (len v) × (w.arcs v ≡ None)) missing → (v : ApartVerdict) →
    Then MissingTuple (Then Shorter Passed (len q.to)) missing v → WalkTests w q v
all_tests w q len None lengths h v t = (None, lacking_least w q.from len None lengths h, (len q.to, lengths q.to, t))
all_tests w q len (Some id) lengths h v t = (Some id, lacking_least w q.from len (Some id) lengths h, t)

-- ---- items

same_number : (x y : ℕ) → nat_eq x y ≡ true → x ≡ y
same_number x y h = grind (arith, nat_tests)

-- walks over items are narrow, since ids and lengths are 32-bit numbers
pub items_narrow : (nodes : List NodeLeaf) → AreShort nodes → ((n : NodeLeaf) → Contains nodes n → n.id < 2 ^ 32) → (lets : ℕ → ℕ → Bool) → IsNarrow (leaf_ways lets (item_at nodes))
items_narrow nodes short ids lets = record {
  few = λ xs distinct some. length-le_from_distinct_below xs (2 ^ 32) distinct (λ q e. named q (item_at nodes q) refl (some q (Contains-from_any same_number q xs e)));
  short = λ id out a e c. short_out id out a (item_at nodes id) refl e c;
}
  where
    named : (id : ℕ) (o : Option NodeLeaf) → item_at nodes id ≡ o → IsSome (option_map (λ (n : NodeLeaf). n.arcs) o) → id < 2 ^ 32
    named id None is some = cc
    named id (Some n) is some = let f : Contains nodes n × (n.id ≡ id) = item_found nodes id n is in subst (λ (x : ℕ). x < 2 ^ 32) f.1 (ids n f.0)

    short_out : (id : ℕ) (out : List Arc) (a : Arc) (o : Option NodeLeaf) → item_at nodes id ≡ o → option_map (λ (n : NodeLeaf). n.arcs) o ≡ Some out → Contains out a → a.length < 2 ^ 32
    short_out id out a None is e c = cc
    short_out id out a (Some n) is e c = let same : n.arcs ≡ out = cc in short n a (item_found nodes id n is).0 (subst (λ (arcs : List Arc). Contains arcs a) (sym same) c)
