-- The search for live walks over items stays below a limit.
use Rattle.std.proofs.Common.{◌≡◌, ℕ, ◌+◌, ◌^◌, ◌≤◌, ◌<◌, nat_lt, Bool, true, false, cond, IsTrue, Option, None, Some, IsSome, List, [], ◌∷◌, refl, arith, sym, subst, map}
use Rattle.std.specs.List.{Contains}
use Rattle.std.specs.Option.{option_map}
use Rattle.road_map.specs.declared.arc.Arc.{Arc}
use Rattle.road_map.specs.Least.{IsLeast}
use Rattle.road_map.proofs.LeastLaws.{IsLeast-same}
use Rattle.road_search.specs.Passing.{Ways, Leaves, Passes, PassesBy, Reaches, IsLeastPassing}
use Rattle.road_map.specs.Routes.{walk_length}
use Rattle.road_leaf.specs.declared.leaf.NodeLeaf.{NodeLeaf}
use Rattle.book_model.specs.declared.items.Query.{Query}
use Rattle.proof_judge.specs.declared.refusal.Refusal.TheVariants.{MissingTuple, Shorter}
use Rattle.book_model.specs.Bounds.{bound}
use Rattle.proof_judge.specs.ItemWalks.{item_at, live_ways, Lacks, EndsLacking}
use Rattle.proof_judge.specs.Judgement.{Verdict, Good, Then, LdmTests}
use Rattle.proof_judge.specs.SharedTests.{AreShort}
use Rattle.method_judges.specs.Live.{below}
use Rattle.proof_judge.proofs.ItemLaws.{item_found}
use Rattle.proof_judge.proofs.Tested.{lacks_least}

short_arc : (nodes : List NodeLeaf) → AreShort nodes → (u : ℕ) (a : Arc) (out : List Arc) → option_map (λ (n : NodeLeaf). n.arcs) (item_at nodes u) ≡ Some out → Contains out a → a.length < 2 ^ 32
short_arc nodes short u a out e c = by_item (item_at nodes u) refl e
  where
    by_item : (o : Option NodeLeaf) → item_at nodes u ≡ o → option_map (λ (n : NodeLeaf). n.arcs) o ≡ Some out → a.length < 2 ^ 32
    by_item None is e = cc
    by_item (Some n) is e = let same : n.arcs ≡ out = cc in short n a (item_found nodes u n is).0 (subst (λ x. Contains x a) (sym same) c)

below_most : (x p d : ℕ) → IsTrue (nat_lt (p + x) d) → p < d
below_most x p d h = grind (arith, h)

-- the arcs in leaves are 32-bit numbers
abbrev pub ShortLeaves : (ℕ → Option NodeLeaf) → Type 0
ShortLeaves leaf = (u : ℕ) (a : Arc) (out : List Arc) → option_map (λ (n : NodeLeaf). n.arcs) (leaf u) ≡ Some out → Contains out a → a.length < 2 ^ 32

-- no live walk is much longer than D
pub live_short : (step : ℕ) (leaf : ℕ → Option NodeLeaf) (t d : ℕ) → ShortLeaves leaf → (u p : ℕ) (walk : List Arc) → p < d + 2 ^ 32 → Passes (live_ways step leaf t d) u p walk → p + walk_length walk < d + 2 ^ 32
live_short step leaf t d short u p [] lt h = omega (arith, lt)
live_short step leaf t d short u p (a ∷ walk) lt h =
    let l : Leaves (live_ways step leaf t d) u a = h.0 in
    let few : a.length < 2 ^ 32 = short u a l.out l.entry l.among in
    let near : p < d = below_most (bound step leaf (leaf u) (leaf t)) p d h.1 in
    omega (arith, live_short step leaf t d short a.to (p + a.length) walk (omega (arith, few, near)) h.2)

reaches_lower : (w : Ways) (from limit lower to d : ℕ) → d < lower → Reaches w from limit to d → Reaches w from lower to d
reaches_lower w from limit lower to d lt r = let p : PassesBy w from limit to r.0 d = r.1 in (r.0, record { walk = p.walk; passes = p.passes; visits = p.visits; ends = p.ends; sums = p.sums; below = lt })

reaches_below : (w : Ways) (from limit to d : ℕ) → Reaches w from limit to d → d < limit
reaches_below w from limit to d r = let p : PassesBy w from limit to r.0 d = r.1 in p.below

lower_least : (w : Ways) (from limit lower to : ℕ) → lower ≤ limit → (o : Option ℕ) → IsLeastPassing w from limit to o → IsLeastPassing w from lower to (below o lower)
lower_least w from limit lower to le None h = λ d r. h d (reaches_lower w from lower limit to d (omega (arith, le, reaches_below w from lower to d r)) r)
lower_least w from limit lower to le (Some l) h = by_test (nat_lt l lower) refl
  where
    by_test : (b : Bool) → nat_lt l lower ≡ b → IsLeast (Reaches w from lower to) (cond b (Some l) None)
    by_test true e = (reaches_lower w from limit lower to l (grind (arith, e)) h.0, λ d r. h.1 d (reaches_lower w from lower limit to d (omega (arith, le, reaches_below w from lower to d r)) r))
    by_test false e = λ d r.
        let lt : d < lower = reaches_below w from lower to d r in
        let ge : l ≤ d = h.1 d (reaches_lower w from lower limit to d (omega (arith, le, lt)) r) in
        grind (arith, e, lt, ge)

-- the tests of LDM, from a search that goes one arc further
pub live_tests : (step : ℕ) (nodes : List NodeLeaf) (q : Query) (d : ℕ) → AreShort nodes → (len : ℕ → Option ℕ) (missing : Option ℕ) →
    ((v : ℕ) → IsLeastPassing (live_ways step (item_at nodes) q.to d) q.from (d + 2 ^ 32) v (len v)) →
    IsLeast (λ v. IsSome (len v) × ((live_ways step (item_at nodes) q.to d).arcs v ≡ None)) missing → (v : Verdict) →
    Then MissingTuple (Then Shorter (Good d) (below (len q.to) d)) missing v → LdmTests step nodes q d v
live_tests step nodes q d short len missing lengths least v t = by_missing missing found t
  where
    to_ends : (id : ℕ) → Lacks (live_ways step (item_at nodes) q.to d) q.from (d + 2 ^ 32) id → EndsLacking (live_ways step (item_at nodes) q.to d) q.from id
    to_ends id l = let p : PassesBy (live_ways step (item_at nodes) q.to d) q.from (d + 2 ^ 32) id l.0.1.0 l.0.0 = l.0.1.1 in record { walk = p.walk; passes = p.passes; ends = p.ends; lacks = l.1 }

    to_lacks : (id : ℕ) → EndsLacking (live_ways step (item_at nodes) q.to d) q.from id → Lacks (live_ways step (item_at nodes) q.to d) q.from (d + 2 ^ 32) id
    to_lacks id e = ((walk_length e.walk, (q.from ∷ map (λ (a : Arc). a.to) e.walk, record { walk = e.walk; passes = e.passes; visits = refl; ends = e.ends; sums = refl; below = omega (arith, live_short step (item_at nodes) q.to d (short_arc nodes short) q.from 0 e.walk (omega arith) e.passes) })), e.lacks)

    found : IsLeast (EndsLacking (live_ways step (item_at nodes) q.to d) q.from) missing
    found = IsLeast-same (Lacks (live_ways step (item_at nodes) q.to d) q.from (d + 2 ^ 32)) (EndsLacking (live_ways step (item_at nodes) q.to d) q.from) missing to_ends to_lacks (lacks_least (live_ways step (item_at nodes) q.to d) q.from (d + 2 ^ 32) len missing lengths least)

    by_missing : (m : Option ℕ) → IsLeast (EndsLacking (live_ways step (item_at nodes) q.to d) q.from) m → Then MissingTuple (Then Shorter (Good d) (below (len q.to) d)) m v → LdmTests step nodes q d v
    by_missing None h t = (None, h, (below (len q.to) d, lower_least (live_ways step (item_at nodes) q.to d) q.from (d + 2 ^ 32) d q.to (omega arith) (len q.to) (lengths q.to), t))
    by_missing (Some id) h t = (Some id, h, t)
