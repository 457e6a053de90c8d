-- A walk between two positions consists of walks that stop at walls.
use Rattle.std.proofs.Common.{◌≡◌, ℕ, ◌+◌, ◌<◌, ◌≤◌, ◌==◌, ◌||◌, not, Bool, true, false, IsTrue, None, Some, List, [], ◌∷◌, ◌++◌, inl, inr, length, slice_get, get_or, refl, arith, ap, sym, ◌∙◌, subst}
use Rattle.std.specs.Option.{unwrap_or}
use Rattle.std.proofs.lemmas.Bool.{cases_eq}
use Rattle.std.proofs.lemmas.Option.{slice_get-get_or, slice_get_within}
use Rattle.road_map.specs.declared.arc.Arc.{Arc}
use Rattle.road_map.specs.Routes.{last_stop, walk_length, stops}
use Rattle.road_search.specs.Passing.{Leaves, Passes, Reaches}
use Rattle.road_search.specs.Nets.{net_ways}
use Rattle.pair_dist.specs.Chains.{walled_ways, too_long, AreWalls, IsChain, Keeps}
use Rattle.pair_dist.proofs.WalkLaws.{join, join_length, join_end, Way, nearer, after}

module _ (rows : List (List Arc)) (walls : List Bool) (places : List ℕ) (chain : List (List Arc)) (are : AreWalls places walls) (is : IsChain rows walls places chain) where
  -- walks over the rows, whatever length they begin with
  net_leaves : (start u : ℕ) (a : Arc) → Leaves (walled_ways rows walls start) u a → Leaves (net_ways rows) u a
  net_leaves start u a h = record { out = h.out; entry = h.entry; among = h.among }

  walled_leaves : (start u : ℕ) (a : Arc) → Leaves (net_ways rows) u a → Leaves (walled_ways rows walls start) u a
  walled_leaves start u a h = record { out = h.out; entry = h.entry; among = h.among }

  -- a walk that stops at walls is a walk
  free : (start u k l : ℕ) (walk : List Arc) → Passes (walled_ways rows walls start) u k walk → Passes (net_ways rows) u l walk
  free start u k l [] h = tt
  free start u k l (a ∷ walk) h = (net_leaves start u a h.0, refl, free start a.to (k + a.length) (l + a.length) walk h.2)

  -- one more arc from a position at which walls let the walk pass
  abbrev lets_on : ℕ → ℕ → Type 0
  lets_on start u = IsTrue ((u == start) || not (unwrap_or (slice_get walls u) false))

  longer : (start u k : ℕ) (walk : List Arc) (a : Arc) → Passes (walled_ways rows walls start) u k walk → Leaves (net_ways rows) (last_stop u walk) a → lets_on start (last_stop u walk) → Passes (walled_ways rows walls start) u k (walk ++ a ∷ [])
  longer start u k [] a h out on = (walled_leaves start u a out, on, tt)
  longer start u k (b ∷ walk) a h out on = (h.0, h.1, longer start b.to (k + b.length) walk a h.2 out on)

  link_at : (i p : ℕ) → slice_get places i ≡ Some p → (row : List Arc) × (slice_get chain i ≡ Some row)
  link_at i p at = (get_or chain i [], slice_get-get_or chain i [] (let lt : i < length places = slice_get_within places i p at in omega (arith, lt, is.long)))

  -- ---- a walk over the chain is as long as one over the rows
  record Under (i p : ℕ) (links : List Arc) : Type 0 where
    walk : List Arc
    passes : Passes (net_ways rows) p 0 walk
    long : walk_length walk ≡ walk_length links
    ends : slice_get places (last_stop i links) ≡ Some (last_stop p walk)

  under : (i p k : ℕ) (links : List Arc) → slice_get places i ≡ Some p → Passes (net_ways chain) i k links → Under i p links
  under i p k [] at h = record { walk = []; passes = tt; long = refl; ends = at }
  under i p k (a ∷ links) at h =
      let there = (is.each i p h.0.out at h.0.entry).walks a h.0.among in
      let first = there.2.1 in
      let rest : Under a.to there.0 links = under a.to there.0 (k + a.length) links there.1 h.2 in
      let on : Passes (net_ways rows) (last_stop p first.walk) 0 rest.walk = subst (λ t. Passes (net_ways rows) t 0 rest.walk) (sym first.ends) rest.passes in
      let end : last_stop p (first.walk ++ rest.walk) ≡ last_stop there.0 rest.walk = join_end p first.walk rest.walk ∙ ap (λ t. last_stop t rest.walk) first.ends in
      record {
        walk = first.walk ++ rest.walk;
        passes = join rows p 0 0 first.walk rest.walk (free p p 0 0 first.walk first.passes) on;
        long = (let l : walk_length (first.walk ++ rest.walk) ≡ walk_length first.walk + walk_length rest.walk = join_length first.walk rest.walk in let f : walk_length first.walk ≡ a.length = first.sums in let r : walk_length rest.walk ≡ walk_length links = rest.long in omega (arith, l, f, r));
        ends = rest.ends ∙ ap Some (sym end);
      }

  -- ---- for each walk over the rows, the chain has one that is not longer
  -- a walk from a position so far, which may continue
  record Inner (p u e : ℕ) : Type 0 where
    walk : List Arc
    passes : Passes (walled_ways rows walls p) p 0 walk
    ends : last_stop p walk ≡ u
    long : walk_length walk ≡ e

  reaches : (p u e : ℕ) → Inner p u e → e < too_long → Reaches (walled_ways rows walls p) p too_long u e
  reaches p u e h lt = (stops p h.walk, record { walk = h.walk; passes = h.passes; visits = refl; ends = h.ends; sums = h.long; below = lt })

  more : (p u e : ℕ) (a : Arc) → Inner p u e → Leaves (net_ways rows) u a → lets_on p u → Inner p a.to (e + a.length)
  more p u e a h out on = record {
    walk = h.walk ++ a ∷ [];
    passes = longer p p 0 h.walk a h.passes (subst (λ t. Leaves (net_ways rows) t a) (sym h.ends) out) (subst (lets_on p) (sym h.ends) on);
    ends = join_end p h.walk (a ∷ []);
    long = (let l : walk_length (h.walk ++ a ∷ []) ≡ walk_length h.walk + walk_length (a ∷ []) = join_length h.walk (a ∷ []) in let e : walk_length h.walk ≡ e = h.long in omega (arith, l, e));
  }

  begin : (p : ℕ) → Inner p p 0
  begin p = record { walk = []; passes = tt; ends = refl; long = refl }

  same_lets : (p : ℕ) → lets_on p p
  same_lets p = by_test (p == p) (grind arith)
    where
      by_test : (b : Bool) → b ≡ true → IsTrue (b || not (unwrap_or (slice_get walls p) false))
      by_test true e = refl
      by_test false e = cc

  free_lets : (p u : ℕ) → unwrap_or (slice_get walls u) false ≡ false → lets_on p u
  free_lets p u free = by_test (u == p) (unwrap_or (slice_get walls u) false) free
    where
      by_test : (b w : Bool) → w ≡ false → IsTrue (b || not w)
      by_test true w e = refl
      by_test false false e = refl
      by_test false true e = cc

  one_place : (i p q : ℕ) → slice_get places i ≡ Some p → slice_get places i ≡ Some q → p ≡ q
  one_place i p q a b = cc

  -- a link to another position
  link : (i p j q e : ℕ) → slice_get places i ≡ Some p → slice_get places j ≡ Some q → Inner p q e → e < too_long → Way chain i j e
  link i p j q e at to h lt = elim (cases_eq j i) [
    | inl same ↦ record { links = []; passes = λ k. tt; ends = sym same; near = omega arith }
    | inr apart ↦
        let row = link_at i p at in
        let a = (is.each i p row.0 at row.1).all j q e apart to (reaches p q e h lt) in
        record {
          links = a.0 ∷ [];
          passes = λ k. (record { out = row.0; entry = row.1; among = a.1 }, refl, tt);
          ends = a.2;
          near = (let le : a.0.length ≤ e = a.3 in omega (arith, le));
        }
  ]

  over : (j q : ℕ) → slice_get places j ≡ Some q → (walk : List Arc) (i p u e k : ℕ) → slice_get places i ≡ Some p → Inner p u e → lets_on p u → Passes (net_ways rows) u k walk → last_stop u walk ≡ q → e + walk_length walk < too_long → Way chain i j (e + walk_length walk)
  over j q to [] i p u e k at h on passes ends lt =
      nearer chain i j e (e + 0) (omega arith) (link i p j q e at to (subst (λ t. Inner p t e) ends h) (let l : e + 0 < too_long = lt in omega (arith, l)))
  over j q to (a ∷ walk) i p u e k at h on passes ends lt =
      by_wall (unwrap_or (slice_get walls a.to) false) refl
      (λ free. over j q to walk i p a.to (e + a.length) (k + a.length) at (more p u e a h passes.0 on) free passes.2 ends (omega (arith, lt)))
      (λ m there. over j q to walk m a.to a.to 0 (k + a.length) there (begin a.to) (same_lets a.to) passes.2 ends (omega (arith, lt)))
    where
      by_wall : (b : Bool) → unwrap_or (slice_get walls a.to) false ≡ b → (lets_on p a.to → Way chain i j ((e + a.length) + walk_length walk)) → ((m : ℕ) → slice_get places m ≡ Some a.to → Way chain m j (0 + walk_length walk)) → Way chain i j (e + (a.length + walk_length walk))
      by_wall false free inside beyond = nearer chain i j ((e + a.length) + walk_length walk) (e + (a.length + walk_length walk)) (omega arith) (inside (free_lets p a.to free))
      by_wall true barred inside beyond =
          let m : (m : ℕ) × (slice_get places m ≡ Some a.to) = are a.to barred in
          let first : Way chain i m.0 (e + a.length) = link i p m.0 a.to (e + a.length) at m.1 (more p u e a h passes.0 on) (omega (arith, lt)) in
          nearer chain i j ((e + a.length) + (0 + walk_length walk)) (e + (a.length + walk_length walk)) (omega arith) (after chain i m.0 j (e + a.length) (0 + walk_length walk) first (beyond m.0 m.1))

  -- ---- so the least lengths are the same
  to_rows : (i j p q d : ℕ) → slice_get places i ≡ Some p → slice_get places j ≡ Some q → Reaches (net_ways chain) i too_long j d → Reaches (net_ways rows) p too_long q d
  to_rows i j p q d at to r =
      let w : Under i p r.1.walk = under i p 0 r.1.walk at r.1.passes in
      let there : slice_get places j ≡ Some (last_stop p w.walk) = subst (λ t. slice_get places t ≡ Some (last_stop p w.walk)) r.1.ends w.ends in
      (stops p w.walk, record { walk = w.walk; passes = w.passes; visits = refl; ends = one_place j (last_stop p w.walk) q there to; sums = w.long ∙ r.1.sums; below = r.1.below })

  to_chain : (i j p q d : ℕ) → slice_get places i ≡ Some p → slice_get places j ≡ Some q → Reaches (net_ways rows) p too_long q d → (n : ℕ) × Reaches (net_ways chain) i too_long j n × (n ≤ d)
  to_chain i j p q d at to r =
      let sums : walk_length r.1.walk ≡ d = r.1.sums in
      let below : d < too_long = r.1.below in
      let o : Way chain i j (0 + walk_length r.1.walk) = over j q to r.1.walk i p p 0 0 at (begin p) (same_lets p) r.1.passes r.1.ends (omega (arith, sums, below)) in
      let near : walk_length o.links ≤ 0 + walk_length r.1.walk = o.near in
      (walk_length o.links, (stops i o.links, record { walk = o.links; passes = o.passes 0; visits = refl; ends = o.ends; sums = refl; below = omega (arith, near, sums, below) }), omega (arith, near, sums))

  pub chain_least : Keeps rows places chain
  chain_least i j p q None at to h = λ d r. let c = to_chain i j p q d at to r in h c.0 c.1
  chain_least i j p q (Some d) at to h = (to_rows i j p q d at to h.0, λ e r. let c = to_chain i j p q e at to r in let least : d ≤ c.0 = h.1 c.0 c.1 in let le : c.0 ≤ e = c.2 in omega (arith, least, le))
