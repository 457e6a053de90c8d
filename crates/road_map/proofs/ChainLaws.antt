-- Chains of roads, and the arcs that are gathered along a chain.
use Rattle.std.proofs.Common.{◌≡◌, ℕ, zero, suc, ◌+◌, ◌≤◌, ◌<◌, ◌==◌, length, set, get_or, Bool, true, false, cond, Some, List, [], ◌∷◌, ◌++◌, ◌⊎◌, inl, inr, refl, arith, ap, sym, ◌∙◌, subst, slice_get, take, take_all}
use Rattle.std.specs.List.{fold}
use Rattle.std.proofs.lemmas.List.{take_more}
use Rattle.std.proofs.lemmas.Option.{slice_get_within, slice_get-get_or, get_or_from_slice_get}
use Rattle.road_map.specs.declared.parts.Road.{Road}
use Rattle.road_map.specs.declared.arc.Arc.{Arc}
use Rattle.road_map.specs.declared.chains.Next.{Next}
use Rattle.road_map.specs.ArcsOut.{Rise}
use Rattle.road_map.specs.Chains.{EndsAt, LeadsOn, AreChained}
use Rattle.road_map.specs.Rows.{capped_put, capped_road, row_at}
use Rattle.road_map.proofs.Among.{slice_get-set}
use Rattle.road_map.proofs.Capping.{rise_capped}

-- a list has one item at an index
one_item : {X : Type 0} (xs : List X) (p : ℕ) (x y : X) → slice_get xs p ≡ Some x → slice_get xs p ≡ Some y → x ≡ y
one_item xs p x y a b = let same : Some x ≡ Some y = sym a ∙ b in cc

-- no road follows the last one
none_left : (roads : List Road) (u : ℕ) → LeadsOn roads u (length roads) (length roads)
none_left roads u = record {
  order = omega arith;
  within = omega arith;
  passed = λ k r le lt is. absurd (omega (arith, le, lt));
  ends = λ r is. absurd (let lt : length roads < length roads = slice_get_within roads (length roads) r is in omega arith);
}

pub none_chained : (roads : List Road) (first : List ℕ) (next : List Next) → length next ≡ length roads → ((u h : ℕ) → slice_get first u ≡ Some h → h ≡ length roads) → AreChained roads (length roads) first next
none_chained roads first next long none = record {
  long = long;
  heads = λ u h is. subst (LeadsOn roads u (length roads)) (sym (none u h is)) (none_left roads u);
  links = λ k r n le is at. absurd (let lt : k < length roads = slice_get_within roads k r is in omega (arith, le));
}

-- the road at an index itself
here : (roads : List Road) (u i : ℕ) (r : Road) → slice_get roads i ≡ Some r → EndsAt r u → LeadsOn roads u i i
here roads u i r is at = record {
  order = omega arith;
  within = (let lt : i < length roads = slice_get_within roads i r is in omega arith);
  passed = λ k q le lt h. absurd (omega (arith, le, lt));
  ends = λ q h. subst (λ (t : Road). EndsAt t u) (one_item roads i r q is h) at;
}

-- a road that ends elsewhere is skipped
past : (roads : List Road) (u i next : ℕ) (r : Road) → slice_get roads i ≡ Some r → (EndsAt r u → ⊥) → LeadsOn roads u (i + 1) next → LeadsOn roads u i next
past roads u i next r is not h = record {
  order = omega (arith, h.order);
  within = h.within;
  passed = λ k q le lt at. by_place k q lt at (later k le);
  ends = h.ends;
}
  where
    later : (k : ℕ) → i ≤ k → (k ≡ i) ⊎ (i + 1 ≤ k)
    later k le = grind (arith, le)

    by_place : (k : ℕ) (q : Road) → k < next → slice_get roads k ≡ Some q → (k ≡ i) ⊎ (i + 1 ≤ k) → EndsAt q u → ⊥
    by_place k q lt at (inl e) ends = not (subst (λ (t : Road). EndsAt t u) (one_item roads i q r (subst (λ j. slice_get roads j ≡ Some q) e at) is) ends)
    by_place k q lt at (inr more) ends = h.passed k q more lt at ends

is_same : (x y : ℕ) → (x == y) ≡ true → x ≡ y
is_same x y h = grind (arith, h)

is_other : (x y : ℕ) → (x == y) ≡ false → x ≡ y → ⊥
is_other x y h e = grind (arith, h, e)

-- one more road at the front of the chains
module _ (roads : List Road) (i : ℕ) (r : Road) (first : List ℕ) (next : List Next) (a b : ℕ) (is : slice_get roads i ≡ Some r) (at_a : slice_get first r.a ≡ Some a) (at_b : slice_get first r.b ≡ Some b) (c : AreChained roads (i + 1) first next) where
  abbrev link : Next
  link = record { a = a; b = b }

  heads : (firsts : List ℕ) → ((u : ℕ) → slice_get firsts u ≡ cond (r.b == u) (Some i) (cond (r.a == u) (Some i) (slice_get first u))) → (u h : ℕ) → slice_get firsts u ≡ Some h → LeadsOn roads u i h
  heads firsts now u h at = by_b (r.b == u) refl (sym (now u) ∙ at)
    where
      at_i : EndsAt r u → Some i ≡ Some h → LeadsOn roads u i h
      at_i ends e = let same : i ≡ h = cc in subst (LeadsOn roads u i) same (here roads u i r is ends)

      neither : (r.a == u) ≡ false → (r.b == u) ≡ false → EndsAt r u → ⊥
      neither e f (inl s) = is_other r.a u e s
      neither e f (inr s) = is_other r.b u f s

      by_a : (s : Bool) → (r.a == u) ≡ s → (r.b == u) ≡ false → cond s (Some i) (slice_get first u) ≡ Some h → LeadsOn roads u i h
      by_a true e f g = at_i (inl (is_same r.a u e)) g
      by_a false e f g = past roads u i h r is (neither e f) (c.heads u h g)

      by_b : (s : Bool) → (r.b == u) ≡ s → cond s (Some i) (cond (r.a == u) (Some i) (slice_get first u)) ≡ Some h → LeadsOn roads u i h
      by_b true f g = at_i (inr (is_same r.b u f)) g
      by_b false f g = by_a (r.a == u) refl f g

  links : i < length next → (k : ℕ) (q : Road) (n : Next) → i ≤ k → slice_get roads k ≡ Some q → slice_get (set next i link) k ≡ Some n → LeadsOn roads q.a (k + 1) n.a × LeadsOn roads q.b (k + 1) n.b
  links lt k q n le at stands = by_place (i == k) refl (sym (slice_get-set next i link k lt) ∙ stands)
    where
      by_place : (s : Bool) → (i == k) ≡ s → cond s (Some link) (slice_get next k) ≡ Some n → LeadsOn roads q.a (k + 1) n.a × LeadsOn roads q.b (k + 1) n.b
      by_place true e g =
          let same : i ≡ k = is_same i k e in
          let road : r ≡ q = one_item roads k r q (subst (λ j. slice_get roads j ≡ Some r) same is) at in
          let new : link ≡ n = cc in
          subst (λ (m : Next). LeadsOn roads q.a (k + 1) m.a × LeadsOn roads q.b (k + 1) m.b) new
          (subst (λ (t : Road). LeadsOn roads t.a (k + 1) a × LeadsOn roads t.b (k + 1) b) road
          (subst (λ j. LeadsOn roads r.a (j + 1) a × LeadsOn roads r.b (j + 1) b) same (c.heads r.a a at_a, c.heads r.b b at_b)))
      by_place false e g = let other : i ≡ k → ⊥ = is_other i k e in c.links k q n (omega (arith, le, other)) at g

  pub chain_step : length (set next i link) ≡ length next → i < length next → (firsts : List ℕ) → ((u : ℕ) → slice_get firsts u ≡ cond (r.b == u) (Some i) (cond (r.a == u) (Some i) (slice_get first u))) → AreChained roads i firsts (set next i link)
  chain_step long lt firsts now = record { long = long ∙ c.long; heads = heads firsts now; links = links lt }

-- two items were replaced
pub both_set : (first : List ℕ) (a b i u : ℕ) → a < length first → b < length (set first a i) → slice_get (set (set first a i) b i) u ≡ cond (b == u) (Some i) (cond (a == u) (Some i) (slice_get first u))
both_set first a b i u lt_a lt_b = slice_get-set (set first a i) b i u lt_b ∙ ap (λ o. cond (b == u) (Some i) o) (slice_get-set first a i u lt_a)

-- ---- walks along a chain

fold-snoc : (u : ℕ) (r : Road) (arcs : List Arc) (rs : List Road) → fold (capped_road u) arcs (rs ++ r ∷ []) ≡ capped_road u (fold (capped_road u) arcs rs) r
fold-snoc u r arcs [] = refl
fold-snoc u r arcs (q ∷ rs) = fold-snoc u r (capped_road u arcs q) rs

adds_none : (u : ℕ) (arcs : List Arc) (r : Road) → (EndsAt r u → ⊥) → capped_road u arcs r ≡ arcs
adds_none u arcs r not = by_tests (r.a == u) (r.b == u) refl refl
  where
    by_tests : (s t : Bool) → (r.a == u) ≡ s → (r.b == u) ≡ t → cond s (capped_put r.b r.length arcs) (cond t (capped_put r.a r.length arcs) arcs) ≡ arcs
    by_tests true t e f = absurd (not (inl (is_same r.a u e)))
    by_tests false true e f = absurd (not (inr (is_same r.b u f)))
    by_tests false false e f = refl

abbrev none : Road
none = record { a = 0; b = 0; length = 0 }

-- the arcs with those of one more road
one_more : (roads : List Road) (u i : ℕ) → i < length roads → row_at (take (i + 1) roads) u ≡ capped_road u (row_at (take i roads) u) (get_or roads i none)
one_more roads u i lt = ap (λ rs. row_at rs u) (take_more roads i none lt) ∙ fold-snoc u (get_or roads i none) [] (take i roads)

skip : (roads : List Road) (u from d : ℕ) → from + d ≤ length roads → ((k : ℕ) (r : Road) → from ≤ k → k < from + d → slice_get roads k ≡ Some r → EndsAt r u → ⊥) → row_at (take (from + d) roads) u ≡ row_at (take from roads) u
skip roads u from zero le free = ap (λ k. row_at (take k roads) u) (let e : from + 0 ≡ from = omega arith in e)
skip roads u from (suc d) le free =
    let lt : from + d < length roads = omega (arith, le) in
    let next : from + suc d ≡ (from + d) + 1 = omega arith in
    ap (λ k. row_at (take k roads) u) next
    ∙ (one_more roads u (from + d) lt
    ∙ (adds_none u (row_at (take (from + d) roads) u) (get_or roads (from + d) none) (free (from + d) (get_or roads (from + d) none) (omega arith) (omega arith) (slice_get-get_or roads (from + d) none lt))
    ∙ skip roads u from d (omega arith) (λ k r ge below. free k r ge (omega (arith, below)))))

distance : (from next : ℕ) → from ≤ next → (d : ℕ) × (from + d ≡ next)
distance zero next le = (next, omega arith)
distance (suc from) zero le = absurd (omega (arith, le))
distance (suc from) (suc next) le = let d = distance from next (omega (arith, le)) in (d.0, (let e : from + d.0 ≡ next = d.1 in omega arith))

-- the roads before the next one add nothing
pub led : (roads : List Road) (u from next : ℕ) → LeadsOn roads u from next → row_at (take next roads) u ≡ row_at (take from roads) u
led roads u from next h =
    let d = distance from next h.order in
    sym (ap (λ k. row_at (take k roads) u) d.1) ∙ skip roads u from d.0 (let w : next ≤ length roads = h.within in let e : from + d.0 ≡ next = d.1 in omega arith) (λ k r le lt is. h.passed k r le (let e : from + d.0 ≡ next = d.1 in omega (arith, lt)) is)

-- a walk begins, and goes on from one road to the next
pub walk_start : (roads : List Road) (u head : ℕ) → LeadsOn roads u 0 head → [] ≡ row_at (take head roads) u
walk_start roads u head h = sym (led roads u 0 head h)

pub walk_step : (roads : List Road) (u i next : ℕ) (r : Road) (row new : List Arc) → slice_get roads i ≡ Some r → LeadsOn roads u (i + 1) next → row ≡ row_at (take i roads) u → new ≡ capped_road u row r → new ≡ row_at (take next roads) u
walk_step roads u i next r row new is h before adds =
    adds ∙ (ap (λ arcs. capped_road u arcs r) before
    ∙ (ap (capped_road u (row_at (take i roads) u)) (sym (get_or_from_slice_get roads i r none is))
    ∙ (sym (one_more roads u i (slice_get_within roads i r is)) ∙ sym (led roads u (i + 1) next h))))

pub walk_end : (roads : List Road) (u i : ℕ) (row : List Arc) → length roads ≤ i → row ≡ row_at (take i roads) u → row ≡ row_at roads u
walk_end roads u i row le is = is ∙ ap (λ rs. row_at rs u) (take_all i roads le)

pub walk_rises : (roads : List Road) (u i : ℕ) (row : List Arc) → row ≡ row_at (take i roads) u → Rise row
walk_rises roads u i row is = subst Rise (sym is) (rise_capped u [] (take i roads) tt)

-- the chain of a position continues at this road
pub goes_on : (roads : List Road) (first : List ℕ) (next : List Next) (u i after : ℕ) (r : Road) (n : Next) → AreChained roads 0 first next → slice_get roads i ≡ Some r → slice_get next i ≡ Some n → EndsAt r u → after ≡ cond (r.a == u) n.a n.b → LeadsOn roads u (i + 1) after
goes_on roads first next u i after r n c is at ends then = subst (LeadsOn roads u (i + 1)) (sym then) (by_a (r.a == u) refl)
  where
    both : LeadsOn roads r.a (i + 1) n.a × LeadsOn roads r.b (i + 1) n.b
    both = c.links i r n (omega arith) is at

    b_is : (r.a == u) ≡ false → EndsAt r u → r.b ≡ u
    b_is e (inl s) = absurd (is_other r.a u e s)
    b_is e (inr s) = s

    by_a : (s : Bool) → (r.a == u) ≡ s → LeadsOn roads u (i + 1) (cond s n.a n.b)
    by_a true e = subst (λ v. LeadsOn roads v (i + 1) n.a) (is_same r.a u e) both.0
    by_a false e = subst (λ v. LeadsOn roads v (i + 1) n.b) (b_is e ends) both.1

-- the arc that a road adds
pub adds_b : (u : ℕ) (arcs new : List Arc) (r : Road) → r.a ≡ u → new ≡ capped_put r.b r.length arcs → new ≡ capped_road u arcs r
adds_b u arcs new r e is = is ∙ ap (λ s. cond s (capped_put r.b r.length arcs) (cond (r.b == u) (capped_put r.a r.length arcs) arcs)) (let t : true ≡ (r.a == u) = grind (arith, e) in t)

pub adds_a : (u : ℕ) (arcs new : List Arc) (r : Road) → (r.a ≡ u → ⊥) → EndsAt r u → new ≡ capped_put r.a r.length arcs → new ≡ capped_road u arcs r
adds_a u arcs new r ne (inl s) is = absurd (ne s)
adds_a u arcs new r ne (inr s) is =
    is ∙ (ap (λ t. cond t (capped_put r.a r.length arcs) arcs) (let t : true ≡ (r.b == u) = grind (arith, s) in t)
    ∙ ap (λ t. cond t (capped_put r.b r.length arcs) (cond (r.b == u) (capped_put r.a r.length arcs) arcs)) (let t : false ≡ (r.a == u) = grind (arith, ne) in t))
