-- An arc can be removed if two shorter ones lead to the same end: for each walk there is another that is not
-- longer.
use Rattle.std.proofs.Common.{◌≡◌, ◌≢◌, ℕ, zero, suc, ◌+◌, ◌<◌, ◌≤◌, ◌==◌, Bool, true, false, cond, None, Some, List, [], ◌∷◌, ◌++◌, ◌⊎◌, inl, inr, length, slice_get, get_or, set, refl, arith, ap, sym, ◌∙◌, subst}
use Rattle.std.specs.List.{Contains}
use Rattle.std.proofs.lemmas.Bool.{cases_eq}
use Rattle.std.proofs.lemmas.Option.{slice_get_within, slice_get-get_or}
use Rattle.road_map.specs.declared.arc.Arc.{Arc}
use Rattle.road_map.specs.Routes.{last_stop, walk_length, stops}
use Rattle.std.proofs.lemmas.List.Elements.{Contains-append_right, Contains-append_cases}
use Rattle.road_map.proofs.Among.{slice_get-set, Contains-none, Contains-here, Contains-cases, contains_at, place_at}
use Rattle.road_search.specs.Passing.{Leaves, Passes, Reaches}
use Rattle.road_search.specs.Nets.{net_ways}
use Rattle.pair_dist.specs.Chains.{too_long, Keeps}
use Rattle.pair_dist.specs.Thinning.{Steps, AreSteps, IsNeedless, IsThinned, Agrees}
use Rattle.pair_dist.proofs.LinkLaws.{in_first, earlier, same_at}
use Rattle.pair_dist.proofs.WalkLaws.{Way, nearer, after}

module _ (rows : List (List Arc)) (n : ℕ) (row thin : List Arc) (at : slice_get rows n ≡ Some row) (is : IsThinned rows row thin) where
  stands : (u : ℕ) → slice_get (set rows n thin) u ≡ cond (n == u) (Some thin) (slice_get rows u)
  stands u = slice_get-set rows n thin u (slice_get_within rows n row at)

  own : slice_get (set rows n thin) n ≡ Some thin
  own = let same : (n == n) ≡ true = grind arith in stands n ∙ ap (λ b. cond b (Some thin) (slice_get rows n)) same

  other : (u : ℕ) → u ≢ n → slice_get (set rows n thin) u ≡ slice_get rows u
  other u apart = let differ : (n == u) ≡ false = by_test (n == u) refl in stands u ∙ ap (λ b. cond b (Some thin) (slice_get rows u)) differ
    where
      by_test : (b : Bool) → (n == u) ≡ b → b ≡ false
      by_test false e = refl
      by_test true e = absurd (apart (grind (arith, e)))

  -- each arc that remains existed before
  left : (u : ℕ) (a : Arc) → Leaves (net_ways (set rows n thin)) u a → Leaves (net_ways rows) u a
  left u a h = elim (cases_eq u n) [
    | inl same ↦ record {
      out = row;
      entry = ap (slice_get rows) same ∙ at;
      among = is.among a (let e : Some thin ≡ Some h.out = sym own ∙ (ap (slice_get (set rows n thin)) (sym same) ∙ h.entry) in let out : h.out ≡ thin = cc in subst (λ (xs : List Arc). Contains xs a) out h.among);
    }
    | inr apart ↦ record { out = h.out; entry = sym (other u apart) ∙ h.entry; among = h.among }
  ]

  left_walk : (u k : ℕ) (walk : List Arc) → Passes (net_ways (set rows n thin)) u k walk → Passes (net_ways rows) u k walk
  left_walk u k [] h = tt
  left_walk u k (a ∷ walk) h = (left u a h.0, refl, left_walk a.to (k + a.length) walk h.2)

  -- for a removed arc there are two others, and so on while there are shorter ones
  one : (u : ℕ) (a : Arc) → Leaves (net_ways (set rows n thin)) u a → Way (set rows n thin) u a.to a.length
  one u a h = record { links = a ∷ []; passes = λ k. (h, refl, tt); ends = refl; near = omega arith }

  two : (u v : ℕ) (a : Arc) → ((t : ℕ) (b : Arc) → b.length < a.length → Leaves (net_ways rows) t b → Way (set rows n thin) t b.to b.length) → Steps rows row a.to v → v ≤ a.length → u ≡ n → Way (set rows n thin) u a.to a.length
  two u v a shorter s le same =
      let sums : v ≡ s.first.length + s.second.length = s.sums in
      let first : Way (set rows n thin) u s.first.to s.first.length = shorter u s.first (omega (arith, le, sums, s.goes_on)) (record { out = row; entry = ap (slice_get rows) same ∙ at; among = s.among }) in
      let second : Way (set rows n thin) s.first.to s.second.to s.second.length = shorter s.first.to s.second (omega (arith, le, sums, s.moves)) (record { out = s.out; entry = s.entry; among = s.next }) in
      nearer (set rows n thin) u a.to (s.first.length + s.second.length) a.length (omega (arith, le, sums))
      (subst (λ t. Way (set rows n thin) u t (s.first.length + s.second.length)) s.leads (after (set rows n thin) u s.first.to s.second.to s.first.length s.second.length first second))

  by_row : (u : ℕ) (a : Arc) → ((t : ℕ) (b : Arc) → b.length < a.length → Leaves (net_ways rows) t b → Way (set rows n thin) t b.to b.length) → u ≡ n → Contains row a → Way (set rows n thin) u a.to a.length
  by_row u a shorter same among = elim (is.rest a among) [
    | inl kept ↦ one u a (record { out = thin; entry = ap (slice_get (set rows n thin)) same ∙ own; among = kept })
    | inr gone ↦ two u gone.0 a shorter gone.1 gone.2 same
  ]

  in_row : (u : ℕ) (a : Arc) → u ≡ n → Leaves (net_ways rows) u a → Contains row a
  in_row u a same h = let e : Some row ≡ Some h.out = sym at ∙ (ap (slice_get rows) (sym same) ∙ h.entry) in let out : h.out ≡ row = cc in subst (λ (xs : List Arc). Contains xs a) out h.among

  beside : (f u : ℕ) (a : Arc) → a.length < f → Leaves (net_ways rows) u a → Way (set rows n thin) u a.to a.length
  beside zero u a lt h = absurd (omega (arith, lt))
  beside (suc f) u a lt h = elim (cases_eq u n) [
    | inl same ↦ by_row u a (λ t b less out. beside f t b (omega (arith, lt, less)) out) same (in_row u a same h)
    | inr apart ↦ one u a (record { out = h.out; entry = other u apart ∙ h.entry; among = h.among })
  ]

  beside_walk : (u k : ℕ) (walk : List Arc) → Passes (net_ways rows) u k walk → Way (set rows n thin) u (last_stop u walk) (walk_length walk)
  beside_walk u k [] h = record { links = []; passes = λ l. tt; ends = refl; near = omega arith }
  beside_walk u k (a ∷ walk) h = after (set rows n thin) u a.to (last_stop a.to walk) a.length (walk_length walk) (beside (a.length + 1) u a (omega arith) h.0) (beside_walk a.to (k + a.length) walk h.2)

  -- ---- so the least lengths are the same
  to_old : (i j d : ℕ) → Reaches (net_ways (set rows n thin)) i too_long j d → Reaches (net_ways rows) i too_long j d
  to_old i j d r = (r.0, record { walk = r.1.walk; passes = left_walk i 0 r.1.walk r.1.passes; visits = r.1.visits; ends = r.1.ends; sums = r.1.sums; below = r.1.below })

  to_new : (i j d : ℕ) → Reaches (net_ways rows) i too_long j d → (e : ℕ) × Reaches (net_ways (set rows n thin)) i too_long j e × (e ≤ d)
  to_new i j d r =
      let w : Way (set rows n thin) i (last_stop i r.1.walk) (walk_length r.1.walk) = beside_walk i 0 r.1.walk r.1.passes in
      let sums : walk_length r.1.walk ≡ d = r.1.sums in
      (walk_length w.links, (stops i w.links, record { walk = w.links; passes = w.passes 0; visits = refl; ends = w.ends ∙ r.1.ends; sums = refl; below = omega (arith, w.near, sums, r.1.below) }), omega (arith, w.near, sums))

  thin_least : Agrees rows (set rows n thin)
  thin_least i j None h = λ d r. let c = to_new i j d r in h c.0 c.1
  thin_least i j (Some d) h = (to_old i j d h.0, λ e r. let c = to_new i j e r in let least : d ≤ c.0 = h.1 c.0 c.1 in let le : c.0 ≤ e = c.2 in omega (arith, least, le))

-- one more row is thinned
pub thin_more : (chain rows new : List (List Arc)) (n : ℕ) (row thin : List Arc) → slice_get rows n ≡ Some row → new ≡ set rows n thin → IsThinned rows row thin → Agrees chain rows → Agrees chain new
thin_more chain rows new n row thin at put is h = subst (Agrees chain) (sym put) (λ i j o l. h i j o (thin_least rows n row thin at is i j o l))

-- ---- the arcs that remain
-- of the first arcs of a row, those that are not redundant
pub record IsNeededBelow (row : List Arc) (lengths : List ℕ) (n : ℕ) (thin : List Arc) : Type 0 where
  pub among : (a : Arc) → Contains thin a → Contains row a
  pub rest : (k : ℕ) (a : Arc) → k < n → slice_get row k ≡ Some a → Contains thin a ⊎ IsNeedless lengths a

-- one more arc is appended, or is redundant
pub needed_more : (row : List Arc) (lengths : List ℕ) (n : ℕ) (old new : List Arc) (a : Arc) → slice_get row n ≡ Some a → (new ≡ old ++ a ∷ []) ⊎ ((new ≡ old) × IsNeedless lengths a) → IsNeededBelow row lengths n old → IsNeededBelow row lengths (n + 1) new
needed_more row lengths n old new a at (inl put) h = subst (IsNeededBelow row lengths (n + 1)) (sym put) (record {
  among = λ b c. elim (Contains-append_cases old (a ∷ []) b c) [
    | inl before ↦ h.among b before
    | inr now ↦ elim (Contains-cases a b [] now) [
      | inl e ↦ subst (λ (x : Arc). Contains row x) e (contains_at row n a at)
      | inr gone ↦ absurd (Contains-none b gone)
    ]
  ];
  rest = λ k b lt to. elim (earlier k n lt) [
    | inl less ↦ elim (h.rest k b less to) [ inl before ↦ inl (in_first b old (a ∷ []) before) | inr needless ↦ inr needless ]
    | inr e ↦ inl (subst (λ (x : Arc). Contains (old ++ a ∷ []) x) (sym (same_at row k n a b e at to)) (Contains-append_right old (a ∷ []) a (Contains-here a [])))
  ];
})
needed_more row lengths n old new a at (inr same) h = subst (IsNeededBelow row lengths (n + 1)) (sym same.0) (record {
  among = h.among;
  rest = λ k b lt to. elim (earlier k n lt) [
    | inl less ↦ h.rest k b less to
    | inr e ↦ inr (subst (λ (x : Arc). IsNeedless lengths x) (sym (same_at row k n a b e at to)) same.1)
  ];
})

pub needed_all : (row : List Arc) (lengths : List ℕ) (n : ℕ) (thin : List Arc) → length row ≤ n → IsNeededBelow row lengths n thin → (a : Arc) → Contains row a → Contains thin a ⊎ IsNeedless lengths a
needed_all row lengths n thin le h a c = let p = place_at row a c in h.rest p.0 a (let lt : p.0 < length row = slice_get_within row p.0 a p.1 in omega (arith, lt, le)) p.1

-- lengths of two arcs tell which arcs can be removed
pub thin_by : (rows : List (List Arc)) (row thin : List Arc) (lengths seen : List ℕ) → seen ≡ lengths → AreSteps rows row lengths → ((a : Arc) → Contains thin a → Contains row a) → ((a : Arc) → Contains row a → Contains thin a ⊎ IsNeedless seen a) → IsThinned rows row thin
thin_by rows row thin lengths seen same steps among rest = record {
  among = among;
  rest = λ a c. elim (rest a c) [
    | inl kept ↦ inl kept
    | inr gone ↦ inr (gone.0, steps a.to gone.0 (subst (λ (xs : List ℕ). slice_get xs a.to ≡ Some gone.0) same gone.1) gone.2, gone.3)
  ];
}

-- one more row of a list of rows is thinned
pub step_more : (chain rows : List (List Arc)) (n e : ℕ) (seen : List (List Arc)) (row thin d : List Arc) → length rows ≡ e → n < e → seen ≡ rows → row ≡ get_or rows n d → IsThinned seen row thin → Agrees chain rows → Agrees chain (set rows n thin)
step_more chain rows n e seen row thin d long lt same is thinned h =
    let at : slice_get rows n ≡ Some (get_or rows n d) = slice_get-get_or rows n d (omega (arith, long, lt)) in
    thin_more chain rows (set rows n thin) n row thin (at ∙ ap Some (sym is)) refl (subst (λ (xs : List (List Arc)). IsThinned xs row thin) same thinned) h

-- and so the chain preserves what it preserved before
pub thin_keeps : (rows : List (List Arc)) (places : List ℕ) (chain thin : List (List Arc)) → Keeps rows places chain → Agrees chain thin → Keeps rows places thin
thin_keeps rows places chain thin keeps agrees i j p q o at to l = keeps i j p q o at to (agrees i j o l)
