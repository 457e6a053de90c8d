-- Adding links, position by position; their rows form the chain.
use Rattle.std.proofs.Common.{◌≡◌, ℕ, ◌+◌, ◌<◌, ◌≤◌, ◌==◌, Bool, true, false, cond, Option, None, Some, List, [], ◌∷◌, ◌++◌, ◌⊎◌, inl, inr, length, slice_get, set, refl, arith, ap, sym, ◌∙◌, subst, length-append}
use Rattle.std.specs.List.{Contains}
use Rattle.std.proofs.lemmas.List.Elements.{Contains-append_left, Contains-append_right, Contains-append_cases}
use Rattle.std.specs.Option.{unwrap_or}
use Rattle.std.proofs.lemmas.List.{length-set}
use Rattle.std.proofs.lemmas.Option.{slice_get_within}
use Rattle.road_map.specs.declared.arc.Arc.{Arc}
use Rattle.road_map.proofs.Among.{Contains-none, Contains-here, Contains-cases, slice_get-set}
use Rattle.road_map.proofs.NetLaws.{last_or_before}
use Rattle.road_search.specs.Passing.{Reaches, IsLeastPassing}
use Rattle.pair_dist.specs.Chains.{walled_ways, too_long, AreWalls, IsLink, IsLinkBelow, IsChainBelow}

pub in_first : {X : Type 0} (x : X) (xs ys : List X) → Contains xs x → Contains (xs ++ ys) x
in_first x xs ys h = Contains-append_left xs ys x h

pub earlier : (j n : ℕ) → j < n + 1 → (j < n) ⊎ (j ≡ n)
earlier j n lt = grind (arith, lt)

pub same_at : {X : Type 0} (xs : List X) (j n : ℕ) (p q : X) → j ≡ n → slice_get xs n ≡ Some p → slice_get xs j ≡ Some q → q ≡ p
same_at xs j n p q e a b = let c : slice_get xs j ≡ Some p = ap (slice_get xs) e ∙ a in cc

module _ (rows : List (List Arc)) (walls : List Bool) (places : List ℕ) (i p : ℕ) where
  -- no link yet
  pub no_links : IsLinkBelow rows walls places i p 0 []
  no_links = record {
    walks = λ a h. absurd (Contains-none a h);
    all = λ j q d lt. absurd (omega (arith, lt));
  }

  -- no link to the position itself
  pub own_link : (n : ℕ) (row : List Arc) → n ≡ i → IsLinkBelow rows walls places i p n row → IsLinkBelow rows walls places i p (n + 1) row
  own_link n row own h = record {
    walks = h.walks;
    all = λ j q d lt apart to r. elim (earlier j n lt) [
      | inl less ↦ h.all j q d less apart to r
      | inr e ↦ absurd (apart (e ∙ own))
    ];
  }

  -- no link if no walk leads there
  pub missing_link : (n q : ℕ) (row : List Arc) (o : Option ℕ) → slice_get places n ≡ Some q → o ≡ None → IsLeastPassing (walled_ways rows walls p) p too_long q o → IsLinkBelow rows walls places i p n row → IsLinkBelow rows walls places i p (n + 1) row
  missing_link n q row o at none least h = record {
    walks = h.walks;
    all = λ j t d lt apart to r. elim (earlier j n lt) [
      | inl less ↦ h.all j t d less apart to r
      | inr e ↦ absurd (subst (IsLeastPassing (walled_ways rows walls p) p too_long q) none least d (subst (λ u. Reaches (walled_ways rows walls p) p too_long u d) (same_at places j n q t e at to) r))
    ];
  }

  -- otherwise a link as long as the least walk
  pub new_link : (n q l : ℕ) (row new : List Arc) (a : Arc) (o : Option ℕ) → slice_get places n ≡ Some q → o ≡ Some l → a.to ≡ n → a.length ≡ l → new ≡ row ++ a ∷ [] → IsLeastPassing (walled_ways rows walls p) p too_long q o → IsLinkBelow rows walls places i p n row → IsLinkBelow rows walls places i p (n + 1) new
  new_link n q l row new a o at some leads long pushed least h = subst (IsLinkBelow rows walls places i p (n + 1)) (sym pushed) (record {
    walks = λ b c. elim (Contains-append_cases row (a ∷ []) b c) [
      | inl old ↦ h.walks b old
      | inr now ↦ elim (Contains-cases a b [] now) [
        | inl e ↦ subst (λ (x : Arc). (t : ℕ) × (slice_get places x.to ≡ Some t) × Reaches (walled_ways rows walls p) p too_long t x.length) e (q, ap (slice_get places) leads ∙ at, subst (Reaches (walled_ways rows walls p) p too_long q) (sym long) best.0)
        | inr gone ↦ absurd (Contains-none b gone)
      ]
    ];
    all = λ j t d lt apart to r. elim (earlier j n lt) [
      | inl less ↦ let old = h.all j t d less apart to r in (old.0, in_first old.0 row (a ∷ []) old.1, old.2, old.3)
      | inr e ↦ (a, Contains-append_right row (a ∷ []) a (Contains-here a []), leads ∙ sym e, (let le : l ≤ d = best.1 d (subst (λ u. Reaches (walled_ways rows walls p) p too_long u d) (same_at places j n q t e at to) r) in omega (arith, le, long)))
    ];
  })
    where
      best : IsLeastPassing (walled_ways rows walls p) p too_long q (Some l)
      best = subst (IsLeastPassing (walled_ways rows walls p) p too_long q) some least

  pub all_links : (n : ℕ) (row : List Arc) → length places ≤ n → IsLinkBelow rows walls places i p n row → IsLink rows walls places i p row
  all_links n row le h = record { walks = h.walks; all = λ j q d apart to r. h.all j q d (let lt : j < length places = slice_get_within places j q to in omega (arith, lt, le)) apart to r }

-- one more row
pub chain_more : (rows : List (List Arc)) (walls : List Bool) (places : List ℕ) (n p : ℕ) (chain new : List (List Arc)) (row : List Arc) → slice_get places n ≡ Some p → new ≡ chain ++ row ∷ [] → IsLink rows walls places n p row → IsChainBelow rows walls places n chain → IsChainBelow rows walls places (n + 1) new
chain_more rows walls places n p chain new row at pushed link h = subst (IsChainBelow rows walls places (n + 1)) (sym pushed) (
  (let l : length (chain ++ row ∷ []) ≡ length chain + 1 = length-append chain (row ∷ []) in let m : length chain ≡ n = h.0 in omega (arith, l, m)),
  λ i q r to is. elim (last_or_before chain row i r is) [
    | inl old ↦ h.1 i q r to old
    | inr now ↦ (let e : i ≡ n = now.0 ∙ h.0 in let s : q ≡ p = same_at places i n p q e at to in subst (IsLink rows walls places i q) now.1 (subst (λ k. IsLink rows walls places k q row) (sym e) (subst (λ k. IsLink rows walls places n k row) (sym s) link)))
  ],
)

-- a wall at one more position
pub wall_more : (places : List ℕ) (walls : List Bool) (i p : ℕ) → slice_get places i ≡ Some p → p < length walls → AreWalls places walls → AreWalls places (set walls p true)
wall_more places walls i p at lt h = λ q wall. by_test q (p == q) refl wall
  where
    by_test : (q : ℕ) (b : Bool) → (p == q) ≡ b → unwrap_or (slice_get (set walls p true) q) false ≡ true → (k : ℕ) × (slice_get places k ≡ Some q)
    by_test q true e wall = (i, at ∙ ap Some (grind (arith, e)))
    by_test q false e wall = h q (sym (ap (λ o. unwrap_or o false) (slice_get-set walls p true q lt ∙ ap (λ b. cond b (Some true) (slice_get walls q)) e)) ∙ wall)

pub wall_long : (walls : List Bool) (p n : ℕ) → length walls ≡ n → length (set walls p true) ≡ n
wall_long walls p n h = length-set walls p true ∙ h
