-- A search that ends early: the labels below a bound, once no open label is below it.
use Rattle.std.proofs.Common.{◌≡◌, ℕ, zero, suc, ◌+◌, ◌≤◌, ◌<◌, nat_lt, Bool, true, false, cond, Option, None, Some, IsSome, IfSome, is_some, nat_eq, ◌++◌, ◌∷◌, [], ◌⊎◌, inl, inr, refl, arith, sym, ◌∙◌, ap, subst}
use Rattle.std.proofs.lemmas.Bool.{cases_eq}
use Rattle.std.specs.Option.{option_map}
use Rattle.road_search.specs.declared.label.Label.{Label}
use Rattle.road_search.specs.declared.marks.Mark.{Mark}
use Rattle.road_search.specs.Passing.{Ways, LetsShorter, IsLeastPassing}
use Rattle.road_search.specs.Marking.{open_of, settled_of, open_in, settled_in, label_in}
use Rattle.road_search.specs.Labelling.{before_at, way_to, IsWay, Settles, length_in, route_in}
use Rattle.road_search.specs.Nearness.{below}
use Rattle.road_search.proofs.Searching.{Within, Grown, Searched}
use Rattle.road_search.proofs.Turns.{InTurn, Turned, count, Grown-below}
use Rattle.road_search.proofs.Found.{found, way}

-- a label that exists, if it is below the bound
abbrev pub cut : ℕ → Option Label → Option Label
cut bound None = None
cut bound (Some l) = cond (nat_lt l.length bound) (Some l) None

cut_is : (bound : ℕ) (o : Option Label) (l : Label) → cut bound o ≡ Some l → (o ≡ Some l) × (l.length < bound)
cut_is bound None l h = cc
cut_is bound (Some k) l h = by_test (nat_lt k.length bound) refl h
  where
    by_test : (b : Bool) → nat_lt k.length bound ≡ b → cond b (Some k) None ≡ Some l → (Some k ≡ Some l) × (l.length < bound)
    by_test true e h = (h, (let same : k ≡ l = cc in subst (λ (x : Label). x.length < bound) same (grind (arith, e))))
    by_test false e h = cc

cut_keeps : (bound : ℕ) (o : Option Label) (l : Label) → o ≡ Some l → l.length < bound → cut bound o ≡ Some l
cut_keeps bound o l is lt = ap (cut bound) is ∙ (let t : nat_lt l.length bound ≡ true = grind (arith, lt) in ap (λ b. cond b (Some l) None) t)

pub cut_length : (bound : ℕ) (o : Option Label) → option_map (λ l. l.length) (cut bound o) ≡ below bound (option_map (λ l. l.length) o)
cut_length bound None = refl
cut_length bound (Some l) = by_test (nat_lt l.length bound)
  where
    by_test : (b : Bool) → option_map (λ (x : Label). x.length) (cond b (Some l) None) ≡ cond b (Some l.length) None
    by_test true = refl
    by_test false = refl

-- a label is settled or open
which : (o : Option Mark) (l : Label) → option_map (λ m. m.label) o ≡ Some l → (settled_of o ≡ Some l) ⊎ (open_of o ≡ Some l)
which None l h = cc
which (Some m) l h = by_test m.settled
  where
    by_test : (b : Bool) → (cond b (Some m.label) None ≡ Some l) ⊎ (cond b None (Some m.label) ≡ Some l)
    by_test true = inl h
    by_test false = inr h

settled_label : (o : Option Mark) (l : Label) → settled_of o ≡ Some l → option_map (λ m. m.label) o ≡ Some l
settled_label None l h = cc
settled_label (Some m) l h = by_test m.settled h
  where
    by_test : (b : Bool) → cond b (Some m.label) None ≡ Some l → Some m.label ≡ Some l
    by_test true h = h
    by_test false h = cc

open_label : (o : Option Mark) (l : Label) → open_of o ≡ Some l → option_map (λ m. m.label) o ≡ Some l
open_label None l h = cc
open_label (Some m) l h = by_test m.settled h
  where
    by_test : (b : Bool) → cond b None (Some m.label) ≡ Some l → Some m.label ≡ Some l
    by_test true h = cc
    by_test false h = h

-- settling changes no label
pub settles_labels : (u : ℕ) (k : Label) (old new : ℕ → Option Mark) → Settles u k old new → (v : ℕ) → label_in new v ≡ label_in old v
settles_labels u k old new s v = elim (cases_eq v u) [
  | inl e ↦ ap (λ t. label_in new t) e ∙ (ap (λ (o : Option Mark). option_map (λ m. m.label) o) s.now ∙ (sym (open_label (old u) k s.was) ∙ ap (λ t. label_in old t) (sym e)))
  | inr ne ↦ ap (λ (o : Option Mark). option_map (λ m. m.label) o) (s.others v ne)
]

-- no label below the bound is open any more
pub record AtEnd (bound : ℕ) (old new : ℕ → Option Mark) : Type 0 where
  pub far : (v : ℕ) (l : Label) → open_in old v ≡ Some l → bound ≤ l.length
  pub labels : (v : ℕ) → label_in new v ≡ label_in old v

module _ {w : Ways} {from limit : ℕ} (bound : ℕ) (old new : ℕ → Option Mark) (h : InTurn w from limit old) (low : bound ≤ limit) (e : AtEnd bound old new) where
  pub near : ℕ → Option Label
  near v = cut bound (label_in new v)

  near_settled : (v : ℕ) (l : Label) → near v ≡ Some l → (settled_in old v ≡ Some l) × (l.length < bound)
  unfolding near
  near_settled v l is =
      let c : (label_in new v ≡ Some l) × (l.length < bound) = cut_is bound (label_in new v) l is in
      elim (which (old v) l (sym (e.labels v) ∙ c.0)) [
        | inl s ↦ (s, c.1)
        | inr o ↦ absurd (let far : bound ≤ l.length = e.far v l o in let lt : l.length < bound = c.1 in omega arith)
      ]

  settled_near : (v : ℕ) (l : Label) → settled_in old v ≡ Some l → l.length < bound → near v ≡ Some l
  unfolding near
  settled_near v l s lt = cut_keeps bound (label_in new v) l (e.labels v ∙ settled_label (old v) l s) lt

  within : (v d : ℕ) → d < bound → Within (settled_in old) (open_in old) v d → Within near (λ _. None) v d
  within v d lt i = elim i.stands [
    | inl s ↦ record { label = i.label; stands = inl (settled_near v i.label s (omega (arith, lt, i.near))); near = i.near }
    | inr o ↦ absurd (omega (arith, lt, i.near, e.far v i.label o))
  ]

  grown : (v : ℕ) (l : Label) → l.length < bound → Grown w from limit (settled_in old) v l → Grown w from bound near v l
  grown v l lt g = elim g [
    | inl b ↦ inl (record { here = b.here; below = (let z : l.length ≡ 0 = ap (λ (x : Label). x.length) b.is in omega (arith, lt, z)); is = b.is })
    | inr b ↦ (
        let z : l.length ≡ b.k.length + b.a.length = ap (λ (x : Label). x.length) b.is in
        inr (record { u = b.u; k = b.k; a = b.a; settled = settled_near b.u b.k b.settled (omega (arith, lt, z)); leaves = b.leaves; to = b.to; below = omega (arith, lt, z); is = b.is }))
  ]

  -- the labels below the bound are those of a search with that limit
  pub searched_near : Searched w from bound (count old) near (λ _. None)
  searched_near = record {
    begun = λ p. within from 0 p (h.begun (omega (arith, p, low)));
    apart = λ v k l s o. cc;
    in_order = λ u v k l s o. cc;
    closed = λ u k a s c lt. within a.to (k.length + a.length) lt (h.closed u k a (near_settled u k s).0 c (omega (arith, lt, low)));
    settled_by = λ v l s. let n = near_settled v l s in grown v l n.1 (h.settled_by v l n.0);
    open_by = λ v l o. cc;
    few_settled = λ v l s. h.few_settled v l (near_settled v l s).0;
    few_open = λ v l o. cc;
    ids = λ v l s. h.ids v l (near_settled v l s).0;
  }

  pub near_lengths : LetsShorter w → (v : ℕ) → IsLeastPassing w from bound v (below bound (length_in new v))
  unfolding near
  near_lengths shorter v = subst (IsLeastPassing w from bound v) (cut_length bound (label_in new v)) (found shorter searched_near (λ v. refl) v)

  -- the route by the labels
  near_label : (v : ℕ) (l : Label) → near v ≡ Some l → label_in new v ≡ Some l
  unfolding near
  near_label v l is = (cut_is bound (label_in new v) l is).0

  same_way : (hops : ℕ) (v : ℕ) (l : Label) → near v ≡ Some l → l.hops ≡ hops → way_to near hops v ≡ way_to (label_in new) hops v
  same_way zero v l is n = refl
  same_way (suc hops) v l is n = elim (searched_near.settled_by v l is) [
    | inl b ↦ absurd (let z : l.hops ≡ 0 = ap (λ (x : Label). x.hops) b.is in omega arith)
    | inr b ↦
        let f : l.hops ≡ b.k.hops + 1 = ap (λ (x : Label). x.hops) b.is in
        let here : before_at near v ≡ b.u = rw is (ap (λ (x : Label). x.before) b.is) in
        let there : before_at (label_in new) v ≡ b.u = rw (near_label v l is) (ap (λ (x : Label). x.before) b.is) in
        ap (λ t. way_to near hops t ++ v ∷ []) here ∙ (ap (λ t. t ++ v ∷ []) (same_way hops b.u b.k b.settled (omega (arith, f, n))) ∙ ap (λ t. way_to (label_in new) hops t ++ v ∷ []) (sym there))
  ]

  near_way_at : LetsShorter w → (v : ℕ) (o : Option Label) → label_in new v ≡ o → near v ≡ o → IfSome (option_map (λ l. way_to (label_in new) l.hops v) o) (IsWay w from bound v (option_map (λ l. l.length) o))
  near_way_at shorter v None is n = tt
  near_way_at shorter v (Some l) is n =
      let P : Option Label → Type 0 = λ o. IfSome (option_map (λ k. way_to near k.hops v) o) (IsWay w from bound v (option_map (λ k. k.length) o)) in
      let one : P (Some l) = subst P n (way shorter searched_near (λ v. refl) v) in
      subst (IsWay w from bound v (Some l.length)) (same_way l.hops v l n refl) one

  pub near_way : LetsShorter w → (v : ℕ) → cut bound (label_in new v) ≡ label_in new v → IfSome (route_in new v) (IsWay w from bound v (length_in new v))
  unfolding near
  near_way shorter v kept = near_way_at shorter v (label_in new v) refl kept

-- how far a search must go: up to the limit, or as far as the end once the end is settled
abbrev pub Bounded : ℕ → ℕ → ℕ → (ℕ → Option Mark) → Type 0
Bounded limit bound to mark = (bound ≡ limit) ⊎ ((l : Label) × (settled_in mark to ≡ Some l) × (bound ≡ l.length + 1))

-- the end has no label above the bound
pub end_kept : {w : Ways} {from limit : ℕ} (bound to : ℕ) (old new : ℕ → Option Mark) → InTurn w from limit old → AtEnd bound old new → Bounded limit bound to old → cut bound (label_in new to) ≡ label_in new to
end_kept {w} {from} {limit} bound to old new h e b = by_label (label_in new to) refl
  where
    short : (l : Label) → label_in new to ≡ Some l → l.length < bound
    short l is = elim b [
      | inl all ↦ elim (which (old to) l (sym (e.labels to) ∙ is)) [
        | inl s ↦ omega (arith, all, Grown-below w from limit (settled_in old) to l (h.settled_by to l s))
        | inr o ↦ omega (arith, all, Grown-below w from limit (settled_in old) to l (h.open_by to l o))
      ]
      | inr end ↦ (
          let there : label_in new to ≡ Some end.0 = e.labels to ∙ settled_label (old to) end.0 end.1 in
          let same : end.0 ≡ l = cc in
          let f : end.0.length ≡ l.length = ap (λ (x : Label). x.length) same in
          omega (arith, end.2, f))
    ]

    by_label : (o : Option Label) → label_in new to ≡ o → cut bound o ≡ o
    by_label None is = refl
    by_label (Some l) is = cut_keeps bound (Some l) l refl (short l is)

-- if the end has no label, the search has gone up to the limit
pub end_found : (limit bound to : ℕ) (old new : ℕ → Option Mark) → AtEnd bound old new → Bounded limit bound to old → (bound ≡ limit) ⊎ IsSome (length_in new to)
end_found limit bound to old new e b = elim b [
  | inl all ↦ inl all
  | inr end ↦ inr (ap (λ o. is_some (option_map (λ (l : Label). l.length) o)) (e.labels to ∙ settled_label (old to) end.0 end.1))
]

-- one turn lowers the bound if it settles the end
pub bounded_turn : {w : Ways} {from limit : ℕ} {old mid new : ℕ → Option Mark} (bound to u : ℕ) (k : Label) → Turned w from limit u old new → Settles u k old mid → ((v : ℕ) → settled_in new v ≡ settled_in mid v) → Bounded limit bound to old → Bounded limit (cond (nat_eq u to) (k.length + 1) bound) to new
bounded_turn {w} {from} {limit} {old} {mid} {new} bound to u k t s same b = elim (cases_eq u to) [
  | inl e ↦ (
      let here : nat_eq u to ≡ true = grind (arith, e) in
      inr (k, ap (λ v. settled_in new v) (sym e) ∙ (same u ∙ ap settled_of s.now), ap (λ c. cond c (k.length + 1) bound) here))
  | inr ne ↦ (
      let there : nat_eq u to ≡ false = grind (arith, ne) in
      let stays : cond (nat_eq u to) (k.length + 1) bound ≡ bound = ap (λ c. cond c (k.length + 1) bound) there in
      elim b [
        | inl all ↦ inl (stays ∙ all)
        | inr end ↦ inr (end.0, t.others to (λ e. ne (sym e)) ∙ end.1, stays ∙ end.2)
      ])
]

-- the bound is at most the limit
pub still_low : (c : Bool) (bound length limit : ℕ) → length < bound → bound ≤ limit → cond c (length + 1) bound ≤ limit
still_low true bound length limit lt low = omega arith
still_low false bound length limit lt low = low

-- equal marks have equal labels
pub same_labels : (old new : ℕ → Option Mark) → ((v : ℕ) → new v ≡ old v) → (v : ℕ) → label_in new v ≡ label_in old v
same_labels old new same v = ap (λ (o : Option Mark). option_map (λ m. m.label) o) (same v)

-- if no label is open, no open label is near
pub not_open : (bound : ℕ) (old new : ℕ → Option Mark) (v : ℕ) (l : Label) → new v ≡ old v → open_in new v ≡ None → open_in old v ≡ Some l → bound ≤ l.length
not_open bound old new v l same none o = let e : open_in old v ≡ None = sym (ap open_of same) ∙ none in cc
