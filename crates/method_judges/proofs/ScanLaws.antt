-- The scan of pairs of border nodes finds the first pair that fails.
use Rattle.std.proofs.Common.{◌≡◌, ℕ, ◌+◌, ◌≤◌, ◌<◌, ◌^◌, nat_lt, Bool, true, false, cond, Option, None, Some, Ok, Err, List, [], ◌∷◌, inl, inr, refl, arith, ap, sym, ◌∙◌, subst}
use Rattle.std.specs.List.{Contains}
use Rattle.std.specs.Option.{option_or}
use Rattle.road_map.proofs.LeastLaws.{IsLeast-unique}
use Rattle.road_map.proofs.Among.{Contains-none, Contains-here, Contains-there, Contains-cases}
use Rattle.road_map.specs.Least.{IsLeast}
use Rattle.road_search.specs.Passing.{Ways, Reaches, IsLeastPassing}
use Rattle.road_leaf.specs.declared.leaf.NodeLeaf.{NodeLeaf}
use Rattle.book_model.specs.declared.items.Query.{Query}
use Rattle.proof_judge.specs.declared.refusal.Refusal.{Refusal}
use Rattle.book_model.specs.declared.items.Items.{Items}
use Rattle.proof_judge.specs.ItemWalks.{item_at, inner_ways}
use Rattle.proof_judge.specs.Judgement.{Verdict, pair_fault, PairFails, PairTests, NotBefore, NoneFails, FirstFails}
use Rattle.proof_judge.specs.Apart.{Leads, joined_fault, by_fault, BordersFail, BorderTests}
use Rattle.method_judges.specs.Scans.{PairFault, scan_row, scan, AboveAll, AreRising, IsScan}
use Rattle.method_judges.proofs.BorderLists.{AreBorders, Marked}
use Rattle.method_judges.proofs.BorderLaws.{listed_borders}

above : (id : ℕ) (bs : List (ℕ × ℕ)) (b : ℕ × ℕ) → AboveAll id bs → Contains bs b → id < b.0
above id [] b h c = absurd (Contains-none b c)
above id (x ∷ bs) b h c = elim (Contains-cases x b bs c) [
  | inl e ↦ subst (λ (y : ℕ × ℕ). id < y.0) e h.0
  | inr d ↦ (let lt : x.0 < b.0 = above x.0 bs b h.1 d in omega (arith, h.0, lt))
]

above_rising : (id : ℕ) (bs : List (ℕ × ℕ)) → AboveAll id bs → AreRising bs
above_rising id [] h = tt
above_rising id (x ∷ bs) h = h.1

-- a border node of a row that fails
pub record RowFails (fault : PairFault) (most b p : ℕ) (far : List (ℕ × ℕ)) (c r : ℕ) (e : Refusal) : Type 0 where
  among : Contains far (c, r)
  below : p + r < most
  faulty : fault b c (p + r) ≡ Some e

module _ (fault : PairFault) (most b p : ℕ) where
  abbrev here : ℕ × ℕ → Option Refusal
  here c = cond (nat_lt (p + c.1) most) (fault b c.0 (p + c.1)) None

  here_some : (c : ℕ × ℕ) (e : Refusal) → here c ≡ Some e → (p + c.1 < most) × (fault b c.0 (p + c.1) ≡ Some e)
  here_some c e h = by_test (nat_lt (p + c.1) most) refl h
    where
      by_test : (t : Bool) → nat_lt (p + c.1) most ≡ t → cond t (fault b c.0 (p + c.1)) None ≡ Some e → (p + c.1 < most) × (fault b c.0 (p + c.1) ≡ Some e)
      by_test true t h = (grind (arith, t), h)
      by_test false t h = cc

  here_none : (c r : ℕ) (e : Refusal) → p + r < most → fault b c (p + r) ≡ Some e → here (c, r) ≡ Some e
  here_none c r e lt h = by_test (nat_lt (p + r) most) refl
    where
      by_test : (t : Bool) → nat_lt (p + r) most ≡ t → cond t (fault b c (p + r)) None ≡ Some e
      by_test true t = h
      by_test false t = absurd (grind (arith, t, lt))

  row_none-step : (x : ℕ × ℕ) (far : List (ℕ × ℕ)) (c r : ℕ) (e : Refusal) → (Contains far (c, r) → scan_row fault most b p far ≡ None → ⊥) → RowFails fault most b p (x ∷ far) c r e → (o : Option Refusal) → here x ≡ o → option_or o (scan_row fault most b p far) ≡ None → ⊥
  row_none-step x far c r e more f (Some e') is h = cc
  row_none-step x far c r e more f None is h = elim (Contains-cases x (c, r) far f.among) [
    | inl s ↦ (let bad : here (c, r) ≡ Some e = here_none c r e f.below f.faulty in let same : here x ≡ here (c, r) = ap here s in cc)
    | inr d ↦ more d h
  ]

  row_none : (far : List (ℕ × ℕ)) → scan_row fault most b p far ≡ None → (c r : ℕ) (e : Refusal) → RowFails fault most b p far c r e → ⊥
  row_none [] h c r e f = Contains-none (c, r) f.among
  row_none (x ∷ far) h c r e f = row_none-step x far c r e (λ d h. row_none far h c r e (record { among = d; below = f.below; faulty = f.faulty })) f (here x) refl h

  -- the first border node of a row that fails
  pub record FirstOfRow (far : List (ℕ × ℕ)) (e : Refusal) : Type 0 where
    c : ℕ
    r : ℕ
    fails : RowFails fault most b p far c r e
    first : (c' r' : ℕ) (e' : Refusal) → RowFails fault most b p far c' r' e' → c ≤ c'

  row_some-step : (x : ℕ × ℕ) (far : List (ℕ × ℕ)) (e : Refusal) → AboveAll x.0 far → (scan_row fault most b p far ≡ Some e → FirstOfRow far e) → (o : Option Refusal) → here x ≡ o → option_or o (scan_row fault most b p far) ≡ Some e → FirstOfRow (x ∷ far) e
  row_some-step x far e rise more (Some e') is h =
      let f : (p + x.1 < most) × (fault b x.0 (p + x.1) ≡ Some e') = here_some x e' is in
      let same : e' ≡ e = cc in
      record {
        c = x.0;
        r = x.1;
        fails = record { among = Contains-here x far; below = f.0; faulty = f.1 ∙ ap Some same };
        first = λ c' r' e'' g. elim (Contains-cases x (c', r') far g.among) [
          | inl s ↦ (let eq : x.0 ≡ c' = ap (λ (y : ℕ × ℕ). y.0) s in omega (arith, eq))
          | inr d ↦ (let lt : x.0 < c' = above x.0 far (c', r') rise d in omega (arith, lt))
        ];
      }
  row_some-step x far e rise more None is h =
      let f : FirstOfRow far e = more h in
      record {
        c = f.c;
        r = f.r;
        fails = record { among = Contains-there x (f.c, f.r) far f.fails.among; below = f.fails.below; faulty = f.fails.faulty };
        first = λ c' r' e'' g. elim (Contains-cases x (c', r') far g.among) [
          | inl s ↦ absurd (let bad : here (c', r') ≡ Some e'' = here_none c' r' e'' g.below g.faulty in let same : here x ≡ here (c', r') = ap here s in cc)
          | inr d ↦ f.first c' r' e'' (record { among = d; below = g.below; faulty = g.faulty })
        ];
      }

  row_some : (far : List (ℕ × ℕ)) (e : Refusal) → AreRising far → scan_row fault most b p far ≡ Some e → FirstOfRow far e
  row_some [] e rise h = cc
  row_some (x ∷ far) e rise h = row_some-step x far e rise (λ h. row_some far e (above_rising x.0 far rise) h) (here x) refl h

module _ (fault : PairFault) (most : ℕ) (far : List (ℕ × ℕ)) (far_rise : AreRising far) where
  -- two border nodes that fail
  pub record BothFail (near : List (ℕ × ℕ)) (b p c r : ℕ) (e : Refusal) : Type 0 where
    among : Contains near (b, p)
    row : RowFails fault most b p far c r e

  none-step : (x : ℕ × ℕ) (near : List (ℕ × ℕ)) (b p c r : ℕ) (e : Refusal) → (Contains near (b, p) → scan fault most near far ≡ None → ⊥) → BothFail (x ∷ near) b p c r e → (o : Option Refusal) → scan_row fault most x.0 x.1 far ≡ o → option_or o (scan fault most near far) ≡ None → ⊥
  none-step x near b p c r e more f (Some e') is h = cc
  none-step x near b p c r e more f None is h = elim (Contains-cases x (b, p) near f.among) [
    | inl s ↦ row_none fault most b p far (ap (λ (y : ℕ × ℕ). scan_row fault most y.0 y.1 far) (sym s) ∙ is) c r e f.row
    | inr d ↦ more d h
  ]

  pub scan_none : (near : List (ℕ × ℕ)) → scan fault most near far ≡ None → (b p c r : ℕ) (e : Refusal) → BothFail near b p c r e → ⊥
  scan_none [] h b p c r e f = Contains-none (b, p) f.among
  scan_none (x ∷ near) h b p c r e f = none-step x near b p c r e (λ d h. scan_none near h b p c r e (record { among = d; row = f.row })) f (scan_row fault most x.0 x.1 far) refl h

  pub record FirstOfBoth (near : List (ℕ × ℕ)) (e : Refusal) : Type 0 where
    b : ℕ
    p : ℕ
    c : ℕ
    r : ℕ
    fails : BothFail near b p c r e
    first : (b' p' c' r' : ℕ) (e' : Refusal) → BothFail near b' p' c' r' e' → NotBefore b c b' c'

  some-step : (x : ℕ × ℕ) (near : List (ℕ × ℕ)) (e : Refusal) → AboveAll x.0 near → (scan fault most near far ≡ Some e → FirstOfBoth near e) → (o : Option Refusal) → scan_row fault most x.0 x.1 far ≡ o → option_or o (scan fault most near far) ≡ Some e → FirstOfBoth (x ∷ near) e
  some-step x near e rise more (Some e') is h =
      let same : e' ≡ e = cc in
      let f : FirstOfRow fault most x.0 x.1 far e = row_some fault most x.0 x.1 far e far_rise (is ∙ ap Some same) in
      record {
        b = x.0;
        p = x.1;
        c = f.c;
        r = f.r;
        fails = record { among = Contains-here x near; row = f.fails };
        first = λ b' p' c' r' e'' g. elim (Contains-cases x (b', p') near g.among) [
          | inl s ↦ inr (ap (λ (y : ℕ × ℕ). y.0) s, f.first c' r' e'' (subst (λ (y : ℕ × ℕ). RowFails fault most y.0 y.1 far c' r' e'') (sym s) g.row))
          | inr d ↦ inl (above x.0 near (b', p') rise d)
        ];
      }
  some-step x near e rise more None is h =
      let f : FirstOfBoth near e = more h in
      record {
        b = f.b;
        p = f.p;
        c = f.c;
        r = f.r;
        fails = record { among = Contains-there x (f.b, f.p) near f.fails.among; row = f.fails.row };
        first = λ b' p' c' r' e'' g. elim (Contains-cases x (b', p') near g.among) [
          | inl s ↦ absurd (row_none fault most b' p' far (ap (λ (y : ℕ × ℕ). scan_row fault most y.0 y.1 far) (sym s) ∙ is) c' r' e'' g.row)
          | inr d ↦ f.first b' p' c' r' e'' (record { among = d; row = g.row })
        ];
      }

  pub scan_some : (near : List (ℕ × ℕ)) (e : Refusal) → AreRising near → scan fault most near far ≡ Some e → FirstOfBoth near e
  scan_some [] e rise h = cc
  scan_some (x ∷ near) e rise h = some-step x near e rise (λ h. scan_some near e (above_rising x.0 near rise) h) (scan_row fault most x.0 x.1 far) refl h

-- two border nodes with their lengths, for which two facts hold, and their fault
pub record AreFaulty (fault : PairFault) (most : ℕ) (Near Far : ℕ → ℕ → Type 0) (b c : ℕ) (e : Refusal) : Type 0 where
  pub p : ℕ
  pub r : ℕ
  pub near : Near b p
  pub far : Far c r
  pub below : p + r < most
  pub faulty : fault b c (p + r) ≡ Some e

-- no pair fails, or this is the first pair that does
abbrev pub First : (ℕ → ℕ → Refusal → Type 0) → Option Refusal → Type 0
First Fails None = NoneFails Fails
First Fails (Some e) = FirstFails Fails e

pub first_same : (P Q : ℕ → ℕ → Refusal → Type 0) (o : Option Refusal) → ((b c : ℕ) (e : Refusal) → P b c e → Q b c e) → ((b c : ℕ) (e : Refusal) → Q b c e → P b c e) → First P o → First Q o
first_same P Q None to back h = λ b c e f. h b c e (back b c e f)
first_same P Q (Some e) to back h = (h.0, h.1, to h.0 h.1 e h.2, λ b c e' f. h.3 b c e' (back b c e' f))

-- a scan of all border nodes finds the first pair at fault
scan_first : (fault : PairFault) (most : ℕ) (Near Far : ℕ → ℕ → Type 0) (near far : List (ℕ × ℕ)) → AreBorders Near near → AreBorders Far far → (o : Option Refusal) → scan fault most near far ≡ o → First (AreFaulty fault most Near Far) o
scan_first fault most Near Far near far a b None is = λ x y e f. scan_none fault most far b.rising near is x f.p y f.r e (record { among = (a.all x f.p).1 f.near; row = record { among = (b.all y f.r).1 f.far; below = f.below; faulty = f.faulty } })
scan_first fault most Near Far near far a b (Some e) is =
    let f : FirstOfBoth fault most far b.rising near e = scan_some fault most far b.rising near e a.rising is in (
      f.b,
      f.c,
      record { p = f.p; r = f.r; near = (a.all f.b f.p).0 f.fails.among; far = (b.all f.c f.r).0 f.fails.row.among; below = f.fails.row.below; faulty = f.fails.row.faulty },
      λ b' c' e' h. f.first b' h.p c' h.r e' (record { among = (a.all b' h.p).1 h.near; row = record { among = (b.all c' h.r).1 h.far; below = h.below; faulty = h.faulty } }),
    )

-- the same over listed border nodes
pub scan_finds : (fault : PairFault) (most : ℕ) (nodes : List NodeLeaf) (near far : ℕ → Option ℕ) (P Q : ℕ → ℕ → Type 0) → ((v : ℕ) → IsLeast (P v) (near v)) → ((v : ℕ) → IsLeast (Q v) (far v)) → (o : Option Refusal) → IsScan fault most nodes near far o → First (AreFaulty fault most (Marked nodes P) (Marked nodes Q)) o
scan_finds fault most nodes near far P Q near_is far_is o s = scan_first fault most (Marked nodes P) (Marked nodes Q) s.near_borders s.far_borders (listed_borders nodes near P s.near_borders near_is s.near) (listed_borders nodes far Q s.far_borders far_is s.far) o s.finds

abbrev pub scanned : ℕ → Option Refusal → Verdict
scanned most None = Ok most
scanned most (Some e) = Err e

-- the verdict on pairs of border nodes after a route, by the scan of all border nodes
pub scan_tests : (g : Items) (q : Query) (most : ℕ) (near far : ℕ → Option ℕ) → ((v : ℕ) → IsLeastPassing (inner_ways (item_at g.nodes)) q.from most v (near v)) → ((v : ℕ) → IsLeastPassing (inner_ways (item_at g.nodes)) q.to most v (far v)) → (o : Option Refusal) → IsScan (pair_fault g.pairs most) most g.nodes near far o → PairTests g q most (scanned most o)
scan_tests g q most near far near_is far_is o s =
    by_first o (first_same (AreFaulty (pair_fault g.pairs most) most Near Far) (PairFails g q most) o
    (λ b c e f. record { p = f.p; r = f.r; near = record { marked = f.near.0; least = f.near.1 }; far = record { marked = f.far.0; least = f.far.1 }; below = f.below; fault = f.faulty })
    (λ b c e f. record { p = f.p; r = f.r; near = (f.near.marked, f.near.least); far = (f.far.marked, f.far.least); below = f.below; faulty = f.fault })
    (scan_finds (pair_fault g.pairs most) most g.nodes near far (Reaches (inner_ways (item_at g.nodes)) q.from most) (Reaches (inner_ways (item_at g.nodes)) q.to most) near_is far_is o s))
  where
    Near : ℕ → ℕ → Type 0
    Near = Marked g.nodes (Reaches (inner_ways (item_at g.nodes)) q.from most)

    Far : ℕ → ℕ → Type 0
    Far = Marked g.nodes (Reaches (inner_ways (item_at g.nodes)) q.to most)

    by_first : (o : Option Refusal) → First (PairFails g q most) o → PairTests g q most (scanned most o)
    by_first None h = (refl, h)
    by_first (Some e) h = h

-- the verdict on pairs of border nodes if no route is given
pub border_tests : (g : Items) (q : Query) (near far : ℕ → Option ℕ) → ((v : ℕ) → IsLeast (Leads (inner_ways (item_at g.nodes)) q.from v) (near v)) → ((v : ℕ) → IsLeast (Leads (inner_ways (item_at g.nodes)) q.to v) (far v)) →
    ((v d : ℕ) → near v ≡ Some d → d < 2 ^ 48) → ((v d : ℕ) → far v ≡ Some d → d < 2 ^ 48) → (o : Option Refusal) → IsScan (joined_fault g.pairs) 18446744073709551615 g.nodes near far o → BorderTests g q (by_fault o)
border_tests g q near far near_is far_is near_low far_low o s =
    by_first o (first_same (AreFaulty (joined_fault g.pairs) 18446744073709551615 (Marked g.nodes (Leads inner q.from)) (Marked g.nodes (Leads inner q.to))) (BordersFail g q) o
    (λ b c e f. record { p = f.p; r = f.r; near = record { marked = f.near.0; least = f.near.1 }; far = record { marked = f.far.0; least = f.far.1 }; fault = f.faulty })
    (λ b c e f. record {
      p = f.p;
      r = f.r;
      near = (f.near.marked, f.near.least);
      far = (f.far.marked, f.far.least);
      below = omega (arith, near_low b f.p (IsLeast-unique (Leads inner q.from b) (near b) (Some f.p) (near_is b) f.near.least), far_low c f.r (IsLeast-unique (Leads inner q.to c) (far c) (Some f.r) (far_is c) f.far.least));
      faulty = f.fault;
    })
    (scan_finds (joined_fault g.pairs) 18446744073709551615 g.nodes near far (Leads inner q.from) (Leads inner q.to) near_is far_is o s))
  where
    inner : Ways
    inner = inner_ways (item_at g.nodes)

    by_first : (o : Option Refusal) → First (BordersFail g q) o → BorderTests g q (by_fault o)
    by_first None h = h
    by_first (Some e) h = h
