-- The judgement of items: the first failing test of a method, or the length of the route. Source: Yiu, Lin and
-- Mouratidis, ICDE 2010: the tests of a client under DIJ, FULL, LDM and HYP. The order of the tests and their
-- results are this program's profile.
use Rattle.std.specs.Prelude.{◌≡◌, ℕ, ◌+◌, ◌-◌, ◌^◌, ◌==◌, ◌≤◌, ◌<◌, ◌⊎◌, min, max, nat_lt, ◌&&◌, if◌then◌else◌, IsTrue, Option, None, Some, is_some, Result, Ok, Err, List, [], ◌∷◌, find}
use Rattle.std.specs.Option.{option_map}
use Rattle.road_map.specs.declared.arc.Arc.{Arc}
use Rattle.road_map.specs.Least.{IsLeast}
use Rattle.road_search.specs.Passing.{Reaches, IsLeastPassing}
use Rattle.book_model.specs.declared.items.Query.{Query}
use Rattle.book_model.specs.declared.items.Items.{Items}
use Rattle.book_model.specs.declared.settings.Numbers.{Numbers}
use Rattle.book_model.specs.Books.{Kind, Dij, Full, Ldm, Hyp}
use Rattle.road_leaf.specs.declared.leaf.NodeLeaf.{NodeLeaf}
use Rattle.road_leaf.specs.declared.pair.PairLeaf.{PairLeaf}
use Rattle.proof_judge.specs.declared.refusal.Refusal.{Refusal}
use Rattle.proof_judge.specs.declared.refusal.Refusal.TheVariants.{RepeatedNode, BadRoute, MissingTuple, MissingPair, Shorter, Disagrees}
use Rattle.proof_judge.specs.ItemWalks.{item_at, StandsTwice, any_ways, inner_ways, live_ways, marks, Lacks, EndsLacking}

-- the length of the route, or the reason why the items are refused
abbrev pub Verdict : Type 0
Verdict = Result ℕ Refusal

-- the length of the arc to an id
abbrev pub arc_to : List Arc → ℕ → Option ℕ
arc_to arcs to = option_map (λ a. a.length) (find (λ a. a.to == to) arcs)

-- the verdict that follows a hop of this length
abbrev pub longer : ℕ → Verdict → Verdict
longer l (Ok d) = Ok (l + d)
longer l (Err e) = Err e

abbrev pub by_arc : ℕ → Option ℕ → Verdict → Verdict
by_arc index None rest = Err (BadRoute (index + 1))
by_arc index (Some l) rest = longer l rest

abbrev pub by_item : ℕ → ℕ → ℕ → Option NodeLeaf → Verdict → Verdict
by_item index r q None rest = Err (MissingTuple r)
by_item index r q (Some n) rest = by_arc index (arc_to n.arcs q) rest

-- the length of the rest of a route from r on, where r is at this index, or its first fault
abbrev pub walked_from : List NodeLeaf → ℕ → ℕ → ℕ → List ℕ → Verdict
walked_from nodes t index r [] = if is_some (item_at nodes r) then
    (if r == t then Ok 0 else Err (BadRoute (index + 1))) else Err (MissingTuple r)
walked_from nodes t index r (q ∷ route) = by_item index r q (item_at nodes r)
    (walked_from nodes t (index + 1) q route)

abbrev pub walked : List NodeLeaf → Query → List ℕ → Verdict
walked nodes q [] = Err (BadRoute 0)
walked nodes q (r ∷ route) = if r == q.from then walked_from nodes q.to 0 r route else Err
    (BadRoute 0)

-- the length is accepted
abbrev pub Good : ℕ → Verdict → Type 0
Good d v = v ≡ Ok d

abbrev pub Then : {A : Type 0} → (ℕ → Refusal) → (Result A Refusal → Type 0) → Option ℕ →
    Result A Refusal → Type 0
Then refuse next None v = next v
Then refuse next (Some n) v = v ≡ Err (refuse n)

-- a test, which refuses with the least number that satisfies P, followed by the further tests
abbrev pub Tests : {A : Type 0} → (ℕ → Type 0) → (ℕ → Refusal) → (Result A Refusal → Type 0) →
    Result A Refusal → Type 0
Tests P refuse next v = (o : Option ℕ) × IsLeast P o × Then refuse next o v

-- the tests after the walk of the route
abbrev pub OnRoute : Verdict → (ℕ → Verdict → Type 0) → Verdict → Type 0
OnRoute (Ok d) next v = next d v
OnRoute (Err e) next v = v ≡ Err e

-- the first pair item that names these two ids
abbrev pub pair_at : List PairLeaf → ℕ → ℕ → Option PairLeaf
pair_at pairs b c = find (λ p. (p.a == min b c) && (p.b == max b c)) pairs

-- the distance in a pair item
abbrev pub distance_in : PairLeaf → Option ℕ
distance_in p = if p.distance == 2 ^ 64 - 1 then None else Some p.distance

abbrev pub full_pair : ℕ → ℕ → ℕ → Option PairLeaf → Verdict
full_pair s t d None = Err (MissingPair (min s t) (max s t))
full_pair s t d (Some p) = if p.distance == d then Ok d else Err (Disagrees p.distance)

abbrev pub full_judged : List PairLeaf → Query → ℕ → Verdict
full_judged pairs q d = if q.from == q.to then
    (if nat_lt 0 d then Err (Shorter 0) else Ok d) else full_pair q.from q.to d
    (pair_at pairs q.from q.to)

abbrev pub by_said : ℕ → ℕ → Option ℕ → Option Refusal
by_said most d None = None
by_said most d (Some w) = if nat_lt (d + w) most then Some (Shorter (d + w)) else None

abbrev pub by_pair : ℕ → ℕ → ℕ → ℕ → Option PairLeaf → Option Refusal
by_pair most b c d None = Some (MissingPair (min b c) (max b c))
by_pair most b c d (Some p) = by_said most d (distance_in p)

-- the fault of two border nodes whose inner lengths sum to d: a shorter route, or a missing pair item
abbrev pub pair_fault : List PairLeaf → ℕ → ℕ → ℕ → ℕ → Option Refusal
pair_fault pairs most b c d = if b == c then Some (Shorter d) else by_pair most b c d
    (pair_at pairs b c)

-- a border node with its least inner length from an end
pub record IsBorderAt (nodes : List NodeLeaf) (from most b p : ℕ) : Type 0 where
  pub marked : IsTrue (marks (item_at nodes b))
  pub least : IsLeastPassing (inner_ways (item_at nodes)) from most b (Some p)

-- the border node b of s and the border node c of t fail with this refusal
pub record PairFails (g : Items) (q : Query) (most b c : ℕ) (e : Refusal) : Type 0 where
  pub p : ℕ
  pub r : ℕ
  pub near : IsBorderAt g.nodes q.from most b p
  pub far : IsBorderAt g.nodes q.to most c r
  pub below : p + r < most
  pub fault : pair_fault g.pairs most b c (p + r) ≡ Some e

-- pairs of border nodes, ordered by the first and then by the second node
abbrev pub NotBefore : ℕ → ℕ → ℕ → ℕ → Type 0
NotBefore b c b' c' = (b < b') ⊎ ((b ≡ b') × (c ≤ c'))

-- no pair of border nodes fails
abbrev pub NoneFails : (ℕ → ℕ → Refusal → Type 0) → Type 0
NoneFails Fails = (b c : ℕ) (e : Refusal) → ¬ Fails b c e

-- this is the refusal of the first pair of border nodes that fails, in ascending order
abbrev pub FirstFails : (ℕ → ℕ → Refusal → Type 0) → Refusal → Type 0
FirstFails Fails e = (b : ℕ) × (c : ℕ) × Fails b c e ×
    ((b' c' : ℕ) (e' : Refusal) → Fails b' c' e' → NotBefore b c b' c')

-- the tests of the pairs of border nodes, in ascending order
abbrev pub PairTests : Items → Query → ℕ → Verdict → Type 0
PairTests g q most (Ok d) = (d ≡ most) × NoneFails (PairFails g q most)
PairTests g q most (Err e) = FirstFails (PairFails g q most) e

-- the tests of DIJ
abbrev pub DijTests : List NodeLeaf → Query → ℕ → Verdict → Type 0
DijTests nodes q d = Tests (Lacks (any_ways (item_at nodes)) q.from d) MissingTuple
    (Tests (Reaches (any_ways (item_at nodes)) q.from d q.to) Shorter (Good d))

-- the tests of LDM
abbrev pub LdmTests : ℕ → List NodeLeaf → Query → ℕ → Verdict → Type 0
LdmTests step nodes q d = Tests (EndsLacking (live_ways step (item_at nodes) q.to d) q.from)
    MissingTuple (Tests (Reaches (live_ways step (item_at nodes) q.to d) q.from d q.to) Shorter
    (Good d))

-- the tests of HYP
abbrev pub HypTests : Items → Query → ℕ → Verdict → Type 0
HypTests g q d =
    Tests (λ id. Lacks (inner_ways (item_at g.nodes)) q.from d id ⊎
    Lacks (inner_ways (item_at g.nodes)) q.to d id) MissingTuple
    (Tests (Reaches (inner_ways (item_at g.nodes)) q.from d q.to) Shorter (PairTests g q d))

-- the tests of each method after the route; the route has length d
abbrev pub OwnTests : Kind → Numbers → Items → Query → ℕ → Verdict → Type 0
OwnTests Dij n g q d v = DijTests g.nodes q d v
OwnTests Full n g q d v = v ≡ full_judged g.pairs q d
OwnTests Ldm n g q d v = LdmTests n.first g.nodes q d v
OwnTests Hyp n g q d v = HypTests g q d v

-- the verdict: the first failing test, or the route's length
abbrev pub Judged : Kind → Numbers → Items → Query → Verdict → Type 0
Judged k n g q v = Tests (StandsTwice g.nodes) RepeatedNode
    (OnRoute (walked g.nodes q g.route) (OwnTests k n g q)) v

-- items have at most one verdict
abbrev pub HasOneVerdict : Kind → Type 0
HasOneVerdict k = (n : Numbers) (g : Items) (q : Query) (v w : Verdict) → Judged k n g q v →
    Judged k n g q w → v ≡ w
