-- The judgement of items that claim to show that no route exists: the first failing test, or none. Source: Yiu, Lin
-- and Mouratidis, ICDE 2010: the data that DIJ, FULL, LDM and HYP sign also shows which nodes no walk joins. The
-- order of the tests and their results are this program's profile.
use Rattle.std.specs.Prelude.{◌≡◌, ℕ, ◌+◌, ◌==◌, ◌⊎◌, min, max, ◌&&◌, ◌||◌, not, if◌then◌else◌, Bool, false, IsTrue, Option, None, Some, is_none, Result, Ok, Err, List, ◌∷◌, length}
use Rattle.road_map.specs.Least.{IsLeast}
use Rattle.road_search.specs.Passing.{Ways, Reaches}
use Rattle.road_leaf.specs.declared.leaf.NodeLeaf.{NodeLeaf}
use Rattle.road_leaf.specs.declared.pair.PairLeaf.{PairLeaf}
use Rattle.book_model.specs.declared.items.Query.{Query}
use Rattle.book_model.specs.declared.items.Items.{Items}
use Rattle.book_model.specs.declared.settings.Numbers.{Numbers}
use Rattle.book_model.specs.Landmarks.{no_code}
use Rattle.book_model.specs.Bounds.{Vector, vector_at}
use Rattle.book_model.specs.Books.{Kind, Dij, Full, Ldm, Hyp}
use Rattle.proof_judge.specs.declared.refusal.Refusal.{Refusal}
use Rattle.proof_judge.specs.declared.refusal.Refusal.TheVariants.{RepeatedNode, MissingTuple, MissingPair, Shorter, Disagrees}
use Rattle.proof_judge.specs.ItemWalks.{item_at, StandsTwice, leaf_ways, any_ways, inner_ways, marks, EndsLacking}
use Rattle.proof_judge.specs.Judgement.{Then, Tests, pair_at, distance_in, NoneFails, FirstFails}

-- success, or the reason why the items are refused
abbrev pub ApartVerdict : Type 0
ApartVerdict = Result (Unit {0}) Refusal

-- the items show that no walk joins the two ends
abbrev pub Passed : ApartVerdict → Type 0
Passed v = v ≡ Ok tt

-- some passing walk has length d
abbrev pub Leads : Ways → ℕ → ℕ → ℕ → Type 0
Leads w from to d = Reaches w from (d + 1) to d

-- some passing walk of any length
abbrev pub HasWay : Ways → ℕ → ℕ → Type 0
HasWay w from to = (d : ℕ) × Leads w from to d

-- exactly one of two codes states that no walk joins its node and the landmark
abbrev pub is_split : ℕ → ℕ → Bool
is_split a b = if a == no_code then not (b == no_code) else b == no_code

-- at some landmark, exactly one of two codes states that no walk joins its node and the landmark
abbrev pub are_split : List ℕ → List ℕ → Bool
are_split (a ∷ as') (b ∷ bs) = is_split a b || are_split as' bs
are_split _ _ = false

-- the same, if both vectors are at hand and cover equally many landmarks
abbrev pub apart_of : Option Vector → Option Vector → Bool
apart_of (Some v) (Some t) = (length v.codes == length t.codes) && are_split v.codes t.codes
apart_of _ _ = false

-- two leaves are apart: the vectors at hand show that no walk joins their nodes
abbrev pub are_apart : (ℕ → Option NodeLeaf) → Option NodeLeaf → Option NodeLeaf → Bool
are_apart leaf v t = apart_of (vector_at leaf v) (vector_at leaf t)

-- open walks towards t continue only from leaves that are not apart from t
abbrev pub open_ways : (ℕ → Option NodeLeaf) → ℕ → Ways
open_ways leaf t = leaf_ways (λ u _. not (are_apart leaf (leaf u) (leaf t))) leaf

-- no walk from the start ends at an id without an entry, and none ends at the end
abbrev pub WalkTests : Ways → Query → ApartVerdict → Type 0
WalkTests w q = Tests (EndsLacking w q.from) MissingTuple
    (Tests (Leads w q.from q.to) Shorter Passed)

abbrev pub said_apart : Option ℕ → Option Refusal
said_apart None = None
said_apart (Some w) = Some (Disagrees w)

abbrev pub named_apart : ℕ → ℕ → Option PairLeaf → Option Refusal
named_apart b c None = Some (MissingPair (min b c) (max b c))
named_apart b c (Some p) = said_apart (distance_in p)

-- the fault of two ids that walks from the two ends reach, where the lengths of the walks sum to d: a walk between
-- the ends, or a missing pair item
abbrev pub joined_fault : List PairLeaf → ℕ → ℕ → ℕ → Option Refusal
joined_fault pairs b c d = if b == c then Some (Shorter d) else named_apart b c (pair_at pairs b c)

abbrev pub by_fault : Option Refusal → ApartVerdict
by_fault None = Ok tt
by_fault (Some e) = Err e

-- a border node with its least inner length from an end
pub record IsBorderFrom (nodes : List NodeLeaf) (from b p : ℕ) : Type 0 where
  pub marked : IsTrue (marks (item_at nodes b))
  pub least : IsLeast (Leads (inner_ways (item_at nodes)) from b) (Some p)

-- the border node b of the start and the border node c of the end fail with this refusal
pub record BordersFail (g : Items) (q : Query) (b c : ℕ) (e : Refusal) : Type 0 where
  pub p : ℕ
  pub r : ℕ
  pub near : IsBorderFrom g.nodes q.from b p
  pub far : IsBorderFrom g.nodes q.to c r
  pub fault : joined_fault g.pairs b c (p + r) ≡ Some e

-- the tests of the pairs of border nodes, in ascending order
abbrev pub BorderTests : Items → Query → ApartVerdict → Type 0
BorderTests g q (Ok _) = NoneFails (BordersFail g q)
BorderTests g q (Err e) = FirstFails (BordersFail g q) e

-- no inner walk from an end leads to an id without an item; no inner walk joins the ends; and no two border nodes
-- that such walks reach are joined
abbrev pub InnerTests : Items → Query → ApartVerdict → Type 0
InnerTests g q =
    Tests (λ id. EndsLacking (inner_ways (item_at g.nodes)) q.from id ⊎
    EndsLacking (inner_ways (item_at g.nodes)) q.to id) MissingTuple
    (Tests (Leads (inner_ways (item_at g.nodes)) q.from q.to) Shorter (BorderTests g q))

-- the tests of each method if both ends have an item
abbrev pub ApartTests : Kind → Numbers → Items → Query → ApartVerdict → Type 0
ApartTests Dij n g q v = WalkTests (any_ways (item_at g.nodes)) q v
ApartTests Full n g q v = v ≡ by_fault (joined_fault g.pairs q.from q.to 0)
ApartTests Ldm n g q v = WalkTests (open_ways (item_at g.nodes) q.to) q v
ApartTests Hyp n g q v = InnerTests g q v

-- the first of the two ends without an item
abbrev pub end_lacking : List NodeLeaf → Query → Option ℕ
end_lacking nodes q = if is_none (item_at nodes q.from) then Some q.from else
    (if is_none (item_at nodes q.to) then Some q.to else None)

-- the verdict: the first failing test, or none. The route of the items is ignored.
abbrev pub JudgedApart : Kind → Numbers → Items → Query → ApartVerdict → Type 0
JudgedApart k n g q = Tests (StandsTwice g.nodes) RepeatedNode
    (Then MissingTuple (ApartTests k n g q) (end_lacking g.nodes q))

-- items have at most one such verdict
abbrev pub HasOneApartVerdict : Kind → Type 0
HasOneApartVerdict k = (n : Numbers) (g : Items) (q : Query) (v w : ApartVerdict) →
    JudgedApart k n g q v → JudgedApart k n g q w → v ≡ w
