-- The items that a method gathers from its book to show that no route joins two nodes. Source: Yiu, Lin and
-- Mouratidis, ICDE 2010: the hints of DIJ, FULL, LDM and HYP also show that no walk joins two nodes.
use Rattle.std.specs.Prelude.{◌≡◌, ◌≢◌, ℕ, ◌↔◌, ◌⊎◌, IsTrue, Some, IsSome, []}
use Rattle.road_map.specs.Walks.{Joins}
use Rattle.road_leaf.specs.declared.leaf.Extra.TheVariants.{Near}
use Rattle.road_leaf.specs.declared.leaf.NodeLeaf.{NodeLeaf}
use Rattle.book_model.specs.declared.items.Query.{Query}
use Rattle.book_model.specs.declared.items.Items.{Items}
use Rattle.book_model.specs.Books.{Kind, Dij, Full, Ldm, Hyp, Book, leaf}
use Rattle.proof_method.specs.declared.found.Found.{Found}
use Rattle.proof_judge.specs.ItemWalks.{item_at, StandsTwice, marks, inner_ways}
use Rattle.proof_judge.specs.Judgement.{pair_at}
use Rattle.proof_judge.specs.Apart.{HasWay, open_ways}
use Rattle.proof_method.specs.Gathering.{IsAuthentic, AreEnds, IsPairAt, Lists, AreUnjoined}

abbrev pub IsEnd : Query → ℕ → Type 0
IsEnd q id = (id ≡ q.from) ⊎ (id ≡ q.to)

-- an open walk of the book leads from the start to a node, possibly the start itself
abbrev pub IsOpen : Book → Query → ℕ → Type 0
IsOpen b q id = HasWay (open_ways (leaf b) q.to) q.from id

-- an inner walk of the book leads from one id to another
abbrev pub IsInnerWay : Book → ℕ → ℕ → Type 0
IsInnerWay b from id = HasWay (inner_ways (leaf b)) from id

-- The ids whose leaves are gathered besides those of the two ends. DIJ: all ids that a walk from the start reaches.
-- LDM: all ids that open walks reach, and the references of these and of the ends. HYP: all ids that inner walks
-- from one of the ends reach.
abbrev pub WantedApart : Kind → Book → Query → ℕ → Type 0
WantedApart Dij b q id = (d : ℕ) × Joins b.parts q.from id d
WantedApart Full b q id = ⊥
WantedApart Ldm b q id = IsOpen b q id ⊎
    ((u : ℕ) × (n : NodeLeaf) × (e : ℕ) × (IsEnd q u ⊎ IsOpen b q u) × (leaf b u ≡ Some n) ×
    (n.extra ≡ Near id e))
WantedApart Hyp b q id = IsInnerWay b q.from id ⊎ IsInnerWay b q.to id

-- a border node near the start and a border node near the end
pub record AreBordersApart (bk : Book) (q : Query) (b c : ℕ) : Type 0 where
  pub differ : b ≢ c
  pub near_mark : IsTrue (marks (leaf bk b))
  pub far_mark : IsTrue (marks (leaf bk c))
  pub near : IsInnerWay bk q.from b
  pub far : IsInnerWay bk q.to c

-- the gathered pairs: the pair of the two ends under FULL, and pairs of border nodes under HYP
abbrev pub WantedPairApart : Kind → Book → Query → ℕ → ℕ → Type 0
WantedPairApart Full b q = AreEnds q
WantedPairApart Hyp b q = AreBordersApart b q
WantedPairApart _ b q = λ _ _. ⊥

-- the items gathered for a query whose ends no walk joins
pub record IsGatheredApart (k : Kind) (b : Book) (q : Query) (g : Items) : Type 0 where
  pub authentic : IsAuthentic b g
  pub distinct : (id : ℕ) → ¬ StandsTwice g.nodes id
  pub unjoined : AreUnjoined b.parts q
  pub no_route : g.route ≡ []
  pub nodes : (id : ℕ) → IsSome (item_at g.nodes id) ↔ (IsEnd q id ⊎ WantedApart k b q id)
  pub pairs : (x y : ℕ) → WantedPairApart k b q x y → IsSome (pair_at g.pairs x y)

-- exactly the items gathered for a query whose ends no walk joins: no route, the ids of leaves, and the indices of
-- pairs
pub record IsFoundApart (k : Kind) (b : Book) (q : Query) (f : Found) : Type 0 where
  pub unjoined : AreUnjoined b.parts q
  pub no_route : f.route ≡ []
  pub nodes : Lists (λ id. IsEnd q id ⊎ WantedApart k b q id) f.nodes
  pub pairs : Lists (IsPairAt (WantedPairApart k b q) b) f.pairs
