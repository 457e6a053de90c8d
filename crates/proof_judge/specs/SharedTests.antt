-- The first tests of every method: repeated ids, and following the route.
use Rattle.std.specs.Prelude.{◌≡◌, ℕ, ◌^◌, ◌<◌, ◌≤◌, Some, Result, Ok, Err, List, Contains, IsSome, length, nat_eq}
use Rattle.std.specs.List.{IsDistinct}
use Rattle.road_map.specs.declared.arc.Arc.{Arc}
use Rattle.road_search.specs.Passing.{Ways}
use Rattle.book_model.specs.Books.{Kind}
use Rattle.book_model.specs.declared.items.Query.{Query}
use Rattle.book_model.specs.declared.settings.Numbers.{Numbers}
use Rattle.road_leaf.specs.declared.leaf.NodeLeaf.{NodeLeaf}
use Rattle.proof_judge.specs.declared.refusal.Refusal.{Refusal}
use Rattle.proof_judge.specs.declared.refusal.Refusal.TheVariants.{Memory}
use Rattle.book_model.specs.declared.items.Items.{Items}
use Rattle.proof_judge.specs.ItemWalks.{item_at}
use Rattle.proof_judge.specs.Judgement.{Verdict, longer, by_item, Judged}
use Rattle.proof_judge.specs.Apart.{JudgedApart}

-- the result that a hop gives for each route that begins with it
abbrev pub HopSays : List NodeLeaf → ℕ → ℕ → ℕ → Verdict → Type 0
HopSays nodes index r q (Ok l) = (l < 2 ^ 32) ×
    ((rest : Verdict) → by_item index r q (item_at nodes r) rest ≡ longer l rest)
HopSays nodes index r q (Err e) = (rest : Verdict) →
    by_item index r q (item_at nodes r) rest ≡ Err e

-- a verdict satisfies the predicate, unless memory runs out
abbrev pub UnlessMemory : {A : Type 0} → (Result A Refusal → Type 0) → Result A Refusal → Type 0
UnlessMemory P (Err (Memory _)) = Unit {0}
UnlessMemory P v = P v

-- the refusals that precede a method's own tests
abbrev pub RefusesBefore : Items → Query → Refusal → Type 0
RefusesBefore g q e = (k : Kind) (n : Numbers) → UnlessMemory (Judged k n g q) (Err e)

-- the refusals that precede a method's own tests, if no route is given
abbrev pub RefusesApart : Items → Query → Refusal → Type 0
RefusesApart g q e = (k : Kind) (n : Numbers) → UnlessMemory (JudgedApart k n g q) (Err e)

-- the lengths of all arcs are 32-bit numbers
abbrev pub AreShort : List NodeLeaf → Type 0
AreShort nodes = (n : NodeLeaf) (a : Arc) → Contains nodes n → Contains n.arcs a → a.length < 2 ^ 32

-- at most this many ids have an entry
abbrev pub HasAtMost : ℕ → Ways → Type 0
HasAtMost most w = (xs : List ℕ) → IsDistinct nat_eq xs →
    ((id : ℕ) → Contains xs id → IsSome (w.arcs id)) → length xs ≤ most

-- at most 2 to the 32nd ids have an entry, and all arcs are shorter than that
pub record IsNarrow (w : Ways) : Type 0 where
  pub few : HasAtMost (2 ^ 32) w
  pub short : (id : ℕ) (out : List Arc) (a : Arc) → w.arcs id ≡ Some out → Contains out a →
      a.length < 2 ^ 32
