-- What a good judgement of no route under DIJ, FULL and LDM implies for the map.
use Rattle.std.proofs.Common.{◌≡◌, ℕ, ◌+◌, ◌≤◌, ◌==◌, not, Bool, true, false, cond, Option, None, Some, is_none, IsSome, Ok, refl, arith, subst}
use Rattle.std.specs.List.{Contains}
use Rattle.road_map.specs.declared.parts.Parts.{Parts}
use Rattle.road_map.specs.Walks.{Knows, Joins}
use Rattle.road_map.specs.Maps.{IsMap}
use Rattle.road_map.proofs.WalkLaws.{RoadsKnown}
use Rattle.road_search.specs.Passing.{Ways}
use Rattle.road_map.specs.Routes.{walk_length}
use Rattle.road_leaf.specs.declared.leaf.NodeLeaf.{NodeLeaf}
use Rattle.road_leaf.specs.declared.pair.PairLeaf.{PairLeaf}
use Rattle.book_model.specs.declared.items.Query.{Query}
use Rattle.book_model.specs.declared.items.Items.{Items}
use Rattle.book_model.specs.declared.settings.Numbers.{Numbers}
use Rattle.book_model.specs.Books.{Kind, Dij, Full, Ldm, Book}
use Rattle.proof_judge.specs.declared.refusal.Refusal.{Refusal}
use Rattle.proof_judge.specs.declared.refusal.Refusal.TheVariants.{RepeatedNode, MissingTuple, Shorter}
use Rattle.proof_judge.specs.ItemWalks.{item_at, StandsTwice, any_ways, EndsLacking}
use Rattle.proof_judge.specs.Judgement.{Tests, Then, pair_at, distance_in}
use Rattle.proof_judge.specs.Apart.{Passed, Leads, are_apart, open_ways, WalkTests, said_apart, named_apart, joined_fault, by_fault, ApartTests, end_lacking, JudgedApart}
use Rattle.proof_judge.proofs.AllWalks.{reaches_leads, way_lacking}
use Rattle.proof_method.specs.Gathering.{IsPairOf, IsAuthentic, AreUnjoined}
use Rattle.proof_method.specs.Laws.{IsSoundApart}
use Rattle.proof_method.proofs.Along.{IsOfMap, Cut, no_shorter, reaches_joins, along_joins, Joins-known}
use Rattle.proof_method.proofs.ApartLaws.{parts_unjoined}
use Rattle.proof_method.proofs.PairLaws.{pair_named, Says, pair_says}
use Rattle.proof_method.proofs.RouteLaws.{have_arcs, items_of_map, roads_known, tests_passed, item_known}

-- what a good judgement implies before the method's own tests
pub record BegunApart (k : Kind) (n : Numbers) (g : Items) (q : Query) : Type 0 where
  pub from_item : IsSome (item_at g.nodes q.from)
  pub to_item : IsSome (item_at g.nodes q.to)
  pub own : ApartTests k n g q (Ok tt)

pub begun_apart : (k : Kind) (n : Numbers) (g : Items) (q : Query) → JudgedApart k n g q (Ok tt) → BegunApart k n g q
begun_apart k n g q h =
    let t : ((id : ℕ) → StandsTwice g.nodes id → ⊥) × Then MissingTuple (ApartTests k n g q) (end_lacking g.nodes q) (Ok tt) = tests_passed (StandsTwice g.nodes) RepeatedNode (Then MissingTuple (ApartTests k n g q) (end_lacking g.nodes q)) tt h in
    by_ends (item_at g.nodes q.from) (item_at g.nodes q.to) refl refl t.1
  where
    by_ends : (o p : Option NodeLeaf) → item_at g.nodes q.from ≡ o → item_at g.nodes q.to ≡ p → Then MissingTuple (ApartTests k n g q) (cond (is_none o) (Some q.from) (cond (is_none p) (Some q.to) None)) (Ok tt) → BegunApart k n g q
    by_ends None p e f t = cc
    by_ends (Some a) None e f t = cc
    by_ends (Some a) (Some b) e f t = record { from_item = rw e refl; to_item = rw f refl; own = t }

-- both ends are known
pub ends_known : (bk : Book) (g : Items) (q : Query) → IsAuthentic bk g → IsSome (item_at g.nodes q.from) → IsSome (item_at g.nodes q.to) → ((d : ℕ) → Joins bk.parts q.from q.to d → ⊥) → AreUnjoined bk.parts q
ends_known bk g q a from to none = (item_known bk g a q.from from, item_known bk g a q.to to, none)

-- if no walk over the entries leads to an id without an entry or to t, and none is cut, no walk of the map joins
-- the two
pub no_walk : (parts : Parts) → RoadsKnown parts → (w : Ways) → IsOfMap parts w → (s t : ℕ) → ((id : ℕ) → EndsLacking w s id → ⊥) → ((d : ℕ) → Leads w s t d → ⊥) → ((limit whole : ℕ) → Cut parts w s limit t whole → ⊥) → (e : ℕ) → Joins parts s t e → ⊥
no_walk parts known w of s t whole_closed unled uncut e j =
    let far : e + 1 ≤ e = no_shorter parts known w of s t (e + 1)
    (λ id d r none. whole_closed id (way_lacking w s id (d, reaches_leads w s (e + 1) id d r) none))
    (λ d r. unled d (reaches_leads w s (e + 1) t d r)) (λ whole lt c. uncut (e + 1) whole c) e j in
    omega (arith, far)

-- the meaning of the tests of walks
tests_walks : (w : Ways) (q : Query) → WalkTests w q (Ok tt) → ((id : ℕ) → EndsLacking w q.from id → ⊥) × ((d : ℕ) → Leads w q.from q.to d → ⊥)
tests_walks w q h =
    let one : ((id : ℕ) → EndsLacking w q.from id → ⊥) × Tests (Leads w q.from q.to) Shorter Passed (Ok tt) = tests_passed (EndsLacking w q.from) MissingTuple (Tests (Leads w q.from q.to) Shorter Passed) tt h in
    let two : ((d : ℕ) → Leads w q.from q.to d → ⊥) × Passed (Ok tt) = tests_passed (Leads w q.from q.to) Shorter Passed tt one.1 in
    (one.0, two.0)

pub sound_apart_dij : IsSoundApart Dij
sound_apart_dij b g q m is a h =
    let s : BegunApart Dij b.numbers g q = begun_apart Dij b.numbers g q h in
    let w : Ways = any_ways (item_at g.nodes) in
    let t : ((id : ℕ) → EndsLacking w q.from id → ⊥) × ((d : ℕ) → Leads w q.from q.to d → ⊥) = tests_walks w q s.own in
    ends_known b g q a s.from_item s.to_item (no_walk b.parts (roads_known b.parts m) w (items_of_map b.parts g.nodes (λ _ _. true) (have_arcs b g a)) q.from q.to t.0 t.1 (λ limit whole c. not_false c.stops))
  where
    not_false : true ≡ false → ⊥
    not_false e = cc

-- ids that a walk joins are at fault
module _ (parts : Parts) (m : IsMap parts) (g : Items) (pairs_of : (p : PairLeaf) → Contains g.pairs p → IsPairOf parts p) (b c sum mid : ℕ) (j : Joins parts b c mid) where
  by_w : (w : ℕ) (o : Option ℕ) → o ≡ Some w → said_apart o ≡ None → ⊥
  by_w w None is e = cc
  by_w w (Some x) is e = cc

  by_item : (o : Option PairLeaf) → pair_at g.pairs b c ≡ o → named_apart b c o ≡ None → ⊥
  by_item None is e = cc
  by_item (Some p) is e =
      let says : Says parts b c p = pair_says parts m g.pairs b c mid p (pairs_of p (pair_named g.pairs b c p is).0) is j in
      by_w says.w (distance_in p) says.says e

  by_same : (t : Bool) → cond t (Some (Shorter sum)) (named_apart b c (pair_at g.pairs b c)) ≡ None → ⊥
  by_same true e = cc
  by_same false e = by_item (pair_at g.pairs b c) refl e

  pub joined_faulty : joined_fault g.pairs b c sum ≡ None → ⊥
  joined_faulty e = by_same (b == c) e

no_fault : (o : Option Refusal) → Ok tt ≡ by_fault o → o ≡ None
no_fault None e = refl
no_fault (Some r) e = cc

pub sound_apart_full : IsSoundApart Full
sound_apart_full b g q m is a h =
    let s : BegunApart Full b.numbers g q = begun_apart Full b.numbers g q h in
    let none : joined_fault g.pairs q.from q.to 0 ≡ None = no_fault (joined_fault g.pairs q.from q.to 0) s.own in
    ends_known b g q a s.from_item s.to_item (λ d j. joined_faulty b.parts m g a.pairs q.from q.to 0 d j none)

pub sound_apart_ldm : IsSoundApart Ldm
sound_apart_ldm b g q m is a h =
    let s : BegunApart Ldm b.numbers g q = begun_apart Ldm b.numbers g q h in
    let w : Ways = open_ways (item_at g.nodes) q.to in
    let of : IsOfMap b.parts w = items_of_map b.parts g.nodes w.lets (have_arcs b g a) in
    let t : ((id : ℕ) → EndsLacking w q.from id → ⊥) × ((d : ℕ) → Leads w q.from q.to d → ⊥) = tests_walks w q s.own in
    ends_known b g q a s.from_item s.to_item (no_walk b.parts (roads_known b.parts m) w of q.from q.to t.0 t.1 (uncut of (item_known b g a q.from s.from_item)))
  where
    not_false : (b : Bool) → not b ≡ false → b ≡ true
    not_false true e = refl
    not_false false e = cc

    uncut : IsOfMap b.parts (open_ways (item_at g.nodes) q.to) → Knows b.parts q.from → (limit whole : ℕ) → Cut b.parts (open_ways (item_at g.nodes) q.to) q.from limit q.to whole → ⊥
    uncut of known limit whole c =
        let here : Knows b.parts c.at = Joins-known b.parts (roads_known b.parts m) q.from c.at c.far (reaches_joins b.parts (open_ways (item_at g.nodes) q.to) of q.from limit c.at c.far known c.reached) in
        let j : Joins b.parts c.at q.to (walk_length c.back) = subst (λ x. Joins b.parts c.at x (walk_length c.back)) c.ends (along_joins b.parts c.at c.back here c.along) in
        parts_unjoined b g c.at q.to m is a (not_false (are_apart (item_at g.nodes) (item_at g.nodes c.at) (item_at g.nodes q.to)) c.stops) (walk_length c.back) j
